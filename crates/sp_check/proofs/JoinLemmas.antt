-- From the answers of the layers to that of the source.
use Rattle.std.proofs.Common.{◌≡◌, ℕ, List, Err, sym, ap, subst}
use Rattle.sp_asm.specs.Listing.{IsListing}
use Rattle.sp_asm.specs.declared.listing.Listing.{Listing}
use Rattle.sp_base.specs.declared.line.Line.{Line}
use Rattle.sp_base.specs.declared.refused.Refused.{Refused}
use Rattle.sp_base.specs.declared.refused.Refused.TheVariants as refused
use Rattle.sp_base.specs.Refused.{Answers, HasKindBy}
use Rattle.sp_lex.specs.Reading.{AreLines}
use Rattle.sp_lex.specs.declared.token.SourceLine.{SourceLine}
use Rattle.sp_note.specs.Parts.{lines_of}
use Rattle.sp_note.specs.Source.{AreNotes}
use Rattle.sp_note.specs.declared.part.NoteLine as declared
use Rattle.sp_prog.specs.Program.{Program}
use Rattle.sp_prog.specs.Rules.{IsUnit}
use Rattle.sp_unit.specs.Faults.{IsCause}
use Rattle.sp_unit.specs.SourceUnits.{IsUnitOf}
use Rattle.sp_unit.specs.Lines.{merged}
use Rattle.sp_unit.specs.Sources as sources
use Rattle.sp_unit.specs.declared.refusal.UnitKind.{UnitKind}
use Rattle.sp_unit.specs.Origin.{AreOfOneSource, IsJoined, IsUnjoined, said_by, entries_by}
use Rattle.sp_check.specs.declared.refusal.CheckKind.{CheckKind}
use Rattle.sp_check.specs.Refusals.{BreaksUnit}
use Rattle.sp_check.specs.Units.{IsRead, said, entries, HasUnit}

-- a refusal of a layer, handed on under its kind here
pub carried : {A B J : Type 0} (Right : A → Type 0) (Other : B → Type 0) (named : J → CheckKind) (C : ℕ → J → Type 0) (D : ℕ → CheckKind → Type 0)
    → ((line : ℕ) (k : J) → C line k → D line (named k)) → (low : Refused J) (high : Refused CheckKind) → HasKindBy (λ l h. h ≡ named l) low high
    → Answers Right C (Err low) → Answers Other D (Err high)
carried Right Other named C D into (refused.At line l) (refused.At at h) (same, is) c =
    subst (λ k. D at.0 k) (sym is) (subst (λ (n : Line). D n.0 (named l)) (sym same) (into line.0 l c))
carried Right Other named C D into refused.Memory refused.Memory h c = tt
carried Right Other named C D into (refused.At line l) refused.Memory h c = absurd h
carried Right Other named C D into refused.Memory (refused.At at k) h c = absurd h

module _ (source : List ℕ) (lines : List SourceLine) (read : AreLines source lines) (listing : Listing) (is : IsListing source lines listing) where
  module _ (notes : List declared.NoteLine) (are : AreNotes source lines notes) where
    -- listing and annotations come from this source
    pub of_one : AreOfOneSource listing notes
    of_one = record { bytes = source; rows = lines; read = read; listed = is; noted = are }

    is_read : IsRead source is.0 (lines_of notes)
    is_read = record { lines = lines; read = read; assembles = is.1; annotated = are }

    same_said : said_by listing notes ≡ said is.0 (lines_of notes)
    same_said =
        let image = is.2.image in
        let names = is.2.names in
        λ i. sources.source (image i) (names i) (lines_of notes)

    same_entries : entries_by listing notes ≡ entries is.0 (lines_of notes)
    same_entries = ap (λ items. merged items (lines_of notes)) is.2.items

    pub has_unit : (p : Program) → IsUnit p → IsJoined listing notes p → HasUnit source p
    has_unit p keeps h = record {
      rows = is.0;
      notes = lines_of notes;
      read = is_read;
      is = subst (λ es. IsUnitOf (said is.0 (lines_of notes)) es p) same_entries (subst (λ s. IsUnitOf s (entries_by listing notes) p) same_said h);
      keeps = keeps;
    }

    pub breaks_unit : (line : ℕ) (k : UnitKind) → IsUnjoined listing notes line k → BreaksUnit source line k
    breaks_unit line k h = record {
      rows = is.0;
      notes = lines_of notes;
      read = is_read;
      cause = subst (λ es. IsCause (said is.0 (lines_of notes)) es line k) same_entries (subst (λ s. IsCause s (entries_by listing notes) line k) same_said h);
    }
