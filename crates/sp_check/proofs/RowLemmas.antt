-- What excludes each row of the order of refusals.
use Rattle.std.proofs.Common.{◌≡◌, ℕ, List, map, Result, Ok, Err, ap, subst}
use Rattle.sp_asm.specs.Assembly.{Row, item_of}
use Rattle.sp_asm.specs.Source as asm
use Rattle.sp_asm.specs.Source.{HasAssembly}
use Rattle.sp_asm.specs.declared.refusal.AsmKind.{AsmKind}
use Rattle.sp_asm.proofs.AnswerLaws as assembly
use Rattle.sp_lex.specs.Reading.{AreLines, IsFaultAt}
use Rattle.sp_lex.specs.declared.refusal.TextKind.{TextKind}
use Rattle.sp_lex.specs.declared.token.SourceLine.{SourceLine}
use Rattle.sp_lex.proofs.SourceLemmas.{one_reading, lines_exclude_fault}
use Rattle.sp_note.specs.Parts.{NoteLine}
use Rattle.sp_note.specs.Source.{AreNotesOf, IsUnread}
use Rattle.sp_note.specs.code.Lines.{Fault, notes_from}
use Rattle.sp_note.specs.declared.refusal.NoteKind.{NoteKind}
use Rattle.sp_note.proofs.SourceLemmas.{fault, ok_from, err_from}
use Rattle.sp_prog.specs.Program.{Program}
use Rattle.sp_unit.specs.Faults.{IsCause, KeepsRules}
use Rattle.sp_unit.specs.SourceUnits.{IsUnitOf}
use Rattle.sp_unit.specs.declared.refusal.UnitKind.{UnitKind}
use Rattle.sp_unit.proofs.CauseLemmas.{sources_have_one_cause}
use Rattle.sp_check.specs.Plain.{plain}
use Rattle.sp_check.specs.Refusals.{IsUnreadNote, BreaksUnit}
use Rattle.sp_check.specs.Units.{IsRead, said, entries, HasUnit}
use Rattle.sp_unit.proofs.UnitMergeLemmas.{merged_notes}
use Rattle.sp_check.proofs.OneUnitLemmas.{one_unit}

abbrev Found : Type 0
Found = Result (List NoteLine) Fault

same_notes : (r : Found) (one other : List NoteLine) → r ≡ Ok one → r ≡ Ok other → one ≡ other
same_notes r one other h g = cc

same_fault : (r : Found) (one other : Fault) → r ≡ Err one → r ≡ Err other → one ≡ other
same_fault r one other h g = cc

never_both : (r : Found) (notes : List NoteLine) (f : Fault) → r ≡ Ok notes → r ≡ Err f → ⊥
never_both r notes f h g = cc

module _ (source : List ℕ) where
  -- lines have one list of annotations at most, or one lowest line that isn't in the grammar
  one_list : (lines : List SourceLine) (notes others : List NoteLine) → AreNotesOf source lines notes → AreNotesOf source lines others → notes ≡ others
  one_list lines notes others h g =
      same_notes (notes_from source 1 lines) notes others (ok_from source 1 lines notes h) (ok_from source 1 lines others g)

  one_unread : (lines : List SourceLine) (line there : ℕ) (k other : NoteKind) → IsUnread source lines line k → IsUnread source lines there other
      → (line ≡ there) × (k ≡ other)
  one_unread lines line there k other h g =
      let same = same_fault (notes_from source 1 lines) (fault k line) (fault other there) (err_from source 1 lines line k h) (err_from source 1 lines there other g) in
      (ap (λ (f : Fault). f.line) same, ap (λ (f : Fault). f.kind) same)

  pub assembly_of : (rows : List Row) (notes : List NoteLine) → IsRead source rows notes → HasAssembly source rows
  assembly_of rows notes h = record { lines = h.lines; read = h.read; assembles = h.assembles }

  -- a source is read in one way
  pub one_read : (rows others : List Row) (notes more : List NoteLine) → IsRead source rows notes → IsRead source others more → (rows ≡ others) × (notes ≡ more)
  one_read rows others notes more h g =
      let lines = one_reading source h.lines g.lines h.read g.read in (
        assembly.one_of_source source rows others (assembly_of rows notes h) (assembly_of others more g),
        one_list g.lines notes more (subst (λ ls. AreNotesOf source ls notes) lines h.annotated) g.annotated,
      )

  pub one_plain : (p q : Program) → HasUnit source p → HasUnit source q → plain p ≡ plain q
  one_plain p q h g =
      let same = one_read h.rows g.rows h.notes g.notes h.read g.read in
      one_unit (said g.rows g.notes) (entries g.rows g.notes) (merged_notes (map item_of g.rows) g.notes) p q
      (subst (λ notes. IsUnitOf (said g.rows notes) (entries g.rows notes) p) same.1 (subst (λ rows. IsUnitOf (said rows h.notes) (entries rows h.notes) p) same.0 h.is))
      g.is

  -- ---- Each row has one line and one kind

  pub one_note : (line there : ℕ) (k other : NoteKind) → IsUnreadNote source line k → IsUnreadNote source there other → (line ≡ there) × (k ≡ other)
  one_note line there k other h g =
      let lines = one_reading source h.lines g.lines h.read g.read in
      one_unread g.lines line there k other (subst (λ ls. IsUnread source ls line k) lines h.unread) g.unread

  pub one_unit_cause : (line there : ℕ) (k other : UnitKind) → BreaksUnit source line k → BreaksUnit source there other → (line ≡ there) × (k ≡ other)
  one_unit_cause line there k other h g =
      let same = one_read h.rows g.rows h.notes g.notes h.read g.read in
      sources_have_one_cause.one (said g.rows g.notes) (entries g.rows g.notes) line there k other
      (subst (λ notes. IsCause (said g.rows notes) (entries g.rows notes) line k) same.1
      (subst (λ rows. IsCause (said rows h.notes) (entries rows h.notes) line k) same.0 h.cause)) g.cause

  -- ---- What passes a row isn't refused there

  pub lines_or_text : (lines : List SourceLine) (line : ℕ) (k : TextKind) → AreLines source lines → IsFaultAt source line k → ⊥
  lines_or_text lines line k h g = lines_exclude_fault source lines line k h g

  pub rows_or_asm : (rows : List Row) (line : ℕ) (k : AsmKind) → HasAssembly source rows → asm.IsRefused source line k → ⊥
  rows_or_asm rows line k h g = assembly.assembled_or_refused source rows line k h g

  pub notes_or_unread : (rows : List Row) (notes : List NoteLine) (line : ℕ) (k : NoteKind) → IsRead source rows notes → IsUnreadNote source line k → ⊥
  notes_or_unread rows notes line k h g =
      let lines = one_reading source g.lines h.lines g.read h.read in
      never_both (notes_from source 1 h.lines) notes (fault k line) (ok_from source 1 h.lines notes h.annotated)
      (err_from source 1 h.lines line k (subst (λ ls. IsUnread source ls line k) lines g.unread))

  pub rules_or_cause : (rows : List Row) (notes : List NoteLine) (line : ℕ) (k : UnitKind) → IsRead source rows notes
      → KeepsRules (said rows notes) (entries rows notes) → BreaksUnit source line k → ⊥
  rules_or_cause rows notes line k h keeps g =
      let same = one_read g.rows rows g.notes notes g.read h in
      sources_have_one_cause.apart (said rows notes) (entries rows notes) line k keeps
      (subst (λ ns. IsCause (said rows ns) (entries rows ns) line k) same.1
      (subst (λ rs. IsCause (said rs g.notes) (entries rs g.notes) line k) same.0 g.cause))
