-- The annotations of a source are exactly those that the code reads.
use Rattle.std.proofs.Common.{◌≡◌, ◌⊎◌, ℕ, ◌+◌, List, [], ◌∷◌, ◌++◌, length, Result, Ok, Err, refl, sym, ap, subst, ◌∙◌, inl, inr, arith, append_assoc}
use Rattle.sp_lex.specs.declared.token.LineKind.{LineKind}
use Rattle.sp_lex.specs.declared.token.LineKind.TheVariants as line
use Rattle.sp_lex.specs.declared.token.SourceLine.{SourceLine}
use Rattle.sp_lex.specs.declared.token.Token.{Token}
use Rattle.sp_base.specs.declared.refused.Refused.{Refused}
use Rattle.sp_base.specs.declared.refused.Refused.TheVariants as refused
use Rattle.sp_base.specs.Refused.{Answers}
use Rattle.sp_note.specs.declared.part.NoteLine as declared
use Rattle.sp_note.specs.declared.refusal.NoteKind.{NoteKind}
use Rattle.sp_note.specs.Parts.{Part, NoteLine, lines_of}
use Rattle.sp_note.specs.Source.{Gives, AreNotesFrom, AreNotesOf, AreNotes, IsUnreadFrom, IsUnread, IsAnswered}
use Rattle.sp_note.specs.code.Lines.{Fault, from_line, then_notes, part_at, notes_from}
use Rattle.sp_note.specs.code.Source.{AnswersNotes}
use Rattle.sp_note.proofs.LineLemmas.{in_order}

abbrev Found : Type 0
Found = Result (List NoteLine) Fault

abbrev pub fault : NoteKind → ℕ → Fault
fault kind at = record { kind = kind; line = at }

abbrev note : ℕ → Part → NoteLine
note number part = record { line = number; part = part }

in_order-append : (given below : List NoteLine) (rest : Found) → in_order given (in_order below rest) ≡ in_order (given ++ below) rest
in_order-append given below (Ok rest) = ap (λ ns. Ok ns) (sym (append_assoc given below rest))
in_order-append given below (Err f) = refl

in_order-nil : (rest : Found) → rest ≡ in_order [] rest
in_order-nil (Ok rest) = refl
in_order-nil (Err f) = refl

then-one : (number : ℕ) (part : Part) (rest : Found) → then_notes number (Ok part) rest ≡ in_order (note number part ∷ []) rest
then-one number part (Ok rest) = refl
then-one number part (Err f) = refl

module _ (source : List ℕ) where
  -- what a line gives stands before what the lines below it give
  gives_order : (kind : LineKind) (number : ℕ) (tokens : List Token) (given : List NoteLine) (below : Found) → Gives kind source number tokens given
      → from_line kind number (part_at source tokens) below ≡ in_order given below
  gives_order line.Empty number tokens given below h = in_order-nil below ∙ ap (λ g. in_order g below) (sym h)
  gives_order line.Statement number tokens given below h = in_order-nil below ∙ ap (λ g. in_order g below) (sym h)
  gives_order line.Annotation number tokens given below h =
      ap (λ r. then_notes number r below) h.1 ∙ then-one number h.0 below ∙ ap (λ g. in_order g below) (sym h.2)

  from_above : (number : ℕ) (above rest : List SourceLine) (front : List NoteLine) → AreNotesFrom source number above front
      → notes_from source number (above ++ rest) ≡ in_order front (notes_from source (number + length above) rest)
  unfolding notes_from
  from_above number [] rest front h =
      let same : number ≡ number + 0 = omega arith in
      ap (λ n. notes_from source n rest) same ∙ in_order-nil (notes_from source (number + 0) rest)
      ∙ ap (λ g. in_order g (notes_from source (number + 0) rest)) (sym h)
  from_above number (first ∷ above) rest front h =
      let same : number + 1 + length above ≡ number + length (first ∷ above) = omega arith in
      gives_order first.kind number first.tokens h.0 (notes_from source (number + 1) (above ++ rest)) h.3
      ∙ ap (in_order h.0) (from_above (number + 1) above rest h.1 h.4)
      ∙ in_order-append h.0 h.1 (notes_from source (number + 1 + length above) rest)
      ∙ ap (λ g. in_order g (notes_from source (number + 1 + length above) rest)) (sym h.2)
      ∙ ap (λ n. in_order front (notes_from source n rest)) same

  -- lines that have these annotations are read as them
  pub ok_from : (number : ℕ) (lines : List SourceLine) (ns : List NoteLine) → AreNotesFrom source number lines ns → notes_from source number lines ≡ Ok ns
  unfolding notes_from
  ok_from number [] ns h = ap (λ found. Ok found) (sym h)
  ok_from number (first ∷ lines) ns h =
      gives_order first.kind number first.tokens h.0 (notes_from source (number + 1) lines) h.3
      ∙ ap (in_order h.0) (ok_from (number + 1) lines h.1 h.4) ∙ ap (λ found. Ok found) (sym h.2)

  line_gives : (kind : LineKind) (number : ℕ) (tokens : List Token) (read : Result Part NoteKind) (lines : List SourceLine) (below : Found) (ns : List NoteLine)
      → part_at source tokens ≡ read → ((rest : List NoteLine) → below ≡ Ok rest → AreNotesFrom source (number + 1) lines rest) → from_line kind number read below ≡ Ok ns
      → (given : List NoteLine) × (rest : List NoteLine) × (ns ≡ given ++ rest) × Gives kind source number tokens given × AreNotesFrom source (number + 1) lines rest
  line_gives line.Empty number tokens read lines below ns is under e = ([], ns, refl, refl, under ns e)
  line_gives line.Statement number tokens read lines below ns is under e = ([], ns, refl, refl, under ns e)
  line_gives line.Annotation number tokens (Err r) lines below ns is under e = absurd cc
  line_gives line.Annotation number tokens (Ok part) lines (Err f) ns is under e = absurd cc
  line_gives line.Annotation number tokens (Ok part) lines (Ok rest) ns is under e =
      let same : ns ≡ note number part ∷ rest = cc in
      (note number part ∷ [], rest, same, (part, is, refl), under rest refl)

  -- what is read are the annotations
  pub from_ok : (number : ℕ) (lines : List SourceLine) (ns : List NoteLine) → notes_from source number lines ≡ Ok ns → AreNotesFrom source number lines ns
  unfolding notes_from
  from_ok number [] ns e = cc
  from_ok number (first ∷ lines) ns e =
      line_gives first.kind number first.tokens (part_at source first.tokens) lines (notes_from source (number + 1) lines) ns refl (from_ok (number + 1) lines) e

  -- ---- the lowest line that isn't read

  unread_under : (number : ℕ) (first : SourceLine) (lines : List SourceLine) (given : List NoteLine) (f : Fault) → Gives first.kind source number first.tokens given
      → IsUnreadFrom source (number + 1) lines f.line f.kind → IsUnreadFrom source number (first ∷ lines) f.line f.kind
  unread_under number first lines given f gives h = record {
    above = first ∷ h.above;
    broken = h.broken;
    below = h.below;
    whole = ap (λ ls. first ∷ ls) h.whole;
    number_is = omega (arith, h.number_is);
    notes = given ++ h.notes;
    read = (given, h.notes, refl, gives, h.read);
    annotation_line = h.annotation_line;
    breaks = h.breaks;
  }

  unread_here : (number : ℕ) (first : SourceLine) (lines : List SourceLine) (kind : NoteKind) → first.kind ≡ line.Annotation → part_at source first.tokens ≡ Err kind
      → IsUnreadFrom source number (first ∷ lines) number kind
  unread_here number first lines kind is e = record {
    above = [];
    broken = first;
    below = lines;
    whole = refl;
    number_is = omega arith;
    notes = [];
    read = refl;
    annotation_line = is;
    breaks = e;
  }

  line_unread : (kind : LineKind) (number : ℕ) (first : SourceLine) (read : Result Part NoteKind) (lines : List SourceLine) (below : Found) (f : Fault)
      → first.kind ≡ kind → part_at source first.tokens ≡ read → ((g : Fault) → below ≡ Err g → IsUnreadFrom source (number + 1) lines g.line g.kind) → from_line kind number read below ≡ Err f
      → IsUnreadFrom source number (first ∷ lines) f.line f.kind
  line_unread line.Empty number first read lines below f kind is under e =
      unread_under number first lines [] f (subst (λ k. Gives k source number first.tokens []) (sym kind) refl) (under f e)
  line_unread line.Statement number first read lines below f kind is under e =
      unread_under number first lines [] f (subst (λ k. Gives k source number first.tokens []) (sym kind) refl) (under f e)
  line_unread line.Annotation number first (Err r) lines below f kind is under e =
      let same : fault r number ≡ f = cc in
      subst (λ (g : Fault). IsUnreadFrom source number (first ∷ lines) g.line g.kind) same (unread_here number first lines r kind is)
  line_unread line.Annotation number first (Ok part) lines (Ok rest) f kind is under e = absurd cc
  line_unread line.Annotation number first (Ok part) lines (Err g) f kind is under e =
      let same : g ≡ f = cc in
      unread_under number first lines (note number part ∷ []) f (subst (λ k. Gives k source number first.tokens (note number part ∷ [])) (sym kind) (part, is, refl))
      (subst (λ (h : Fault). IsUnreadFrom source (number + 1) lines h.line h.kind) same (under g refl))

  pub from_err : (number : ℕ) (lines : List SourceLine) (f : Fault) → notes_from source number lines ≡ Err f → IsUnreadFrom source number lines f.line f.kind
  unfolding notes_from
  from_err number [] f e = absurd cc
  from_err number (first ∷ lines) f e =
      line_unread first.kind number first (part_at source first.tokens) lines (notes_from source (number + 1) lines) f refl refl (from_err (number + 1) lines) e

  broken_at : (kind : LineKind) (number : ℕ) (tokens : List Token) (why : NoteKind) (below : Found) → kind ≡ line.Annotation → part_at source tokens ≡ Err why
      → from_line kind number (part_at source tokens) below ≡ Err (fault why number)
  broken_at kind number tokens why below is h =
      ap (λ k. from_line k number (part_at source tokens) below) is ∙ ap (λ r. then_notes number r below) h

  -- and a source with such a line isn't
  pub err_from : (number : ℕ) (lines : List SourceLine) (at : ℕ) (kind : NoteKind) → IsUnreadFrom source number lines at kind → notes_from source number lines ≡ Err (fault kind at)
  unfolding notes_from
  err_from number lines at kind h =
      let there = broken_at h.broken.kind at h.broken.tokens kind (notes_from source (at + 1) h.below) h.annotation_line h.breaks in
      ap (notes_from source number) h.whole ∙ from_above number h.above (h.broken ∷ h.below) h.notes h.read
      ∙ ap (in_order h.notes) (ap (λ n. notes_from source n (h.broken ∷ h.below)) (sym h.number_is) ∙ there)

-- ---- answers

same_notes : (one other : List NoteLine) (r : Found) → r ≡ Ok one → r ≡ Ok other → one ≡ other
same_notes one other r e f = cc

same_fault : (one other : Fault) (r : Found) → r ≡ Err one → r ≡ Err other → one ≡ other
same_fault one other r e f = cc

ok_or_err : (C : Type 0) (ns : List NoteLine) (f : Fault) (r : Found) → r ≡ Ok ns → r ≡ Err f → C
ok_or_err C ns f r e g = absurd cc

module _ (source : List ℕ) (lines : List SourceLine) where
  pub right_by : (result : Result (List declared.NoteLine) (Refused NoteKind)) → AnswersNotes result (notes_from source 1 lines) → Answers (AreNotes source lines) (IsUnread source lines) result
  right_by (Ok ns) h = from_ok source 1 lines (lines_of ns) h
  right_by (Err (refused.At number kind)) h = from_err source 1 lines (fault kind number.0) h
  right_by (Err refused.Memory) h = tt

  whole_by : (result : Result (List declared.NoteLine) (Refused NoteKind)) → AnswersNotes result (notes_from source 1 lines) → (ns : List NoteLine) → AreNotesOf source lines ns
      → ((read : List declared.NoteLine) × (result ≡ Ok read) × (lines_of read ≡ ns)) ⊎ (result ≡ Err refused.Memory)
  whole_by (Ok read) h ns are = inl (read, refl, same_notes (lines_of read) ns (notes_from source 1 lines) h (ok_from source 1 lines ns are))
  whole_by (Err (refused.At number kind)) h ns are = ok_or_err _ ns (fault kind number.0) (notes_from source 1 lines) (ok_from source 1 lines ns are) h
  whole_by (Err refused.Memory) h ns are = inr refl

  exact_by : (result : Result (List declared.NoteLine) (Refused NoteKind)) → AnswersNotes result (notes_from source 1 lines) → (at : ℕ) (kind : NoteKind) → IsUnread source lines at kind
      → (result ≡ Err (refused.At (record { 0 = at }) kind)) ⊎ (result ≡ Err refused.Memory)
  exact_by (Ok read) h at kind unread = ok_or_err _ (lines_of read) (fault kind at) (notes_from source 1 lines) h (err_from source 1 lines at kind unread)
  exact_by (Err (refused.At number other)) h at kind unread =
      let same = same_fault (fault other number.0) (fault kind at) (notes_from source 1 lines) h (err_from source 1 lines at kind unread) in
      inl (ap (λ (f : Fault). Err (refused.At (record { 0 = f.line }) f.kind)) same)
  exact_by (Err refused.Memory) h at kind unread = inr refl

  pub answered_by : (result : Result (List declared.NoteLine) (Refused NoteKind)) → AnswersNotes result (notes_from source 1 lines) → IsAnswered source lines result
  answered_by result h = record { whole = whole_by result h; exact = exact_by result h }
