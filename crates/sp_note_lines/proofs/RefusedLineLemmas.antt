-- Which lines are refused.
use Rattle.std.proofs.Common.{◌≡◌, ℕ, List, ◌∷◌, Some, Result, Ok, Err, refl, sym, ap, ◌∙◌, inl, inr}
use Rattle.std.specs.Prelude.{codes, ◌↔◌}
use Rattle.std.specs.Option.{option_and_then}
use Rattle.sp_lex.specs.declared.token.Token.{Token}
use Rattle.sp_lex.specs.Readers.{name_at}
use Rattle.sp_note.specs.declared.refusal.NoteKind.{NoteKind}
use Rattle.sp_note.specs.Conditions.{BreaksCondition}
use Rattle.sp_note.specs.Parts as parts
use Rattle.sp_note.specs.Parts.{Part}
use Rattle.sp_note.specs.RawNotes.{RawNote}
use Rattle.sp_note.specs.code.Lines.{condition_of, read_as, part_after, keyword_named, part_by, part_at}
use Rattle.sp_note.proofs.ConditionLemmas.{breaks, read_broken}
use Rattle.sp_note_lines.specs.Lines.{IsPart, BeginsCondition}
use Rattle.sp_note_lines.proofs.LineLemmas.{reads_part, part_reads}

module _ (source : List ℕ) where
  answer : (tokens : List Token) (r : Result Part NoteKind) → part_at source tokens ≡ r → ((part : Part) → ¬ IsPart source tokens part) → (kind : NoteKind) × (part_at source tokens ≡ Err kind)
  answer tokens (Ok part) is none = absurd (none part (reads_part source tokens part is))
  answer tokens (Err kind) is none = (kind, is)

  pub says_none : (tokens : List Token) → ((part : Part) → ¬ IsPart source tokens part) → (kind : NoteKind) × (part_at source tokens ≡ Err kind)
  says_none tokens none = answer tokens (part_at source tokens) refl none

  pub none_says : (tokens : List Token) → ((kind : NoteKind) × (part_at source tokens ≡ Err kind)) → (part : Part) → ¬ IsPart source tokens part
  none_says tokens h part is =
      let bad : Err h.0 ≡ Ok part = sym h.1 ∙ part_reads source tokens part is in cc

  as_err : {Y : Type 0} (f : RawNote → Y) (r : Result RawNote NoteKind) (kind : NoteKind) → read_as f r ≡ Err kind → r ≡ Err kind
  as_err f (Ok x) kind e = absurd cc
  as_err f (Err k) kind e = let same : k ≡ kind = cc in ap (λ k. Err k) same

  by_reading : (first : Token) (rest : List Token) (kind : NoteKind) (f : RawNote → Part) → part_at source (first ∷ rest) ≡ read_as f (condition_of source rest)
      → (part_at source (first ∷ rest) ≡ Err kind) ↔ BreaksCondition source rest kind
  by_reading first rest kind f is =
      (λ e. breaks source rest kind (as_err f (condition_of source rest) kind (sym is ∙ e)), λ h. is ∙ ap (read_as f) (read_broken source rest kind h))

  begun : (first : Token) (rest : List Token) (word : List ℕ) → name_at source first ≡ Some word → part_at source (first ∷ rest) ≡ part_by (keyword_named word) source rest
  unfolding part_at
  begun first rest word says = ap (λ name. part_by (option_and_then keyword_named name) source rest) says

  pre_is : (rest : List Token) → part_by (keyword_named (codes "PRE")) source rest ≡ read_as (λ p. parts.Pre p) (condition_of source rest)
  unfolding keyword_named part_after
  pre_is rest = refl

  post_is : (rest : List Token) → part_by (keyword_named (codes "POST")) source rest ≡ read_as (λ p. parts.Post p) (condition_of source rest)
  unfolding keyword_named part_after
  post_is rest = refl

  assert_is : (rest : List Token) → part_by (keyword_named (codes "ASSERT")) source rest ≡ read_as (λ p. parts.Assert p) (condition_of source rest)
  unfolding keyword_named part_after
  assert_is rest = refl

  pub condition_lines : (first : Token) (rest : List Token) (word : List ℕ) (kind : NoteKind) → name_at source first ≡ Some word → BeginsCondition word
      → (part_at source (first ∷ rest) ≡ Err kind) ↔ BreaksCondition source rest kind
  condition_lines first rest word kind says (inl pre) =
      by_reading first rest kind (λ p. parts.Pre p) (begun first rest word says ∙ ap (λ w. part_by (keyword_named w) source rest) pre ∙ pre_is rest)
  condition_lines first rest word kind says (inr (inl post)) =
      by_reading first rest kind (λ p. parts.Post p) (begun first rest word says ∙ ap (λ w. part_by (keyword_named w) source rest) post ∙ post_is rest)
  condition_lines first rest word kind says (inr (inr assert)) =
      by_reading first rest kind (λ p. parts.Assert p) (begun first rest word says ∙ ap (λ w. part_by (keyword_named w) source rest) assert ∙ assert_is rest)
