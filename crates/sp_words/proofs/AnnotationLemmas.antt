-- What the table of the words of annotations finds.
use Rattle.std.proofs.Common.{◌≡◌, ℕ, Bool, true, false, List, Option, Some, None, refl, sym, ap, subst, ◌∙◌}
use Rattle.std.specs.Prelude.{nat_eq, ◌&&◌, ◌↔◌, IfSome, is_some}
use Rattle.std.specs.Cmp.Lexicographic.{pointwise, same_text}
use Rattle.std.specs.Map.{lookup}
use Rattle.std.proofs.lemmas.Bool.{and_parts}
use Rattle.sp_base.specs.declared.location.Loc.TheVariants as loc
use Rattle.sp_words.specs.declared.annotation.AnnotationWord.{AnnotationWord}
use Rattle.sp_words.specs.declared.annotation.AnnotationWord.TheVariants as word
use Rattle.sp_words.specs.declared.annotation.TheConstants.{ANNOTATION_WORDS}
use Rattle.sp_words.specs.code.Slots.{slot_named}
use Rattle.sp_words.specs.code.Tables.{or_slot, annotation_word_named, is_annotation_word}
use Rattle.sp_words.specs.Annotations.{annotation_name, IsWritten, IsAnnotationWord}
use Rattle.sp_words.proofs.NameLemmas.{found_passes}
use Rattle.sp_words.proofs.ReservedLemmas.{the_some}
use Rattle.sp_words.proofs.SlotLemmas.{slot_exact}

-- a word without a number
abbrev is_plain : AnnotationWord → Bool
is_plain (word.Slot k) = false
is_plain _ = true

plain_is_written : (w : AnnotationWord) → is_plain w ≡ true → IsWritten w
plain_is_written (word.Slot k) e = absurd cc
plain_is_written _ e = tt

abbrev in_table : List ℕ → Option AnnotationWord
in_table name = lookup (λ key. pointwise nat_eq key.now name) ANNOTATION_WORDS

abbrev IsNamed : List ℕ → AnnotationWord → Type 0
IsNamed name w = IsWritten w × (name ≡ annotation_name w)

table_is_named : (name : List ℕ) (w : AnnotationWord) → in_table name ≡ Some w → IsNamed name w
table_is_named name w e =
    let passes = found_passes (λ key. key.now) (λ n x. pointwise nat_eq n (annotation_name x) && is_plain x) name ANNOTATION_WORDS refl in
    let both = and_parts (pointwise nat_eq name (annotation_name w)) (is_plain w) (subst (λ r. IfSome r (λ x. (pointwise nat_eq name (annotation_name x) && is_plain x) ≡ true)) e passes) in
    (plain_is_written w both.1, same_text name (annotation_name w) (sym both.0))

found_is_named : (name : List ℕ) (w : AnnotationWord) (table : Option AnnotationWord) (slot : Option ℕ) → in_table name ≡ table → slot_named name ≡ slot → or_slot table slot ≡ Some w → IsNamed name w
found_is_named name w (Some found) slot t s e = table_is_named name w (t ∙ e)
found_is_named name w None (Some k) t s e =
    let slot = (slot_exact name k).0 s in
    subst (λ x. IsNamed name x) (the_word (word.Slot k) w e) ((slot.0, slot.1), slot.2)
  where
    the_word : (a b : AnnotationWord) → Some a ≡ Some b → a ≡ b
    the_word a b e = cc
found_is_named name w None None t s e = absurd cc

word_found : (w : AnnotationWord) → IsWritten w → annotation_word_named (annotation_name w) ≡ Some w
unfolding annotation_word_named
word_found word.Addr h = refl
word_found word.All h = refl
word_found word.And h = refl
word_found word.Band h = refl
word_found word.Bor h = refl
word_found word.Bxor h = refl
word_found word.Div h = refl
word_found word.False h = refl
word_found word.For h = refl
word_found word.In h = refl
word_found word.Len h = refl
word_found word.Mem h = refl
word_found word.Mod h = refl
word_found word.Not h = refl
word_found word.Or h = refl
word_found word.Par h = refl
word_found word.Some h = refl
word_found word.Total h = refl
word_found word.True h = refl
word_found (word.Loc loc.A) h = refl
word_found (word.Loc loc.B) h = refl
word_found (word.Loc loc.C) h = refl
word_found (word.Loc loc.D) h = refl
word_found (word.Loc loc.E) h = refl
word_found (word.Loc loc.H) h = refl
word_found (word.Loc loc.L) h = refl
word_found (word.Loc loc.S) h = refl
word_found (word.Loc loc.Z) h = refl
word_found (word.Loc loc.Ac) h = refl
word_found (word.Loc loc.P) h = refl
word_found (word.Loc loc.Cy) h = refl
word_found word.Bc h = refl
word_found word.De h = refl
word_found word.Hl h = refl
word_found (word.Slot k) h = ap (or_slot None) ((slot_exact (annotation_name (word.Slot k)) k).1 (h.0, h.1, refl))

module _ (name : List ℕ) where
  pub annotation_exact : (w : AnnotationWord) → (annotation_word_named name ≡ Some w) ↔ (IsWritten w × (name ≡ annotation_name w))
  unfolding annotation_word_named
  annotation_exact w = (found_is_named name w (in_table name) (slot_named name) refl refl, λ h. ap annotation_word_named h.1 ∙ word_found w h.0)

  pub is_annotation_exact : (is_annotation_word name ≡ true) ↔ IsAnnotationWord name
  unfolding is_annotation_word
  is_annotation_exact = (
    λ e. (let found = the_some (annotation_word_named name) e in
        let named = (annotation_exact found.0).0 found.1 in
        record { word = found.0; written = named.0; named = named.1 }),
    λ h. ap is_some ((annotation_exact h.word).1 (h.written, h.named)),
  )
