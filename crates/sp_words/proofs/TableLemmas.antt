-- A search by halves in a sorted table finds what stands beside the word.
use Rattle.std.proofs.Common.{◌≡◌, ℕ, zero, suc, ◌+◌, ◌<◌, ◌≤◌, true, false, cond, List, [], ◌∷◌, length, get_or, Option, Some, None, Err, refl, sym, ap, subst, ◌∙◌, arith, inl, inr}
use Rattle.std.specs.Prelude.{nat_eq}
use Rattle.std.specs.Cmp.Lexicographic.{pointwise, slice_cmp, nat_list_cmp_total, texts_ties}
use Rattle.std.specs.declared.cmp.Ordering.{Ordering}
use Rattle.std.specs.declared.cmp.Ordering.TheVariants.{Less, Equal, Greater}
use Rattle.std.specs.Ordering.{is_lt, is_eq, nat_cmp, ordering_reverse}
use Rattle.std.specs.List.Sorted.{IsSortedBy, IsBinarySearchResult}
use Rattle.std.specs.Map.{lookup}
use Rattle.std.proofs.lemmas.Bool.{and_parts, cases_lt}
use Rattle.std.proofs.lemmas.Cmp.{alike_right}
use Rattle.std.proofs.lemmas.List.Sorted.{searchable_from_sorted}
use Rattle.sp_words.specs.code.Tables.{is_sorted}

abbrev order : List ℕ → List ℕ → Ordering
order = slice_cmp nat_cmp

less : (o : Ordering) → is_lt o ≡ true → o ≡ Less
less Less e = refl
less Equal e = absurd cc
less Greater e = absurd cc

module _ {K X : Type 0} (key : K → List ℕ) where
  abbrev word_of : K × X → List ℕ
  word_of row = key row.0

  tail : (row : K × X) (rows : List (K × X)) → is_sorted word_of (row ∷ rows) ≡ true → is_sorted word_of rows ≡ true
  tail row [] sorted = refl
  tail row (next ∷ rows) sorted = (and_parts (is_lt (order (word_of row) (word_of next))) (is_sorted word_of (next ∷ rows)) sorted).1

  -- the first word is below every other one
  below : (row : K × X) (rows : List (K × X)) → is_sorted word_of (row ∷ rows) ≡ true → (i : ℕ) (d : K × X) → i < length rows
      → order (word_of row) (word_of (get_or rows i d)) ≡ Less
  below row [] sorted i d lt = absurd (omega arith)
  below row (next ∷ rows) sorted zero d lt = less _ (and_parts (is_lt (order (word_of row) (word_of next))) (is_sorted word_of (next ∷ rows)) sorted).0
  below row (next ∷ rows) sorted (suc i) d lt =
      let parts = and_parts (is_lt (order (word_of row) (word_of next))) (is_sorted word_of (next ∷ rows)) sorted in
      nat_list_cmp_total.trans (word_of row) (word_of next) _ (less _ parts.0) (below next rows parts.1 i d (omega arith))

  not_below : (row next : K × X) → order (word_of row) (word_of next) ≡ Less → is_lt (order (word_of next) (word_of row)) ≡ false
  not_below row next e = ap is_lt (nat_list_cmp_total.antisymm (word_of next) (word_of row) ∙ ap ordering_reverse e)

  rises : (rows : List (K × X)) → is_sorted word_of rows ≡ true → IsSortedBy (λ a b. is_lt (order (word_of a) (word_of b))) rows
  rises [] sorted k d low high = absurd (omega arith)
  rises (row ∷ rows) sorted zero d low high = not_below row (get_or rows 0 d) (below row rows sorted 0 d (omega arith))
  rises (row ∷ rows) sorted (suc k) d low high =
      let next : suc (k + 1) ≡ suc k + 1 = omega arith in
      subst (λ i. is_lt (order (word_of (get_or (row ∷ rows) i d)) (word_of (get_or rows k d))) ≡ false) next
      (rises rows (tail row rows sorted) k d (omega arith) (omega arith))

  module _ (word : List ℕ) where
    abbrev found : List (K × X) → Option X
    found rows = lookup (λ k. pointwise nat_eq (key k) word) rows

    misses : (row : K × X) (rows : List (K × X)) (o : Ordering) → order (word_of row) word ≡ o → is_eq o ≡ false → found (row ∷ rows) ≡ found rows
    misses row rows o e differs = ap (λ b. cond b (Some row.1) (found rows)) (texts_ties (word_of row) word ∙ ap is_eq e ∙ differs)

    hits : (row : K × X) (rows : List (K × X)) → order (word_of row) word ≡ Equal → found (row ∷ rows) ≡ Some row.1
    hits row rows e = ap (λ b. cond b (Some row.1) (found rows)) (texts_ties (word_of row) word ∙ ap is_eq e)

    pub found_at : (rows : List (K × X)) → is_sorted word_of rows ≡ true → (i : ℕ) (d : K × X) → i < length rows
        → order (word_of (get_or rows i d)) word ≡ Equal → Some (get_or rows i d).1 ≡ found rows
    found_at [] sorted i d lt e = absurd (omega arith)
    found_at (row ∷ rows) sorted zero d lt e = sym (hits row rows e)
    found_at (row ∷ rows) sorted (suc i) d lt e =
        let first = sym (alike_right nat_list_cmp_total _ word (word_of row) e) ∙ below row rows sorted i d (omega arith) in
        found_at rows (tail row rows sorted) i d (omega arith) e ∙ sym (misses row rows Less first refl)

    pub not_found : (rows : List (K × X)) → ((i : ℕ) (d : K × X) → i < length rows → is_eq (order (word_of (get_or rows i d)) word) ≡ false) → None ≡ found rows
    not_found [] differ = refl
    not_found (row ∷ rows) differ = not_found rows (λ i d lt. differ (suc i) d (omega arith)) ∙ sym (misses row rows _ refl (differ 0 row (omega arith)))

    pub gap : (rows : List (K × X)) → is_sorted word_of rows ≡ true → (i : ℕ) → i ≤ length rows
        → IsBinarySearchResult (λ row. order (word_of row) word) rows (Err i) → None ≡ found rows
    gap rows sorted i le parted =
        let parts = parted (searchable_from_sorted nat_list_cmp_total word_of rows word (rises rows sorted)) in
        not_found rows (λ j d lt. elim (cases_lt j i) [
          | inl before ↦ ap is_eq (parts.0 j d (omega arith) before)
          | inr after ↦ ap is_eq (parts.1 j d after lt)
        ])
