-- Lists that rise by a key and have the same elements are one.
use Rattle.std.proofs.Common.{◌≡◌, ◌⊎◌, ℕ, ◌<◌, List, [], ◌∷◌, map, refl, sym, ap, subst, inl, inr, arith}
use Rattle.std.specs.Prelude.{AllPairs, Contains}
use Rattle.std.specs.List.Sorted.{IsStrictlyIncreasing}
use Rattle.std.proofs.lemmas.List.Kept.{AllPairs-from_increasing}
use Rattle.sp_prog.proofs.MemberLemmas.{across, of_second, none, first, later, first_or_later, in_map}

module _ {A : Type 0} (key : A → ℕ) where
  -- each element has a lower key than those after it
  abbrev Rises : List A → Type 0
  Rises [] = Unit {0}
  Rises (x ∷ xs) = ((y : A) → Contains xs y → key x < key y) × Rises xs

  rises_by : (xs : List A) → AllPairs (λ m n. m < n) (map key xs) → Rises xs
  rises_by [] h = tt
  rises_by (x ∷ xs) h = (
    λ y in_xs. across (λ m n. m < n) (key x ∷ []) (map key xs) h (key x) (key y) (first (key x) []) (in_map key xs y in_xs),
    rises_by xs (of_second (λ m n. m < n) (key x ∷ []) (map key xs) h),
  )

  abbrev HasAllOf : List A → List A → Type 0
  HasAllOf xs ys = (z : A) → Contains ys z → Contains xs z

  same_first : (x y : A) (xs ys : List A) → Rises (x ∷ xs) → Rises (y ∷ ys) → (y ≡ x) ⊎ Contains ys x → (x ≡ y) ⊎ Contains xs y → x ≡ y
  same_first x y xs ys h g (inl e) at = sym e
  same_first x y xs ys h g (inr c) (inl e) = e
  same_first x y xs ys h g (inr c) (inr d) = absurd (let low = h.0 y d in let high = g.0 x c in omega (arith, low, high))

  among_rest : (x z : A) (ys : List A) → (x ≡ z) ⊎ Contains ys z → key x < key z → Contains ys z
  among_rest x z ys (inl e) low = absurd (let same = ap key e in omega (arith, low, same))
  among_rest x z ys (inr c) low = c

  one_by : (xs ys : List A) → Rises xs → Rises ys → HasAllOf ys xs → HasAllOf xs ys → xs ≡ ys
  one_by [] [] h g left right = refl
  one_by [] (y ∷ ys) h g left right = absurd (none y (right y (first y ys)))
  one_by (x ∷ xs) [] h g left right = absurd (none x (left x (first x xs)))
  one_by (x ∷ xs) (y ∷ ys) h g left right =
      let same = same_first x y xs ys h g (first_or_later y x ys (left x (first x xs))) (first_or_later x y xs (right y (first y ys))) in
      let rest = one_by xs ys h.1 g.1
      (λ z c. among_rest y z ys (first_or_later y z ys (left z (later x z xs c))) (subst (λ w. key w < key z) same (h.0 z c)))
      (λ z c. among_rest x z xs (first_or_later x z xs (right z (later y z ys c))) (subst (λ w. key w < key z) (sym same) (g.0 z c))) in
      λ i. same i ∷ rest i

  pub one_sorted : (xs ys : List A) → IsStrictlyIncreasing (map key xs) → IsStrictlyIncreasing (map key ys) → HasAllOf ys xs → HasAllOf xs ys → xs ≡ ys
  one_sorted xs ys h g = one_by xs ys (rises_by xs (AllPairs-from_increasing (map key xs) h)) (rises_by ys (AllPairs-from_increasing (map key ys) g))
