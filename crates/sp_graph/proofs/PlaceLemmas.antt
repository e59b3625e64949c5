-- A search by halves finds the place of an address.
use Rattle.std.proofs.Common.{◌≡◌, ◌≢◌, ◌<◌, ◌≤◌, ℕ, inl, inr, arith, false, List, [], ◌∷◌, Option, None, Some, Err, length, get_or, refl, sym, cond, tests}
use Rattle.std.specs.Prelude.{nat_eq, nat_lt}
use Rattle.std.specs.List.{HoldsAt, position, position_or_len}
use Rattle.std.specs.List.Sorted.{IsBinarySearchResult}
use Rattle.std.specs.Ordering.{nat_cmp, ordering_index}
use Rattle.std.specs.declared.cmp.Ordering.TheVariants.{Less, Equal, Greater}
use Rattle.std.proofs.lemmas.Bool.{cases_order, eq-eqb, lt-ltb}
use Rattle.std.proofs.lemmas.Bool.Decides.{eqb_tells}
use Rattle.std.proofs.lemmas.List.Sums.{position_or_len_is}

equal : (n a : ℕ) → nat_cmp n a ≡ Equal → n ≡ a
equal n a h = grind (arith, tests)

less : (n a : ℕ) → nat_cmp n a ≡ Less → n < a
less n a h = grind (arith, tests)

greater : (n a : ℕ) → nat_cmp n a ≡ Greater → a < n
greater n a h = grind (arith, tests)

higher : (n m a : ℕ) → n ≤ m → ordering_index (nat_cmp n a) ≤ ordering_index (nat_cmp m a)
higher n m a l = grind (arith, tests)

other : (n a : ℕ) → n ≢ a → nat_eq n a ≡ false
other n a ne = elim (eqb_tells n a) as (λ o. nat_eq n a ≡ false) [ inl p ↦ absurd (ne p.1) | inr p ↦ p.0 ]

module _ {X : Type 0} (f : X → ℕ) where
  -- the numbers of a list rise
  abbrev pub Rises : List X → Type 0
  Rises xs = (i j : ℕ) (d : X) → i < j → j < length xs → f (get_or xs i d) < f (get_or xs j d)

  module _ (a : ℕ) where
    abbrev pub place : List X → Option ℕ
    place xs = position (λ x. nat_eq (f x) a) xs

    -- the only place with the number is its place
    place_is : (xs : List X) (i : ℕ) (d : X) → i < length xs → Rises xs → f (get_or xs i d) ≡ a → place xs ≡ Some i
    place_is xs i d l rises e =
        let first : position_or_len (λ x. nat_eq (f x) a) xs ≡ i =
        position_or_len_is (λ x. nat_eq (f x) a) xs i d (omega arith)
        (λ k kl. other (f (get_or xs k d)) a (λ same. let up = rises k i d kl l in omega (arith, same, e)))
        (λ m. eq-eqb (f (get_or xs i d)) a e) in
        rw (first, lt-ltb i (length xs) l) refl

    no_place : (xs : List X) → ((k : ℕ) (d : X) → k < length xs → f (get_or xs k d) ≢ a) → place xs ≡ None
    no_place [] none = refl
    no_place (x ∷ xs) none =
        let last : position_or_len (λ y. nat_eq (f y) a) (x ∷ xs) ≡ length (x ∷ xs) =
        position_or_len_is (λ y. nat_eq (f y) a) (x ∷ xs) (length (x ∷ xs)) x (omega arith)
        (λ k l. other (f (get_or (x ∷ xs) k x)) a (none k x l)) (λ l. absurd (omega arith)) in
        rw last (past (length (x ∷ xs)))
      where
        past : (n : ℕ) → cond (nat_lt n n) (Some n) None ≡ None
        past n = grind (arith, tests)

    pub found : (xs : List X) (i : ℕ) → i < length xs → Rises xs → HoldsAt (λ x. nat_cmp (f x) a ≡ Equal) xs i → Some i ≡ place xs
    found [] i l rises h = absurd (omega arith)
    found (x ∷ xs) i l rises h = sym (place_is (x ∷ xs) i x l rises (equal _ a (h x)))

    pub missed : (xs : List X) (i : ℕ) → Rises xs → IsBinarySearchResult (λ x. nat_cmp (f x) a) xs (Err i) → None ≡ place xs
    missed xs i rises h =
        let parted = h (λ i j d le l. higher _ _ a (weak i j d le l)) in
        sym (no_place xs (λ k d l e. elim (cases_order k i) [
          | inl same ↦ let g = greater _ a (parted.1 k d (omega arith) l) in omega (arith, e)
          | inr o ↦ elim o [
            | inl below ↦ let g = less _ a (parted.0 k d (omega arith) below) in omega (arith, e)
            | inr above ↦ let g = greater _ a (parted.1 k d (omega arith) l) in omega (arith, e)
          ]
        ]))
      where
        weak : (i j : ℕ) (d : X) → i ≤ j → j < length xs → f (get_or xs i d) ≤ f (get_or xs j d)
        weak i j d le l = elim (cases_order i j) [
          | inl same ↦ rw same (omega arith)
          | inr o ↦ elim o [ inl below ↦ let r = rises i j d below l in omega arith | inr above ↦ absurd (omega arith) ]
        ]
