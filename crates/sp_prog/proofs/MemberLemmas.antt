-- Elements of lists that were mapped or joined, and relations between any two elements.
use Rattle.std.proofs.Common.{◌≡◌, ◌⊎◌, inl, inr, ℕ, zero, suc, ◌+◌, ◌<◌, List, [], ◌∷◌, ◌++◌, length, length-append, map, get_or, Option, Some, None, refl, sym, ap, subst, ◌∙◌, arith}
use Rattle.std.specs.Prelude.{Contains, AllPairs, slice_get}
use Rattle.std.specs.List.{filter_map, cons_option}
use Rattle.std.proofs.Math.Path.{subst₂}
use Rattle.std.proofs.lemmas.Bool.{cases_order}
use Rattle.std.proofs.lemmas.List.{get_or_append_left, get_or-append-add, get_or_default}
use Rattle.std.proofs.lemmas.Option.{slice_get_within, get_or_from_slice_get}

module _ {A : Type 0} where
  first_by : (x y : A) (xs : List A) (k : ℕ) → k < length (x ∷ xs) → get_or (x ∷ xs) k y ≡ y → (x ≡ y) ⊎ Contains xs y
  first_by x y xs zero lt e = inl e
  first_by x y xs (suc k) lt e = inr (k, omega arith, e)

  pub first_or_later : (x y : A) (xs : List A) → Contains (x ∷ xs) y → (x ≡ y) ⊎ Contains xs y
  first_or_later x y xs h = first_by x y xs h.0 h.1 h.2

  pub none : (y : A) → Contains [] y → ⊥
  none y h = let lt : h.0 < 0 = h.1 in omega arith

  pub first : (x : A) (xs : List A) → Contains (x ∷ xs) x
  first x xs = (0, omega arith, refl)

  pub later : (x y : A) (xs : List A) → Contains xs y → Contains (x ∷ xs) y
  later x y xs h = let lt = h.1 in (suc h.0, omega arith, h.2)

  -- what stands at a place is an element
  pub found : (xs : List A) (k : ℕ) (x : A) → slice_get xs k ≡ Some x → Contains xs x
  found xs k x e = (k, slice_get_within xs k x e, get_or_from_slice_get xs k x x e)

module _ {A B : Type 0} (f : A → B) where
  -- an element of a mapped list comes from one of the list
  pub mapped : (xs : List A) (y : B) → Contains (map f xs) y → (x : A) × Contains xs x × (f x ≡ y)
  mapped [] y h = absurd (none y h)
  mapped (x ∷ xs) y h =
      elim (first_or_later (f x) y (map f xs) h) [
        | inl e ↦ (x, first x xs, e)
        | inr rest ↦ let r = mapped xs y rest in (r.0, later x r.0 xs r.1, r.2)
      ]

  pub in_map : (xs : List A) (x : A) → Contains xs x → Contains (map f xs) (f x)
  in_map [] x h = absurd (none x h)
  in_map (y ∷ xs) x h =
      elim (first_or_later y x xs h) [
        | inl e ↦ subst (λ z. Contains (f y ∷ map f xs) (f z)) e (first (f y) (map f xs))
        | inr rest ↦ later (f y) (f x) (map f xs) (in_map xs x rest)
      ]

module _ {A B : Type 0} (h : A → Option B) where
  kept_by : (x : A) (xs : List A) (y : B) → (Contains (filter_map h xs) y → (z : A) × Contains xs z × (h z ≡ Some y)) → (o : Option B) → h x ≡ o
      → Contains (cons_option o (filter_map h xs)) y → (z : A) × Contains (x ∷ xs) z × (h z ≡ Some y)
  kept_by x xs y more None e c = let r = more c in (r.0, later x r.0 xs r.1, r.2)
  kept_by x xs y more (Some z) e c =
      elim (first_or_later z y (filter_map h xs) c) [
        | inl same ↦ (x, first x xs, e ∙ ap (λ b. Some b) same)
        | inr rest ↦ let r = more rest in (r.0, later x r.0 xs r.1, r.2)
      ]

  -- what is kept comes from an element
  pub kept : (xs : List A) (y : B) → Contains (filter_map h xs) y → (x : A) × Contains xs x × (h x ≡ Some y)
  kept [] y c = absurd (none y c)
  kept (x ∷ xs) y c = kept_by x xs y (kept xs y) (h x) refl c

module _ {A : Type 0} (R : A → A → Type 0) where
  -- one of the first part, one of the second
  pub across : (xs ys : List A) → AllPairs R (xs ++ ys) → (x y : A) → Contains xs x → Contains ys y → R x y
  across xs ys h x y i j =
      let low = i.1 in
      let high = j.1 in
      let all = length-append xs ys in
      subst₂ R
      (get_or_append_left xs ys x i.0 i.1 ∙ i.2)
      (get_or-append-add xs ys j.0 x ∙ get_or_default ys j.0 x y j.1 ∙ j.2)
      (h i.0 (length xs + j.0) x (omega (arith, low)) (omega (arith, high, all)))

  pub of_first : (xs ys : List A) → AllPairs R (xs ++ ys) → AllPairs R xs
  of_first xs ys h i j d lt within =
      let all = length-append xs ys in
      subst₂ R (get_or_append_left xs ys d i (omega arith)) (get_or_append_left xs ys d j within) (h i j d lt (omega (arith, all)))

  pub of_second : (xs ys : List A) → AllPairs R (xs ++ ys) → AllPairs R ys
  of_second xs ys h i j d lt within =
      let all = length-append xs ys in
      subst₂ R (get_or-append-add xs ys i d) (get_or-append-add xs ys j d) (h (length xs + i) (length xs + j) d (omega arith) (omega (arith, all)))

  at : (xs : List A) → AllPairs R xs → (x y : A) (i : Contains xs x) (j : Contains xs y) → i.0 < j.0 → R x y
  at xs h x y i j lt = subst₂ R i.2 (get_or_default xs j.0 x y j.1 ∙ j.2) (h i.0 j.0 x lt j.1)

  -- two elements that aren't related are one
  pub same : (xs : List A) → AllPairs R xs → (x y : A) → Contains xs x → Contains xs y → ¬ R x y → ¬ R y x → x ≡ y
  same xs h x y i j unlike back =
      elim (cases_order i.0 j.0) [
        | inl e ↦ sym i.2 ∙ ap (λ k. get_or xs k x) e ∙ get_or_default xs j.0 x y j.1 ∙ j.2
        | inr (inl lt) ↦ absurd (unlike (at xs h x y i j lt))
        | inr (inr gt) ↦ absurd (back (at xs h y x j i gt))
      ]
