-- Instructions of a unit on one line are one.
use Rattle.std.proofs.Common.{◌≡◌, ℕ, zero, suc, ◌⊎◌, inl, inr, false, List, [], ◌∷◌, ◌++◌, Some, slice_get, map, refl, sym, ap, ◌∙◌}
use Rattle.std.specs.Prelude.{nat_eq}
use Rattle.std.specs.List.{AllByRecursion, IsDistinct, flat_map}
use Rattle.std.proofs.lemmas.Bool.{eq-eqb}
use Rattle.std.proofs.lemmas.List.{map-append}
use Rattle.sp_graph.specs.Structure.{IsAt}
use Rattle.sp_prog.specs.declared.routine.Routine.{Routine}
use Rattle.sp_prog.specs.declared.routine.Stmt.{Stmt}
use Rattle.sp_prog.specs.Program.{Program}
use Rattle.sp_prog.specs.Rules.{IsUnit}

-- a number stands in a list
abbrev In : ℕ → List ℕ → Type 0
In x [] = ⊥
In x (y ∷ ys) = (x ≡ y) ⊎ In x ys

in_left : (x : ℕ) (xs ys : List ℕ) → In x xs → In x (xs ++ ys)
in_left x [] ys h = absurd h
in_left x (y ∷ xs) ys (inl e) = inl e
in_left x (y ∷ xs) ys (inr h) = inr (in_left x xs ys h)

in_right : (x : ℕ) (xs ys : List ℕ) → In x ys → In x (xs ++ ys)
in_right x [] ys h = h
in_right x (y ∷ xs) ys h = inr (in_right x xs ys h)

other : (x y : ℕ) (xs : List ℕ) → AllByRecursion (λ z. nat_eq x z ≡ false) xs → In y xs → x ≡ y → ⊥
other x y [] h i e = absurd i
other x y (z ∷ xs) h (inl same) e = let t = eq-eqb x z (e ∙ same) in let f = h.0 in cc (t, f)
other x y (z ∷ xs) h (inr i) e = other x y xs h.1 i e

apart : (xs ys : List ℕ) → IsDistinct nat_eq (xs ++ ys) → (x : ℕ) → In x xs → In x ys → ⊥
unfolding IsDistinct
apart [] ys h x i j = absurd i
apart (y ∷ xs) ys h x (inl e) j = other y x (xs ++ ys) h.0 (in_right x xs ys j) (sym e)
apart (y ∷ xs) ys h x (inr i) j = apart xs ys h.1 x i j

all_front : (P : ℕ → Type 0) (xs ys : List ℕ) → AllByRecursion P (xs ++ ys) → AllByRecursion P xs
all_front P [] ys h = tt
all_front P (x ∷ xs) ys h = (h.0, all_front P xs ys h.1)

front : (xs ys : List ℕ) → IsDistinct nat_eq (xs ++ ys) → IsDistinct nat_eq xs
unfolding IsDistinct
front [] ys h = tt
front (x ∷ xs) ys h = (all_front (λ z. nat_eq x z ≡ false) xs ys h.0, front xs ys h.1)

back : (xs ys : List ℕ) → IsDistinct nat_eq (xs ++ ys) → IsDistinct nat_eq ys
unfolding IsDistinct
back [] ys h = h
back (x ∷ xs) ys h = back xs ys h.1

module _ {B : Type 0} (g : B → ℕ) where
  in_map : (xs : List B) (k : ℕ) (s : B) → slice_get xs k ≡ Some s → In (g s) (map g xs)
  in_map [] k s e = absurd cc
  in_map (x ∷ xs) zero s e = inl (let same : x ≡ s = cc e in ap g (sym same))
  in_map (x ∷ xs) (suc k) s e = inr (in_map xs k s e)

  one_index : (xs : List B) → IsDistinct nat_eq (map g xs) → (k m : ℕ) (s t : B) → slice_get xs k ≡ Some s → slice_get xs m ≡ Some t → g s ≡ g t → k ≡ m
  unfolding IsDistinct
  one_index [] h k m s t e f same = absurd cc
  one_index (x ∷ xs) h zero zero s t e f same = refl
  one_index (x ∷ xs) h zero (suc m) s t e f same =
      let is : x ≡ s = cc e in absurd (other (g x) (g t) (map g xs) h.0 (in_map xs m t f) (ap g is ∙ same))
  one_index (x ∷ xs) h (suc k) zero s t e f same =
      let is : x ≡ t = cc f in absurd (other (g x) (g s) (map g xs) h.0 (in_map xs k s e) (ap g is ∙ sym same))
  one_index (x ∷ xs) h (suc k) (suc m) s t e f same = ap (λ n. suc n) (one_index xs h.1 k m s t e f same)

  module _ {A : Type 0} (parts : A → List B) where
    abbrev numbers : List A → List ℕ
    numbers xs = map g (flat_map parts xs)

    numbers_cons : (x : A) (xs : List A) → numbers (x ∷ xs) ≡ map g (parts x) ++ numbers xs
    numbers_cons x xs = map-append g (parts x) (flat_map parts xs)

    in_numbers : (xs : List A) (r k : ℕ) (x : A) (s : B) → slice_get xs r ≡ Some x → slice_get (parts x) k ≡ Some s → In (g s) (numbers xs)
    in_numbers [] r k x s e f = absurd cc
    in_numbers (y ∷ xs) zero k x s e f =
        let same : y ≡ x = cc e in
        rw (numbers_cons y xs) (in_left (g s) (map g (parts y)) (numbers xs) (rw same (in_map (parts x) k s f)))
    in_numbers (y ∷ xs) (suc r) k x s e f = rw (numbers_cons y xs) (in_right (g s) (map g (parts y)) (numbers xs) (in_numbers xs r k x s e f))

    pub one_place :
        (xs : List A) → IsDistinct nat_eq (numbers xs) → (r k q m : ℕ) (x y : A) (s t : B) → slice_get xs r ≡ Some x → slice_get (parts x) k ≡ Some s →
        slice_get xs q ≡ Some y → slice_get (parts y) m ≡ Some t → g s ≡ g t → (r ≡ q) × (k ≡ m)
    one_place [] h r k q m x y s t a b c d same = absurd cc
    one_place (z ∷ xs) h zero k zero m x y s t a b c d same =
        let first : z ≡ x = cc a in
        let second : z ≡ y = cc c in
        let split = rw (numbers_cons z xs) at h in
        (refl, one_index (parts z) (front (map g (parts z)) (numbers xs) split) k m s t (rw first b) (rw second d) same)
    one_place (z ∷ xs) h zero k (suc q) m x y s t a b c d same =
        let first : z ≡ x = cc a in
        let split = rw (numbers_cons z xs) at h in
        absurd (apart (map g (parts z)) (numbers xs) split (g s) (rw first (in_map (parts x) k s b)) (rw same (in_numbers xs q m y t c d)))
    one_place (z ∷ xs) h (suc r) k zero m x y s t a b c d same =
        let second : z ≡ y = cc c in
        let split = rw (numbers_cons z xs) at h in
        absurd (apart (map g (parts z)) (numbers xs) split (g s) (rw (second, same) (in_map (parts y) m t d)) (in_numbers xs r k x s a b))
    one_place (z ∷ xs) h (suc r) k (suc q) m x y s t a b c d same =
        let split = rw (numbers_cons z xs) at h in
        let rest = one_place xs (back (map g (parts z)) (numbers xs) split) r k q m x y s t a b c d same in
        (ap (λ n. suc n) rest.0, rest.1)

pub one_on_line : (p : Program) → IsUnit p → (r k q m : ℕ) (a b : Routine) (s t : Stmt) → IsAt p r k a s → IsAt p q m b t → s.line.0 ≡ t.line.0 →
    (r ≡ q) × (k ≡ m)
one_on_line p u r k q m a b s t x y same =
    one_place (λ (v : Stmt). v.line.0) (λ (v : Routine). v.code) p.routines u.lines r k q m a b s t x.among x.within y.among y.within same
