-- The lists of the instructions before each one.
use Rattle.std.proofs.Common.{◌≡◌, ◌<◌, ◌+◌, ℕ, zero, suc, inl, inr, arith, Bool, true, false, List, [], ◌∷◌, ◌++◌, Option, None, Some, slice_get, length, get_or, length-set, get_or-set_same, get_or-set_other, refl, sym, ap, ◌∙◌, cond, ◌||◌}
use Rattle.std.specs.Prelude.{nat_eq, replicate}
use Rattle.std.specs.List.{filter, list_any, range_with_len}
use Rattle.std.proofs.lemmas.Bool.Decides.{eqb_tells}
use Rattle.std.proofs.lemmas.Bool.{eqb-true}
use Rattle.std.proofs.lemmas.List.{append-nil, get_or-replicate, length-replicate}
use Rattle.std.proofs.lemmas.List.Elements.{filter-append}
use Rattle.sp_graph.specs.Control.{control_of}
use Rattle.sp_graph.specs.Successors.{listed, next_by, target_by, is_successor, first_before}
use Rattle.sp_graph.specs.code.Before.{AreFirstBefore, with_before, noted, second_of}
use Rattle.sp_prog.specs.declared.routine.Stmt.{Stmt}

range_more : (first n : ℕ) → range_with_len first (suc n) ≡ range_with_len first n ++ (first + n) ∷ []
range_more first zero = let e : first + zero ≡ first = omega arith in rw e refl
range_more first (suc n) =
    let e : first + 1 + n ≡ first + suc n = omega arith in
    ap (λ xs. first ∷ xs) (rw e at (range_more (first + 1) n))

single : (p : ℕ → Bool) (x : ℕ) (b : Bool) → p x ≡ b → filter p (x ∷ []) ≡ cond (p x) (x ∷ []) []
single p x true e = rw e refl
single p x false e = rw e refl

module _ (code : List Stmt) where
  -- one instruction more
  pub before_more : (count to : ℕ) → first_before code (count + 1) to ≡ first_before code count to ++ cond (is_successor code to count) (count ∷ []) []
  before_more count to =
      let next : count + 1 ≡ suc count = omega arith in
      let last : 0 + count ≡ count = omega arith in
      let test = is_successor code to in
      rw next
      (ap (filter test) (rw last at (range_more 0 count))
      ∙ filter-append test (range_with_len 0 count) (count ∷ [])
      ∙ ap (λ xs. filter test (range_with_len 0 count) ++ xs) (single test count (test count) refl))

  -- whether it is noted in the list of this one
  abbrev pub is_noted : Option ℕ → ℕ → Bool
  is_noted None to = false
  is_noted (Some place) to = nat_eq to place

  length_noted : (place : Option ℕ) (at : ℕ) (lists : List (List ℕ)) → length (noted place at lists) ≡ length lists
  length_noted None at lists = refl
  length_noted (Some place) at lists = length-set lists place (get_or lists place [] ++ at ∷ [])

  in_list : (place at to : ℕ) (lists : List (List ℕ)) → to < length lists →
      get_or (with_before lists place at) to [] ≡ get_or lists to [] ++ cond (nat_eq to place) (at ∷ []) []
  in_list place at to lists l = elim (eqb_tells to place) as (λ o. get_or (with_before lists place at) to [] ≡ get_or lists to [] ++ cond (nat_eq to place) (at ∷ []) []) [
    | inl p ↦ rw (p.0, ← p.1) (get_or-set_same lists to (get_or lists to [] ++ at ∷ []) [] l)
    | inr p ↦ rw p.0 (get_or-set_other lists place to (get_or lists place [] ++ at ∷ []) [] p.1 ∙ sym (append-nil (get_or lists to [])))
  ]

  noted_is : (place : Option ℕ) (at to : ℕ) (lists : List (List ℕ)) → to < length lists →
      get_or (noted place at lists) to [] ≡ get_or lists to [] ++ cond (is_noted place to) (at ∷ []) []
  noted_is None at to lists l = sym (append-nil (get_or lists to []))
  noted_is (Some place) at to lists l = in_list place at to lists l

  or_false : (b : Bool) → b || false ≡ b
  or_false true = refl
  or_false false = refl

  is_one : (to : ℕ) (next target : Option ℕ) → list_any (nat_eq to) (listed next ++ listed target) ≡ is_noted next to || is_noted target to
  is_one to None None = refl
  is_one to None (Some b) = or_false (nat_eq to b)
  is_one to (Some a) None = refl
  is_one to (Some a) (Some b) = ap (λ x. nat_eq to a || x) (or_false (nat_eq to b))

  module _ (at : ℕ) (s : Stmt) (e : slice_get code at ≡ Some s) (lists : List (List ℕ)) (first : AreFirstBefore code at lists) where
    grown :
        (next target : Option ℕ) → next ≡ next_by code at (control_of s.instr) → target ≡ target_by code (control_of s.instr) →
        (after : List (List ℕ)) → length after ≡ length lists →
        ((to : ℕ) → to < length lists → get_or after to [] ≡ get_or lists to [] ++ cond (is_noted next to || is_noted target to) (at ∷ []) []) →
        AreFirstBefore code (at + 1) after
    grown next target n t after size each = record {
      size = size ∙ first.size;
      each = λ to l.
          let test : is_successor code to at ≡ is_noted next to || is_noted target to = rw (e, ← n, ← t) (is_one to next target) in
          each to (rw first.size l) ∙ ap (λ xs. xs ++ cond (is_noted next to || is_noted target to) (at ∷ []) []) (first.each to l)
          ∙ rw (← test) (sym (before_more at to));
    }

    joined : (x y : Bool) (xs : List ℕ) → (x ≡ true → y ≡ true → ⊥) →
        (xs ++ cond x (at ∷ []) []) ++ cond y (at ∷ []) [] ≡ xs ++ cond (x || y) (at ∷ []) []
    joined true true xs ne = absurd (ne refl refl)
    joined true false xs ne = append-nil (xs ++ at ∷ [])
    joined false true xs ne = ap (λ ys. ys ++ at ∷ []) (append-nil xs)
    joined false false xs ne = append-nil (xs ++ [])

    or_same : (b : Bool) → b || b ≡ b
    or_same true = refl
    or_same false = refl

    both : (to : ℕ) (next target : Option ℕ) (xs : List ℕ) →
        (xs ++ cond (is_noted next to) (at ∷ []) []) ++ cond (is_noted (second_of next target) to) (at ∷ []) []
        ≡ xs ++ cond (is_noted next to || is_noted target to) (at ∷ []) []
    both to None None xs = joined false false xs (λ x y. cc)
    both to (Some a) None xs = joined (nat_eq to a) false xs (λ x y. cc)
    both to None (Some b) xs = joined false (nat_eq to b) xs (λ x y. cc)
    both to (Some a) (Some b) xs = elim (eqb_tells a b) as (λ o.
        (xs ++ cond (nat_eq to a) (at ∷ []) []) ++ cond (is_noted (second_of (Some a) (Some b)) to) (at ∷ []) []
        ≡ xs ++ cond (nat_eq to a || nat_eq to b) (at ∷ []) []) [
          | inl p ↦ rw (p.0, ← p.1, or_same (nat_eq to a)) (append-nil (xs ++ cond (nat_eq to a) (at ∷ []) []))
          | inr p ↦ rw p.0 (joined (nat_eq to a) (nat_eq to b) xs (λ x y. p.1 (sym (eqb-true to a x) ∙ eqb-true to b y)))
        ]

    pub noted_both :
        (next target : Option ℕ) → next ≡ next_by code at (control_of s.instr) → target ≡ target_by code (control_of s.instr) →
        AreFirstBefore code (at + 1) (noted (second_of next target) at (noted next at lists))
    noted_both next target n t =
        let size = length_noted next at lists in
        grown next target n t (noted (second_of next target) at (noted next at lists)) (length_noted (second_of next target) at (noted next at lists) ∙ size)
        (λ to l. noted_is (second_of next target) at to (noted next at lists) (rw size l)
        ∙ ap (λ xs. xs ++ cond (is_noted (second_of next target) to) (at ∷ []) []) (noted_is next at to lists l)
        ∙ both to next target (get_or lists to []))

-- before the first instruction all lists are empty
pub none_before : (code : List Stmt) (lists : List (List ℕ)) → lists ≡ replicate (length code) [] → AreFirstBefore code 0 lists
none_before code lists e = record {
  size = rw e (length-replicate (length code) []);
  each = λ to l. rw e (get_or-replicate (length code) to [] [] l);
}
