-- The order of walks.
use Rattle.std.proofs.Common.{◌≡◌, ◌<◌, ℕ, ◌⊎◌, inl, inr, arith, List, [], ◌∷◌, ◌++◌, ◌∙◌, refl, length, length-append}
use Rattle.sp_graph.specs.Least.{Lower, Before}

lower_append : (xs ys : List ℕ) (x y : ℕ) → Lower xs ys → Lower (xs ++ x ∷ []) (ys ++ y ∷ [])
lower_append [] ys x y l = absurd l
lower_append (a ∷ xs) [] x y l = absurd l
lower_append (a ∷ xs) (b ∷ ys) x y l =
    elim l as (λ o. (a < b) ⊎ ((a ≡ b) × Lower (xs ++ x ∷ []) (ys ++ y ∷ []))) [ inl h ↦ inl h | inr p ↦ inr (p.0, lower_append xs ys x y p.1) ]

pub before_append : (xs ys : List ℕ) (x y : ℕ) → Before xs ys → Before (xs ++ x ∷ []) (ys ++ y ∷ [])
before_append xs ys x y b =
    elim b as (λ o. Before (xs ++ x ∷ []) (ys ++ y ∷ [])) [
      | inl l ↦ inl (omega (arith, length-append xs (x ∷ []), length-append ys (y ∷ [])))
      | inr p ↦ inr (let e : length xs ≡ length ys = p.0 in omega (arith, length-append xs (x ∷ []), length-append ys (y ∷ [])), lower_append xs ys x y p.1)
    ]

lower_last : (xs : List ℕ) (x y : ℕ) → x < y → Lower (xs ++ x ∷ []) (xs ++ y ∷ [])
lower_last [] x y l = inl l
lower_last (a ∷ xs) x y l = inr (refl, lower_last xs x y l)

pub before_last : (xs : List ℕ) (x y : ℕ) → x < y → Before (xs ++ x ∷ []) (xs ++ y ∷ [])
before_last xs x y l = inr (omega (arith, length-append xs (x ∷ []), length-append xs (y ∷ [])), lower_last xs x y l)

lower_trans : (xs ys zs : List ℕ) → Lower xs ys → Lower ys zs → Lower xs zs
lower_trans [] ys zs l m = absurd l
lower_trans (x ∷ xs) [] zs l m = absurd l
lower_trans (x ∷ xs) (y ∷ ys) [] l m = absurd m
lower_trans (x ∷ xs) (y ∷ ys) (z ∷ zs) l m =
    elim l as (λ o. (x < z) ⊎ ((x ≡ z) × Lower xs zs)) [
      | inl a ↦ elim m as (λ o. (x < z) ⊎ ((x ≡ z) × Lower xs zs))
          [ inl b ↦ inl (omega arith) | inr q ↦ inl (let e : y ≡ z = q.0 in omega arith) ]
      | inr p ↦ elim m as (λ o. (x < z) ⊎ ((x ≡ z) × Lower xs zs))
          [ inl b ↦ inl (let e : x ≡ y = p.0 in omega arith) | inr q ↦ inr (p.0 ∙ q.0, lower_trans xs ys zs p.1 q.1) ]
    ]

pub before_trans : (xs ys zs : List ℕ) → Before xs ys → Before ys zs → Before xs zs
before_trans xs ys zs b c =
    elim b as (λ o. Before xs zs) [
      | inl l ↦ elim c as (λ o. Before xs zs) [ inl m ↦ inl (omega arith) | inr q ↦ inl (let e : length ys ≡ length zs = q.0 in omega arith) ]
      | inr p ↦ elim c as (λ o. Before xs zs)
          [ inl m ↦ inl (let e : length xs ≡ length ys = p.0 in omega arith) | inr q ↦ inr (p.0 ∙ q.0, lower_trans xs ys zs p.1 q.1) ]
    ]
