-- Answers that are exact: what a relation has, if it is shallow, and else the refusal that says why not.
use Rattle.std.proofs.Common.{◌≡◌, Result, Ok, Err, refl, sym, ap, subst, ◌∙◌}
use Rattle.std.specs.Prelude.{◌↔◌}
use Rattle.sp_expr.specs.declared.refusal.ParseRefusal.{ParseRefusal}
use Rattle.sp_expr.specs.declared.refusal.ParseRefusal.TheVariants.{Syntax, TooDeep}

-- the relation has this alone, or has what isn't shallow alone, or has nothing
pub data Exact {X : Type 0} (R S : X → Type 0) : Result X ParseRefusal → Type 0 where
  found : (x : X) → R x → S x → ((y : X) → R y → y ≡ x) → Exact R S (Ok x)
  deep : (x : X) → R x → ((y : X) → R y → ¬ S y) → ((y : X) → R y → y ≡ x) → Exact R S (Err TooDeep)
  none : ((y : X) → R y → ⊥) → Exact R S (Err Syntax)

-- of a relation that has the same
pub exact-same : {X : Type 0} {R Q S : X → Type 0} {r : Result X ParseRefusal} → ((x : X) → R x → Q x) → ((x : X) → Q x → R x) → Exact R S r → Exact Q S r
exact-same to from (found x h s only) = found x (to x h) s (λ y k. only y (from y k))
exact-same to from (deep x h never only) = deep x (to x h) (λ y k. never y (from y k)) (λ y k. only y (from y k))
exact-same to from (none nothing) = none (λ y k. nothing y (from y k))

-- of a function of what the relation has, where refusals are passed on
pub exact-map : {X Y : Type 0} {R S : X → Type 0} (Q T : Y → Type 0) {r : Result X ParseRefusal} (g : Result X ParseRefusal → Result Y ParseRefusal) (f : X → Y) → ((x : X) → g (Ok x) ≡ Ok (f x)) → ((e : ParseRefusal) → g (Err e) ≡ Err e)
    → ((x : X) → R x → Q (f x)) → ((y : Y) → Q y → (x : X) × R x × (y ≡ f x)) → ((x : X) → S x → T (f x)) → ((x : X) → T (f x) → S x) → Exact R S r → Exact Q T (g r)
exact-map Q T g f oks errs to from up down (found x h s only) =
    subst (Exact Q T) (sym (oks x)) (found (f x) (to x h) (up x s) (λ y k. let before = from y k in before.2 ∙ ap f (only before.0 before.1)))
exact-map Q T g f oks errs to from up down (deep x h never only) =
    subst (Exact Q T) (sym (errs TooDeep))
    (deep (f x) (to x h) (λ y k t. let before = from y k in never before.0 before.1 (down before.0 (subst T before.2 t))) (λ y k. let before = from y k in before.2 ∙ ap f (only before.0 before.1)))
exact-map Q T g f oks errs to from up down (none nothing) =
    subst (Exact Q T) (sym (errs Syntax)) (none (λ y k. let before = from y k in nothing before.0 before.1))

-- each answer is given exactly where it is right

pub exact-ok : {X : Type 0} {R S : X → Type 0} {r : Result X ParseRefusal} → Exact R S r → (x : X) → (r ≡ Ok x) ↔ (R x × S x)
exact-ok {R = R} {S = S} (found y h s only) x = (λ e. let same : y ≡ x = cc in subst (λ z. R z × S z) same (h, s), λ k. ap (λ z. Ok z) (sym (only x k.0)))
exact-ok (deep y h never only) x = (λ e. absurd cc, λ k. absurd (never x k.0 k.1))
exact-ok (none nothing) x = (λ e. absurd cc, λ k. absurd (nothing x k.0))

pub exact-deep : {X : Type 0} {R S : X → Type 0} {r : Result X ParseRefusal} → Exact R S r → (r ≡ Err TooDeep) ↔ ((x : X) × R x × ¬ S x)
exact-deep {S = S} (found y h s only) = (λ e. absurd cc, λ k. absurd (k.2 (subst S (sym (only k.0 k.1)) s)))
exact-deep (deep y h never only) = (λ e. (y, h, never y h), λ k. refl)
exact-deep (none nothing) = (λ e. absurd cc, λ k. absurd (nothing k.0 k.1))

pub exact-none : {X : Type 0} {R S : X → Type 0} {r : Result X ParseRefusal} → Exact R S r → (r ≡ Err Syntax) ↔ ((x : X) → ¬ R x)
exact-none (found y h s only) = (λ e. absurd cc, λ k. absurd (k y h))
exact-none (deep y h never only) = (λ e. absurd cc, λ k. absurd (k y h))
exact-none (none nothing) = (λ e. nothing, λ k. refl)

-- the relation has one at most
pub exact-one : {X : Type 0} {R S : X → Type 0} {r : Result X ParseRefusal} → Exact R S r → (x y : X) → R x → R y → x ≡ y
exact-one (found z h s only) x y k l = only x k ∙ sym (only y l)
exact-one (deep z h never only) x y k l = only x k ∙ sym (only y l)
exact-one (none nothing) x y k l = absurd (nothing x k)
