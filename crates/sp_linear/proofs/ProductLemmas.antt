-- Products as multisets of atoms.
use Rattle.std.proofs.Common.{ℕ, ◌+◌, ◌<◌, ◌≡◌, ◌≢◌, refl, sym, ◌∙◌, ap, ℤ, ◌*ℤ◌, Bool, true, false, cond, List, [], ◌∷◌, ◌++◌, arith}
use Rattle.std.specs.Prelude.{nat_lt}
use Rattle.std.specs.Bool.{Decides}
use Rattle.std.proofs.lemmas.Bool.Decides.{nat_tests}
use Rattle.std.proofs.Math.IntN.{*ℤ_comm}
use Rattle.sp_linear.specs.Polynomials.{times, agree_on, is_same}
use Rattle.sp_linear.specs.code.Sums.{product_value}
use Rattle.sp_linear.proofs.RingLemmas.{assoc}

abbrev one_if : Bool → ℕ
one_if b = cond b 1 0

abbrev pub AreTold : {A : Type 0} → (A → A → Bool) → Type 0
AreTold {A = A} same = (a b : A) → Decides (same a b) (a ≡ b)

pub times-append : {A : Type 0} (same : A → A → Bool) (a : A) (p q : List A) → times same a (p ++ q) ≡ times same a p + times same a q
times-append same a [] q = omega arith
times-append same a (b ∷ p) q = grind (arith, times-append same a p q)

abbrev removed : {A : Type 0} (same : A → A → Bool) → A → List A → List A
removed same a [] = []
removed same a (b ∷ p) = cond (same a b) p (b ∷ removed same a p)

swap : (x y z : ℤ) → x *ℤ (y *ℤ z) ≡ y *ℤ (x *ℤ z)
swap x y z = sym (assoc x y z) ∙ ap (λ w. w *ℤ z) (*ℤ_comm x y) ∙ assoc y x z

product-removed : {A : Type 0} (same : A → A → Bool) → AreTold same → (v : A → ℤ) (a : A) (p : List A) → 0 < times same a p → product_value v p ≡ v a *ℤ product_value v (removed same a p)
product-removed same d v a [] h = absurd (omega arith)
product-removed same d v a (b ∷ p) h =
    elim (same a b) as (λ t. same a b ≡ t → 0 < (one_if t + times same a p) → product_value v (b ∷ p) ≡ v a *ℤ product_value v (cond t p (b ∷ removed same a p))) [
      | true ↦ λ e k. ap (λ x. v x *ℤ product_value v p) (sym ((d a b).0 e))
      | false ↦ λ e k. ap (λ z. v b *ℤ z) (product-removed same d v a p (omega arith)) ∙ swap (v b) (v a) (product_value v (removed same a p))
    ] refl h

times-removed : {A : Type 0} (same : A → A → Bool) → AreTold same → (a b : A) (p : List A) → 0 < times same a p → times same b p ≡ one_if (same b a) + times same b (removed same a p)
times-removed same d a b [] h = absurd (omega arith)
times-removed same d a b (c ∷ p) h =
    elim (same a c) as (λ t. same a c ≡ t → 0 < (one_if t + times same a p) → times same b (c ∷ p) ≡ one_if (same b a) + times same b (cond t p (c ∷ removed same a p))) [
      | true ↦ λ e k. let f : a ≡ c = (d a c).0 e in rw f (grind arith)
      | false ↦ λ e k. let f = times-removed same d a b p (omega arith) in grind arith
    ] refl h

self : {A : Type 0} (same : A → A → Bool) → AreTold same → (a : A) → same a a ≡ true
self same d a = (d a a).1 refl

times-first : {A : Type 0} (same : A → A → Bool) → AreTold same → (a : A) (p : List A) → times same a (a ∷ p) ≡ 1 + times same a p
times-first same d a p = ap (λ t. one_if t + times same a p) (self same d a)

times-more : {A : Type 0} (same : A → A → Bool) (a b : A) (p : List A) → times same b (a ∷ p) ≡ one_if (same b a) + times same b p
times-more same a b p = refl

pub product_same : {A : Type 0} (same : A → A → Bool) → AreTold same → (v : A → ℤ) (p q : List A) → ((a : A) → times same a p ≡ times same a q) → product_value v p ≡ product_value v q
product_same same d v [] [] h = refl
product_same same d v [] (b ∷ q) h = let f = times-first same d b q in let g = h b in absurd (omega (arith, f, g))
product_same same d v (a ∷ p) q h =
    let some : 0 < times same a q = omega (arith, times-first same d a p, h a) in
    let rest : (b : _) → times same b p ≡ times same b (removed same a q) = λ b. omega (arith, times-removed same d a b q some, times-more same a b p, h b) in
    ap (λ z. v a *ℤ z) (product_same same d v p (removed same a q) rest) ∙ sym (product-removed same d v a q some)

agree_from : {A : Type 0} (same : A → A → Bool) → AreTold same → (l p q : List A) → agree_on same l p q ≡ true → (a : A) → 0 < times same a l → times same a p ≡ times same a q
agree_from same d [] p q h a k = absurd (omega arith)
agree_from same d (c ∷ l) p q h a k =
    elim (same a c) as (λ t. same a c ≡ t → 0 < (one_if t + times same a l) → times same a p ≡ times same a q) [
      | true ↦ λ e m. let f : a ≡ c = (d a c).0 e in rw f (grind (arith, nat_tests))
      | false ↦ λ e m. agree_from same d l p q (grind (arith, nat_tests)) a (omega arith)
    ] refl k

pub same_from : {A : Type 0} (same : A → A → Bool) → AreTold same → (p q : List A) → is_same same p q ≡ true → (a : A) → times same a p ≡ times same a q
same_from same d p q h a =
    elim (nat_lt 0 (times same a (p ++ q))) as (λ t. nat_lt 0 (times same a (p ++ q)) ≡ t → times same a p ≡ times same a q) [
      | true ↦ λ e. agree_from same d (p ++ q) p q h a (grind (arith, nat_tests))
      | false ↦ λ e. let n : times same a (p ++ q) ≡ 0 = grind (arith, nat_tests) in omega (arith, times-append same a p q, n)
    ] refl

agree_to : {A : Type 0} (same : A → A → Bool) (l p q : List A) → ((a : A) → times same a p ≡ times same a q) → agree_on same l p q ≡ true
agree_to same [] p q h = refl
agree_to same (c ∷ l) p q h = let f = agree_to same l p q h in let g = h c in grind (arith, nat_tests)

pub same_to : {A : Type 0} (same : A → A → Bool) (p q : List A) → ((a : A) → times same a p ≡ times same a q) → is_same same p q ≡ true
same_to same p q h = agree_to same (p ++ q) p q h

pub same_self : {A : Type 0} (same : A → A → Bool) (p : List A) → is_same same p p ≡ true
same_self same p = same_to same p p (λ a. refl)

-- where p is q, r is p exactly where it is q
pub same_swap : {A : Type 0} (same : A → A → Bool) → AreTold same → (p q r : List A) → is_same same p q ≡ true → is_same same p r ≡ true → is_same same q r ≡ true
same_swap same d p q r h k = same_to same q r (λ a. sym (same_from same d p q h a) ∙ same_from same d p r k a)

pub same_back : {A : Type 0} (same : A → A → Bool) → AreTold same → (p q : List A) → is_same same p q ≡ true → is_same same q p ≡ true
same_back same d p q h = same_to same q p (λ a. sym (same_from same d p q h a))

pub not_nothing : {A : Type 0} (same : A → A → Bool) → AreTold same → (p : List A) → p ≢ [] → is_same same p [] ≡ false
not_nothing same d [] h = absurd (h refl)
not_nothing same d (a ∷ p) h = let f = times-first same d a p in grind (arith, nat_tests)
