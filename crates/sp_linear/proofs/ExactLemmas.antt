-- The tests on polynomials answer exactly.
use Rattle.std.proofs.Common.{ℕ, ◌+◌, ◌<◌, ◌≡◌, ◌≢◌, refl, sym, ◌∙◌, ap, ap₂, subst, ℤ, pos, ◌+ℤ◌, ◌*ℤ◌, ◌<ℤ◌, Bool, true, false, cond, List, [], ◌∷◌, ◌++◌, length, inl, inr, ◌⊎◌, arith}
use Rattle.std.specs.Prelude.{◌==◌, ◌&&◌, ◌||◌, int_lt, nat_eq}
use Rattle.std.specs.Ordering.{int_eq}
use Rattle.std.specs.Bool.{Decides}
use Rattle.std.proofs.lemmas.Int.{ints}
use Rattle.std.proofs.lemmas.Bool.{eqb-true, eq-eqb}
use Rattle.sp_term.specs.Tree.{Tree}
use Rattle.sp_linear.specs.Polynomials.{Monomial, times, agree_on, is_same, coefficient, times_one, multiply, polynomial}
use Rattle.sp_term.specs.Pools.{tree_at}
use Rattle.sp_simp.specs.Same.{tree_eq}
use Rattle.sp_linear.specs.Linear.{IsNegative}
use Rattle.sp_linear.specs.code.Sums.{trees_at, monomials_at, AreBelow, AllBelow}
use Rattle.sp_linear.specs.code.Tests.{is_empty, zero_apart, is_negative, is_nothing}
use Rattle.sp_linear.proofs.EqualityLemmas.{trees_told}
use Rattle.sp_linear.proofs.ProductLemmas.{AreTold, same_swap, same_back, not_nothing}
use Rattle.sp_linear.proofs.LinearLemmas.{equal_true, true_equal, less_true}

pub same_bool : (a b : Bool) → (a ≡ true → b ≡ true) → (b ≡ true → a ≡ true) → a ≡ b
same_bool true b h k = sym (h refl)
same_bool false true h k = k refl
same_bool false false h k = refl

same_row : {A : Type 0} (same : A → A → Bool) → AreTold same → (p q r : List A) → is_same same p q ≡ true → is_same same p r ≡ is_same same q r
same_row same d p q r h = same_bool (is_same same p r) (is_same same q r) (λ k. same_swap same d p q r h k) (λ k. same_swap same d q p r (same_back same d p q h) k)

pub coefficient_same : {A : Type 0} (same : A → A → Bool) → AreTold same → (p q : List A) → is_same same p q ≡ true → (ms : List (Monomial A)) → coefficient same p ms ≡ coefficient same q ms
coefficient_same same d p q h [] = refl
coefficient_same same d p q h (m ∷ ms) = ap₂ (λ (a : Bool) (b : ℤ). cond a m.number (pos 0) +ℤ b) (same_row same d p q m.atoms h) (coefficient_same same d p q h ms)

pub and_left : (a b : Bool) → a && b ≡ true → a ≡ true
and_left true b h = refl
and_left false b h = cc

pub and_right : (a b : Bool) → a && b ≡ true → b ≡ true
and_right true b h = h
and_right false b h = cc

not_empty : {A : Type 0} (p : List A) (b : Bool) → p ≢ [] → is_empty p || b ≡ true → b ≡ true
not_empty [] b h k = absurd (h refl)
not_empty (a ∷ p) b h k = k

further : (a b : ℤ) → (a ≡ pos 0) ⊎ (b ≡ pos 0) → (pos 0 +ℤ a ≡ pos 0) ⊎ (b ≡ pos 0)
further a b (inl h) = inl (omega (arith, ints))
further a b (inr h) = inr h

-- what a product has is 0, or it has nothing among these monomials
pub zero_from : {A : Type 0} (same : A → A → Bool) → AreTold same → (all : List (Monomial A)) (p : List A) → p ≢ [] → (ms : List (Monomial A)) → zero_apart same all ms ≡ true → (coefficient same p ms ≡ pos 0) ⊎ (coefficient same p all ≡ pos 0)
zero_from same d all p some [] h = inl refl
zero_from {A = A} same d all p some (m ∷ ms) h =
    elim (is_same same p m.atoms) as (λ t. is_same same p m.atoms ≡ t → (cond t m.number (pos 0) +ℤ coefficient same p ms ≡ pos 0) ⊎ (coefficient same p all ≡ pos 0)) [
      | true ↦ λ e.
          let there : m.atoms ≢ [] = λ f. let g : is_same same p [] ≡ true = subst (λ (q : List A). is_same same p q ≡ true) f e in let k = not_nothing same d p some in cc in
          let zero : int_eq (coefficient same m.atoms all) (pos 0) ≡ true = not_empty m.atoms (int_eq (coefficient same m.atoms all) (pos 0)) there (and_left (is_empty m.atoms || int_eq (coefficient same m.atoms all) (pos 0)) (zero_apart same all ms) h) in
          inr (coefficient_same same d p m.atoms e all ∙ equal_true (coefficient same m.atoms all) (pos 0) zero)
      | false ↦ λ e. further (coefficient same p ms) (coefficient same p all) (zero_from same d all p some ms (and_right (is_empty m.atoms || int_eq (coefficient same m.atoms all) (pos 0)) (zero_apart same all ms) h))
    ] refl

empty_or : {A : Type 0} (same : A → A → Bool) (all : List (Monomial A)) → ((p : List A) → p ≢ [] → coefficient same p all ≡ pos 0) → (p : List A) → is_empty p || int_eq (coefficient same p all) (pos 0) ≡ true
empty_or same all h [] = refl
empty_or same all h (a ∷ p) = true_equal (coefficient same (a ∷ p) all) (pos 0) (h (a ∷ p) (λ e. cc))

pub zero_to : {A : Type 0} (same : A → A → Bool) (all : List (Monomial A)) → ((p : List A) → p ≢ [] → coefficient same p all ≡ pos 0) → (ms : List (Monomial A)) → zero_apart same all ms ≡ true
zero_to same all h [] = refl
zero_to same all h (m ∷ ms) = ap₂ (λ a b. a && b) (empty_or same all h m.atoms) (zero_to same all h ms)

pub one_of : (a : ℤ) → (a ≡ pos 0) ⊎ (a ≡ pos 0) → a ≡ pos 0
one_of a (inl h) = h
one_of a (inr h) = h

true_less : (x y : ℤ) → x <ℤ y → int_lt x y ≡ true
true_less x y h = grind (arith, ints)

pub negative_exact : (t : Tree) → Decides (is_negative tree_eq (polynomial t)) (IsNegative t)
negative_exact t =
    let ms = polynomial t in (
      (λ h. record {
        number = less_true (coefficient tree_eq [] ms) (pos 0) (and_left (int_lt (coefficient tree_eq [] ms) (pos 0)) (zero_apart tree_eq ms ms) h);
        others = λ p some. one_of (coefficient tree_eq p ms) (zero_from tree_eq trees_told ms p some ms (and_right (int_lt (coefficient tree_eq [] ms) (pos 0)) (zero_apart tree_eq ms ms) h));
      }),
      (λ h. ap₂ (λ a b. a && b) (true_less (coefficient tree_eq [] ms) (pos 0) h.number) (zero_to tree_eq ms h.others ms)),
    )

-- ---- numbered atoms
abbrev pub AreApart : List Tree → Type 0
AreApart table = (i j : ℕ) → i < length table → j < length table → tree_at table i ≡ tree_at table j → i ≡ j

told_at : (same : Tree → Tree → Bool) → AreTold same → (table : List Tree) → AreApart table → (a b : ℕ) → a < length table → b < length table → same (tree_at table a) (tree_at table b) ≡ nat_eq a b
told_at same d table apart a b h k =
    same_bool (same (tree_at table a) (tree_at table b)) (nat_eq a b)
    (λ e. eq-eqb a b (apart a b h k ((d (tree_at table a) (tree_at table b)).0 e)))
    (λ e. (d (tree_at table a) (tree_at table b)).1 (ap (tree_at table) (eqb-true a b e)))

times_at : (same : Tree → Tree → Bool) → AreTold same → (table : List Tree) → AreApart table → (a : ℕ) → a < length table → (p : List ℕ) → AreBelow (length table) p → times same (tree_at table a) (trees_at table p) ≡ times nat_eq a p
times_at same d table apart a h [] below = refl
times_at same d table apart a h (b ∷ p) below = ap₂ (λ (t : Bool) (n : ℕ). cond t 1 0 + n) (told_at same d table apart a b h below.0) (times_at same d table apart a h p below.1)

agree_at : (same : Tree → Tree → Bool) → AreTold same → (table : List Tree) → AreApart table → (l p q : List ℕ) → AreBelow (length table) l → AreBelow (length table) p → AreBelow (length table) q → agree_on same (trees_at table l) (trees_at table p) (trees_at table q) ≡ agree_on nat_eq l p q
agree_at same d table apart [] p q hl hp hq = refl
agree_at same d table apart (a ∷ l) p q hl hp hq =
    ap₂ (λ (x y : Bool). x && y)
    (ap₂ (λ (m n : ℕ). m == n) (times_at same d table apart a hl.0 p hp) (times_at same d table apart a hl.0 q hq))
    (agree_at same d table apart l p q hl.1 hp hq)

trees-append : (table : List Tree) (p q : List ℕ) → trees_at table (p ++ q) ≡ trees_at table p ++ trees_at table q
trees-append table [] q = refl
trees-append table (a ∷ p) q = ap (λ l. tree_at table a ∷ l) (trees-append table p q)

pub below-append : (n : ℕ) (p q : List ℕ) → AreBelow n p → AreBelow n q → AreBelow n (p ++ q)
below-append n [] q h k = k
below-append n (a ∷ p) q h k = (h.0, below-append n p q h.1 k)

pub same_at : (same : Tree → Tree → Bool) → AreTold same → (table : List Tree) → AreApart table → (p q : List ℕ) → AreBelow (length table) p → AreBelow (length table) q → is_same same (trees_at table p) (trees_at table q) ≡ is_same nat_eq p q
same_at same d table apart p q hp hq =
    ap (λ l. agree_on same l (trees_at table p) (trees_at table q)) (sym (trees-append table p q))
    ∙ agree_at same d table apart (p ++ q) p q (below-append (length table) p q hp hq) hp hq

pub coefficient_at : (same : Tree → Tree → Bool) → AreTold same → (table : List Tree) → AreApart table → (p : List ℕ) → AreBelow (length table) p → (ms : List (Monomial ℕ)) → AllBelow (length table) ms → coefficient same (trees_at table p) (monomials_at table ms) ≡ coefficient nat_eq p ms
coefficient_at same d table apart p hp [] h = refl
coefficient_at same d table apart p hp (m ∷ ms) h =
    ap₂ (λ (t : Bool) (c : ℤ). cond t m.number (pos 0) +ℤ c) (same_at same d table apart p m.atoms hp h.0) (coefficient_at same d table apart p hp ms h.1)

empty_at : (table : List Tree) (p : List ℕ) → is_empty (trees_at table p) ≡ is_empty p
empty_at table [] = refl
empty_at table (a ∷ p) = refl

zero_at : (same : Tree → Tree → Bool) → AreTold same → (table : List Tree) → AreApart table → (all : List (Monomial ℕ)) → AllBelow (length table) all → (ms : List (Monomial ℕ)) → AllBelow (length table) ms → zero_apart same (monomials_at table all) (monomials_at table ms) ≡ zero_apart nat_eq all ms
zero_at same d table apart all ha [] h = refl
zero_at same d table apart all ha (m ∷ ms) h =
    ap₂ (λ (a b : Bool). a && b)
    (ap₂ (λ (a : Bool) (c : ℤ). a || int_eq c (pos 0)) (empty_at table m.atoms) (coefficient_at same d table apart m.atoms h.0 all ha))
    (zero_at same d table apart all ha ms h.1)

-- the test on numbered atoms answers as that on trees
pub negative_at : (same : Tree → Tree → Bool) → AreTold same → (table : List Tree) → AreApart table → (ms : List (Monomial ℕ)) → AllBelow (length table) ms → is_negative same (monomials_at table ms) ≡ is_negative nat_eq ms
negative_at same d table apart ms h =
    ap₂ (λ (c : ℤ) (b : Bool). int_lt c (pos 0) && b) (coefficient_at same d table apart [] tt ms h) (zero_at same d table apart ms h ms h)

pub nothing_at : (same : Tree → Tree → Bool) → AreTold same → (table : List Tree) → AreApart table → (ms : List (Monomial ℕ)) → AllBelow (length table) ms → is_nothing same (monomials_at table ms) ≡ is_nothing nat_eq ms
nothing_at same d table apart ms h =
    ap₂ (λ (c : ℤ) (b : Bool). int_eq c (pos 0) && b) (coefficient_at same d table apart [] tt ms h) (zero_at same d table apart ms h ms h)

-- sums and products of numbered polynomials
pub named-append : (table : List Tree) (ms ns : List (Monomial ℕ)) → monomials_at table (ms ++ ns) ≡ monomials_at table ms ++ monomials_at table ns
named-append table [] ns = refl
named-append table (m ∷ ms) ns = ap (λ l. (let n : Monomial Tree = record { number = m.number; atoms = trees_at table m.atoms } in n) ∷ l) (named-append table ms ns)

pub named-times_one : (table : List Tree) (m : Monomial ℕ) (ns : List (Monomial ℕ)) → monomials_at table (times_one m ns) ≡ times_one (record { number = m.number; atoms = trees_at table m.atoms }) (monomials_at table ns)
named-times_one table m [] = refl
named-times_one table m (n ∷ ns) =
    ap₂ (λ (a : List Tree) (l : List (Monomial Tree)). (let k : Monomial Tree = record { number = m.number *ℤ n.number; atoms = a } in k) ∷ l) (trees-append table m.atoms n.atoms) (named-times_one table m ns)

pub named-multiply : (table : List Tree) (ms ns : List (Monomial ℕ)) → monomials_at table (multiply ms ns) ≡ multiply (monomials_at table ms) (monomials_at table ns)
named-multiply table [] ns = refl
named-multiply table (m ∷ ms) ns =
    named-append table (times_one m ns) (multiply ms ns) ∙ ap₂ (λ (a b : List (Monomial Tree)). a ++ b) (named-times_one table m ns) (named-multiply table ms ns)
