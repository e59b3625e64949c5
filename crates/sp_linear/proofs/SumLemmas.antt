-- Products with sorted atoms, and the table of their coefficients.
use Rattle.std.proofs.Common.{ℕ, suc, ◌+◌, ◌<◌, ◌≤◌, ◌≡◌, refl, sym, ◌∙◌, ap, subst, ℤ, pos, ◌+ℤ◌, ◌^◌, Bool, true, false, cond, true≢false, List, [], ◌∷◌, length, take, get_or, Vec, nat_eq, Some, Option, IsPermutation, IsSorted, FitsSigned, arith}
use Rattle.std.specs.Prelude.{unwrap_or, ⊤}
use Rattle.std.specs.Ordering.{nat_cmp, is_lt}
use Rattle.std.specs.Cmp.Lexicographic.{pointwise, bytes_decides}
use Rattle.std.specs.List.{sum_by}
use Rattle.std.specs.Map.{lookup}
use Rattle.std.specs.Global.{Global}
use Rattle.std.specs.Int.{w128}
use Rattle.std.proofs.lemmas.Int.{ints, fits_signed_from_abs}
use Rattle.std.proofs.lemmas.Bool.{eqb-true, eq-eqb}
use Rattle.std.proofs.lemmas.Bool.Decides.{nat_tests}
use Rattle.std.proofs.lemmas.List.Sums.{sum_by-cons}
use Rattle.std.proofs.lemmas.List.Sorted.{sum_by-IsPermutation}
use Rattle.indexmap.specs.IndexMap.{insert_entry}
use Rattle.sp_linear.specs.Polynomials.{Monomial, times, is_same, share, coefficient}
use Rattle.sp_linear.specs.code.Sums.{weight}
use Rattle.sp_linear.specs.code.Table.{sum_at, AreSums}
use Rattle.sp_linear.proofs.ProductLemmas.{AreTold, same_to, same_from, same_swap, same_back}
use Rattle.sp_linear.proofs.ExactLemmas.{coefficient_same}
use Rattle.sp_linear.proofs.BoundLemmas.{coefficient_le_weight}
use Rattle.sp_linear.proofs.TakeLemmas.{coefficient-more, weight-take}

pub numbers_told : AreTold nat_eq
numbers_told a b = ((λ h. eqb-true a b h), (λ h. eq-eqb a b h))

-- ---- counts in another order
times_is_sum : (a : ℕ) (p : List ℕ) → times nat_eq a p ≡ sum_by (λ b. cond (nat_eq a b) 1 0) p
times_is_sum a [] = refl
times_is_sum a (b ∷ p) = ap (λ n. cond (nat_eq a b) 1 0 + n) (times_is_sum a p) ∙ sym (sum_by-cons (λ c. cond (nat_eq a c) 1 0) b p)

pub permuted : (p q : List ℕ) → IsPermutation p q → is_same nat_eq p q ≡ true
permuted p q h = same_to nat_eq p q (λ a. times_is_sum a p ∙ sym (sum_by-IsPermutation (λ b. cond (nat_eq a b) 1 0) p q h) ∙ sym (times_is_sum a q))

-- ---- two sorted lists with equal counts are one
abbrev IsRising : ℕ → List ℕ → Type 0
IsRising m [] = ⊤
IsRising m (a ∷ p) = (m ≤ a) × IsRising a p

at_least : (a b : ℕ) → is_lt (nat_cmp b a) ≡ false → a ≤ b
at_least a b h = grind (arith, nat_tests)

tail_sorted : (a : ℕ) (p : List ℕ) → IsSorted nat_cmp (a ∷ p) → IsSorted nat_cmp p
tail_sorted a p h k d l u =
    let e : suc k + 1 ≡ suc (k + 1) = omega arith in
    subst (λ i. is_lt (nat_cmp (get_or {A = ℕ} (a ∷ p) i d) (get_or p k d)) ≡ false) e (h (suc k) d (omega arith) (omega arith))

rising : (a : ℕ) (p : List ℕ) → IsSorted nat_cmp (a ∷ p) → IsRising a p
rising a [] h = tt
rising a (b ∷ p) h = (at_least a b (h 0 0 (omega arith) (omega arith)), rising b p (tail_sorted a (b ∷ p) h))

rising_all : (p : List ℕ) → IsSorted nat_cmp p → IsRising 0 p
rising_all [] h = tt
rising_all (a ∷ p) h = (omega arith, rising a p h)

least : (m : ℕ) (q : List ℕ) → IsRising m q → (a : ℕ) → 0 < times nat_eq a q → m ≤ a
least m [] h a k = absurd (omega arith)
least m (b ∷ q) h a k =
    elim (nat_eq a b) as (λ t. nat_eq a b ≡ t → 0 < (cond t 1 0 + times nat_eq a q) → m ≤ a) [
      | true ↦ λ e l. let f : a ≡ b = eqb-true a b e in omega (arith, f, h.0)
      | false ↦ λ e l. omega (arith, h.0, least b q h.1 a (omega arith))
    ] refl k

here : (a : ℕ) (p : List ℕ) → 0 < times nat_eq a (a ∷ p)
here a p = let e : nat_eq a a ≡ true = eq-eqb a a refl in rw e (omega arith)

rest : (a : ℕ) (p q : List ℕ) → ((c : ℕ) → times nat_eq c (a ∷ p) ≡ times nat_eq c (a ∷ q)) → (c : ℕ) → times nat_eq c p ≡ times nat_eq c q
rest a p q h c = omega (arith, h c)

one_rising : (m n : ℕ) (p q : List ℕ) → IsRising m p → IsRising n q → ((a : ℕ) → times nat_eq a p ≡ times nat_eq a q) → p ≡ q
one_rising m n [] [] h k s = refl
one_rising m n [] (b ∷ q) h k s = absurd (omega (arith, here b q, s b))
one_rising m n (a ∷ p) [] h k s = absurd (omega (arith, here a p, s a))
one_rising m n (a ∷ p) (b ∷ q) h k s =
    let low : b ≤ a = least b (b ∷ q) (omega arith, k.1) a (omega (arith, here a p, s a)) in
    let high : a ≤ b = least a (a ∷ p) (omega arith, h.1) b (omega (arith, here b q, s b)) in
    let e : b ≡ a = omega arith in
    let t : (c : ℕ) → times nat_eq c (a ∷ p) ≡ times nat_eq c (a ∷ q) = λ c. s c ∙ ap (λ d. times nat_eq c (d ∷ q)) e in
    ap (λ d. d ∷ p) (sym e) ∙ ap (λ l. b ∷ l) (one_rising a b p q h.1 k.1 (rest a p q t))

one_sorted : (p q : List ℕ) → IsSorted nat_cmp p → IsSorted nat_cmp q → is_same nat_eq p q ≡ true → p ≡ q
one_sorted p q h k s = one_rising 0 0 p q (rising_all p h) (rising_all q k) (same_from nat_eq numbers_told p q s)

-- ---- the table
told : (p q : List ℕ) → pointwise nat_eq p q ≡ true → p ≡ q
told p q h = (bytes_decides p q).0 h

tells : (p q : List ℕ) → p ≡ q → pointwise nat_eq p q ≡ true
tells p q h = (bytes_decides p q).1 h

abbrev key_eq : Vec ℕ Global → Vec ℕ Global → Bool
key_eq x y = pointwise nat_eq x.items y.items

abbrev found : List ℕ → List (Vec ℕ Global × ℤ) → Option ℤ
found p es = lookup (λ k. pointwise nat_eq p k.items) es

found_inserted : (p : List ℕ) (k : Vec ℕ Global) (v : ℤ) (es : List (Vec ℕ Global × ℤ)) → found p (insert_entry key_eq es k v) ≡ cond (pointwise nat_eq p k.items) (Some v) (found p es)
found_inserted p k v [] = refl
found_inserted p k v (e ∷ es) =
    elim (key_eq k e.0) as (λ t. key_eq k e.0 ≡ t → found p (cond t ((e.0, v) ∷ es) (e ∷ insert_entry key_eq es k v)) ≡ cond (pointwise nat_eq p k.items) (Some v) (cond (pointwise nat_eq p e.0.items) (Some e.1) (found p es))) [
      | true ↦ λ h.
          let f : k.items ≡ e.0.items = told k.items e.0.items h in
          rw f (twice (pointwise nat_eq p e.0.items) (Some v) (Some e.1) (found p es))
      | false ↦ λ h.
          rw (found_inserted p k v es) (other (pointwise nat_eq p e.0.items) (pointwise nat_eq p k.items) (Some v) (Some e.1) (found p es)
          (λ a b. true≢false (sym (tells k.items e.0.items (sym (told p k.items b) ∙ told p e.0.items a)) ∙ h)))
    ] refl
  where
    twice : (t : Bool) (a b c : Option ℤ) → cond t a c ≡ cond t a (cond t b c)
    twice true a b c = refl
    twice false a b c = refl

    other : (t u : Bool) (a b c : Option ℤ) → (t ≡ true → u ≡ true → ⊥) → cond t b (cond u a c) ≡ cond u a (cond t b c)
    other true true a b c h = absurd (h refl refl)
    other true false a b c h = refl
    other false true a b c h = refl
    other false false a b c h = refl

sum_inserted : (p : List ℕ) (k : Vec ℕ Global) (v : ℤ) (es : List (Vec ℕ Global × ℤ)) → sum_at (insert_entry key_eq es k v) p ≡ cond (pointwise nat_eq p k.items) v (sum_at es p)
sum_inserted p k v es = ap (λ r. unwrap_or r (pos 0)) (found_inserted p k v es) ∙ by (pointwise nat_eq p k.items)
  where
    by : (t : Bool) → unwrap_or (cond t (Some v) (found p es)) (pos 0) ≡ cond t v (sum_at es p)
    by true = refl
    by false = refl

-- one more monomial, its atoms sorted as k
pub sums_more : (ms : List (Monomial ℕ)) (es : List (Vec ℕ Global × ℤ)) (i : ℕ) (m : Monomial ℕ) (k : Vec ℕ Global) → i < length ms → m ≡ get_or ms i m → IsSorted nat_cmp k.items → IsPermutation m.atoms k.items → AreSums (take i ms) es → AreSums (take (i + 1) ms) (insert_entry key_eq es k (sum_at es k.items +ℤ m.number))
sums_more ms es i m k h is up moved sums = record {
  each = λ p rises.
      sum_inserted p k (sum_at es k.items +ℤ m.number) es
      ∙ at p rises (pointwise nat_eq p k.items) refl;
}
  where
    at : (p : List ℕ) → IsSorted nat_cmp p → (t : Bool) → pointwise nat_eq p k.items ≡ t → cond t (sum_at es k.items +ℤ m.number) (sum_at es p) ≡ coefficient nat_eq p (take (i + 1) ms)
    at p rises true e =
        let f : p ≡ k.items = told p k.items e in
        let g : is_same nat_eq p m.atoms ≡ true = ap (λ l. is_same nat_eq l m.atoms) f ∙ same_back nat_eq numbers_told m.atoms k.items (permuted m.atoms k.items moved) in
        let s : share nat_eq p (get_or ms i m) ≡ m.number = ap (share nat_eq p) (sym is) ∙ ap (λ t. cond t m.number (pos 0)) g in
        let b : sum_at es k.items ≡ coefficient nat_eq p (take i ms) = sums.each k.items up ∙ ap (λ l. coefficient nat_eq l (take i ms)) (sym f) in
        omega (arith, ints, coefficient-more p nat_eq ms i m h, s, b)
    at p rises false e =
        let s : share nat_eq p (get_or ms i m) ≡ pos 0 = ap (share nat_eq p) (sym is) ∙ none p rises (is_same nat_eq p m.atoms) refl e in
        omega (arith, ints, coefficient-more p nat_eq ms i m h, s, sums.each p rises)
      where
        none : (p : List ℕ) → IsSorted nat_cmp p → (t : Bool) → is_same nat_eq p m.atoms ≡ t → pointwise nat_eq p k.items ≡ false → cond t m.number (pos 0) ≡ pos 0
        none p rises true g e = let f : p ≡ k.items = one_sorted p k.items rises up (same_swap nat_eq numbers_told m.atoms p k.items (same_back nat_eq numbers_told p m.atoms g) (permuted m.atoms k.items moved)) in absurd (true≢false (sym (tells p k.items f) ∙ e))
        none p rises false g e = refl

-- a monomial as the code keeps it
abbrev stored : ℤ → List ℕ → Monomial ℕ
stored n atoms = record { number = n; atoms = atoms }

pub sums_inserted : (ms : List (Monomial ℕ)) (es new : List (Vec ℕ Global × ℤ)) (i : ℕ) (n : ℤ) (atoms : List ℕ) (m : Monomial ℕ) (k : Vec ℕ Global) (v : ℤ) → new ≡ insert_entry key_eq es k v → stored n atoms ≡ m → i < length ms → m ≡ get_or ms i m → IsSorted nat_cmp k.items → IsPermutation atoms k.items → AreSums (take i ms) es → v ≡ sum_at es k.items +ℤ n → AreSums (take (i + 1) ms) new
sums_inserted ms es new i n atoms m k v made view h is up moved sums sum =
    let number : m.number ≡ n = ap (λ (x : Monomial ℕ). x.number) (sym view) in
    let same : m.atoms ≡ atoms = ap (λ (x : Monomial ℕ). x.atoms) (sym view) in
    let value : sum_at es k.items +ℤ m.number ≡ v = ap (λ z. sum_at es k.items +ℤ z) number ∙ sym sum in
    subst (AreSums (take (i + 1) ms)) (ap (insert_entry key_eq es k) value ∙ sym made)
    (sums_more ms es i m k h is up (subst (λ l. IsPermutation l k.items) (sym same) moved) sums)

pub sums_none : AreSums [] []
sums_none = record { each = λ p rises. refl }

-- a product is found by its sorted atoms
pub sum_found : (ms : List (Monomial ℕ)) (es : List (Vec ℕ Global × ℤ)) → AreSums ms es → (atoms p : List ℕ) → IsSorted nat_cmp p → IsPermutation atoms p → sum_at es p ≡ coefficient nat_eq atoms ms
sum_found ms es sums atoms p up moved = sums.each p up ∙ sym (coefficient_same nat_eq numbers_told atoms p (permuted atoms p moved) ms)

-- each sum fits
pub sum_fits : (ms : List (Monomial ℕ)) (es : List (Vec ℕ Global × ℤ)) (i : ℕ) (m : Monomial ℕ) (k : Vec ℕ Global) → i < length ms → m ≡ get_or ms i m → IsSorted nat_cmp k.items → IsPermutation m.atoms k.items → AreSums (take i ms) es → weight ms < 2 ^ 127 → FitsSigned w128 (sum_at es k.items +ℤ m.number)
sum_fits ms es i m k h is up moved sums small =
    let more = sums_more ms es i m k h is up moved sums in
    let e : sum_at es k.items +ℤ m.number ≡ coefficient nat_eq k.items (take (i + 1) ms) =
    ap (λ t. cond t (sum_at es k.items +ℤ m.number) (sum_at es k.items)) (sym (tells k.items k.items refl)) ∙ sym (sum_inserted k.items k (sum_at es k.items +ℤ m.number) es) ∙ more.each k.items up in
    subst (FitsSigned w128) (sym e) (fits_signed_from_abs w128 (coefficient nat_eq k.items (take (i + 1) ms)) (omega (arith, coefficient_le_weight nat_eq k.items (take (i + 1) ms), weight-take ms (i + 1))))

pub plus_fits : (ms : List (Monomial ℕ)) (es : List (Vec ℕ Global × ℤ)) (i : ℕ) (n : ℤ) (atoms : List ℕ) (m : Monomial ℕ) (k : Vec ℕ Global) (s : ℤ) → s ≡ sum_at es k.items → stored n atoms ≡ m → i < length ms → m ≡ get_or ms i m → IsSorted nat_cmp k.items → IsPermutation atoms k.items → AreSums (take i ms) es → weight ms < 2 ^ 127 → FitsSigned w128 (s +ℤ n)
plus_fits ms es i n atoms m k s e view h is up moved sums small =
    let number : m.number ≡ n = ap (λ (x : Monomial ℕ). x.number) (sym view) in
    let same : m.atoms ≡ atoms = ap (λ (x : Monomial ℕ). x.atoms) (sym view) in
    subst (FitsSigned w128) (ap (λ z. sum_at es k.items +ℤ z) number ∙ ap (λ z. z +ℤ n) (sym e))
    (sum_fits ms es i m k h is up (subst (λ l. IsPermutation l k.items) (sym same) moved) sums small)
