-- A polynomial's value comes from its coefficients alone.
use Rattle.std.proofs.Common.{ℕ, zero, suc, ◌≤◌, ◌≡◌, ◌≢◌, refl, sym, ◌∙◌, ap, ℤ, pos, negsuc, ◌+ℤ◌, ◌-ℤ◌, ◌*ℤ◌, Bool, true, false, cond, List, [], ◌∷◌, ◌++◌, length, arith}
use Rattle.std.proofs.lemmas.Int.{ints}
use Rattle.std.proofs.Math.IntN.{zero-*ℤ}
use Rattle.sp_linear.specs.Polynomials.{Monomial, number_only, times_one, is_same, share, coefficient}
use Rattle.sp_linear.specs.code.Sums.{product_value, sum_value}
use Rattle.sp_linear.proofs.RingLemmas.{dist_right, minus_one-times, times-one}
use Rattle.sp_linear.proofs.PolynomialLemmas.{sum-append, sum-minus}
use Rattle.sp_linear.proofs.ProductLemmas.{AreTold, product_same, same_from, same_self, same_swap, same_back, not_nothing}

abbrev others : {A : Type 0} (same : A → A → Bool) → List A → List (Monomial A) → List (Monomial A)
others same p [] = []
others same p (m ∷ ms) = cond (is_same same p m.atoms) (others same p ms) (m ∷ others same p ms)

split_value : {A : Type 0} (same : A → A → Bool) → AreTold same → (v : A → ℤ) (p : List A) (ms : List (Monomial A)) → sum_value v ms ≡ (coefficient same p ms *ℤ product_value v p) +ℤ sum_value v (others same p ms)
split_value same d v p [] = omega (arith, ints, zero-*ℤ (product_value v p))
split_value same d v p (m ∷ ms) =
    let rest = split_value same d v p ms in
    elim (is_same same p m.atoms) as (λ t. is_same same p m.atoms ≡ t → (m.number *ℤ product_value v m.atoms) +ℤ sum_value v ms ≡ ((cond t m.number (pos 0) +ℤ coefficient same p ms) *ℤ product_value v p) +ℤ sum_value v (cond t (others same p ms) (m ∷ others same p ms))) [
      | true ↦ λ e.
          let f : product_value v p ≡ product_value v m.atoms = product_same same d v p m.atoms (same_from same d p m.atoms e) in
          rw (sym f) (omega (arith, ints, rest, dist_right m.number (coefficient same p ms) (product_value v p)))
      | false ↦ λ e. omega (arith, ints, rest, dist_right (pos 0) (coefficient same p ms) (product_value v p), zero-*ℤ (product_value v p))
    ] refl

coefficient-others_same : {A : Type 0} (same : A → A → Bool) → AreTold same → (p q : List A) → is_same same p q ≡ true → (ms : List (Monomial A)) → coefficient same q (others same p ms) ≡ pos 0
coefficient-others_same same d p q h [] = refl
coefficient-others_same same d p q h (m ∷ ms) =
    let rest = coefficient-others_same same d p q h ms in
    elim (is_same same p m.atoms) as (λ t. is_same same p m.atoms ≡ t → coefficient same q (cond t (others same p ms) (m ∷ others same p ms)) ≡ pos 0) [
      | true ↦ λ e. rest
      | false ↦ λ e.
          elim (is_same same q m.atoms) as (λ t. is_same same q m.atoms ≡ t → cond t m.number (pos 0) +ℤ coefficient same q (others same p ms) ≡ pos 0) [
            | true ↦ λ f. let g : is_same same p m.atoms ≡ true = same_swap same d q p m.atoms (same_back same d p q h) f in cc
            | false ↦ λ f. omega (arith, ints, rest)
          ] refl
    ] refl

coefficient-others : {A : Type 0} (same : A → A → Bool) → AreTold same → (p q : List A) → is_same same p q ≡ false → (ms : List (Monomial A)) → coefficient same q (others same p ms) ≡ coefficient same q ms
coefficient-others same d p q h [] = refl
coefficient-others same d p q h (m ∷ ms) =
    let rest = coefficient-others same d p q h ms in
    elim (is_same same p m.atoms) as (λ t. is_same same p m.atoms ≡ t → coefficient same q (cond t (others same p ms) (m ∷ others same p ms)) ≡ share same q m +ℤ coefficient same q ms) [
      | true ↦ λ e.
          elim (is_same same q m.atoms) as (λ t. is_same same q m.atoms ≡ t → coefficient same q (others same p ms) ≡ cond t m.number (pos 0) +ℤ coefficient same q ms) [
            | true ↦ λ f. let g : is_same same p q ≡ true = same_back same d q p (same_swap same d m.atoms q p (same_back same d q m.atoms f) (same_back same d p m.atoms e)) in cc
            | false ↦ λ f. omega (arith, ints, rest)
          ] refl
      | false ↦ λ e. omega (arith, ints, rest)
    ] refl

length-others : {A : Type 0} (same : A → A → Bool) (p : List A) (ms : List (Monomial A)) → length (others same p ms) ≤ length ms
length-others same p [] = omega arith
length-others same p (m ∷ ms) = let rest = length-others same p ms in
    elim (is_same same p m.atoms) as (λ t. length (cond t (others same p ms) (m ∷ others same p ms)) ≤ suc (length ms)) [ true ↦ omega arith | false ↦ omega arith ]

zero_by : {A : Type 0} (same : A → A → Bool) → AreTold same → (v : A → ℤ) (n : ℕ) (ms : List (Monomial A)) → length ms ≤ n → ((q : List A) → coefficient same q ms ≡ pos 0) → sum_value v ms ≡ pos 0
zero_by same d v n [] h z = refl
zero_by same d v zero (m ∷ ms) h z = absurd (omega arith)
zero_by {A = A} same d v (suc n) (m ∷ ms) h z =
    let p = m.atoms in
    let first : others same p (m ∷ ms) ≡ others same p ms = ap (λ t. cond t (others same p ms) (m ∷ others same p ms)) (same_self same p) in
    let none : (q : List A) → coefficient same q (others same p (m ∷ ms)) ≡ pos 0 = λ q.
    elim (is_same same p q) as (λ t. is_same same p q ≡ t → coefficient same q (others same p (m ∷ ms)) ≡ pos 0) [
      | true ↦ λ e. coefficient-others_same same d p q e (m ∷ ms)
      | false ↦ λ e. coefficient-others same d p q e (m ∷ ms) ∙ z q
    ] refl in
    let left : sum_value v (others same p ms) ≡ pos 0 = zero_by same d v n (others same p ms) (omega (arith, length-others same p ms)) (λ q. ap (coefficient same q) (sym first) ∙ none q) in
    split_value same d v p (m ∷ ms) ∙ omega (arith, ints, ap (λ c. c *ℤ product_value v p) (z p), zero-*ℤ (product_value v p), ap (sum_value v) first, left)

pub zero_value : {A : Type 0} (same : A → A → Bool) → AreTold same → (v : A → ℤ) (ms : List (Monomial A)) → ((q : List A) → coefficient same q ms ≡ pos 0) → sum_value v ms ≡ pos 0
zero_value same d v ms z = zero_by same d v (length ms) ms (omega arith) z

pub coefficient-append : {A : Type 0} (same : A → A → Bool) (p : List A) (ms ns : List (Monomial A)) → coefficient same p (ms ++ ns) ≡ coefficient same p ms +ℤ coefficient same p ns
coefficient-append same p [] ns = omega (arith, ints)
coefficient-append same p (m ∷ ms) ns = omega (arith, ints, coefficient-append same p ms ns)

pub coefficient-minus : {A : Type 0} (same : A → A → Bool) (p : List A) (ms : List (Monomial A)) → coefficient same p (times_one (number_only (negsuc 0)) ms) ≡ pos 0 -ℤ coefficient same p ms
coefficient-minus same p [] = refl
coefficient-minus same p (m ∷ ms) =
    let rest = coefficient-minus same p ms in
    elim (is_same same p m.atoms) as (λ t. cond t (negsuc 0 *ℤ m.number) (pos 0) +ℤ coefficient same p (times_one (number_only (negsuc 0)) ms) ≡ pos 0 -ℤ (cond t m.number (pos 0) +ℤ coefficient same p ms))
    [ true ↦ omega (arith, ints, rest, minus_one-times m.number) | false ↦ omega (arith, ints, rest) ]

pub same_value : {A : Type 0} (same : A → A → Bool) → AreTold same → (v : A → ℤ) (ms ns : List (Monomial A)) → ((q : List A) → coefficient same q ms ≡ coefficient same q ns) → sum_value v ms ≡ sum_value v ns
same_value same d v ms ns h =
    let minus = times_one (number_only (negsuc 0)) ns in
    let none = zero_value same d v (ms ++ minus) (λ q. omega (arith, ints, coefficient-append same q ms minus, coefficient-minus same q ns, h q)) in
    omega (arith, ints, none, sum-append v ms minus, sum-minus v ns)

one_number : {A : Type 0} (same : A → A → Bool) → AreTold same → (ms : List (Monomial A)) → ((q : List A) → q ≢ [] → coefficient same q ms ≡ pos 0) → (q : List A) → coefficient same q ms ≡ coefficient same q (number_only (coefficient same [] ms) ∷ [])
one_number same d ms h [] = omega (arith, ints)
one_number same d ms h (a ∷ q) =
    let not_it : (a ∷ q) ≢ [] = λ e. cc in
    h (a ∷ q) not_it ∙ sym (ap (λ t. cond t (coefficient same [] ms) (pos 0) +ℤ pos 0) (not_nothing same d (a ∷ q) not_it))

pub constant_value : {A : Type 0} (same : A → A → Bool) → AreTold same → (v : A → ℤ) (ms : List (Monomial A)) → ((q : List A) → q ≢ [] → coefficient same q ms ≡ pos 0) → sum_value v ms ≡ coefficient same [] ms
constant_value {A = A} same d v ms h =
    let c = coefficient same [] ms in
    let only : (q : List A) → coefficient same q ms ≡ coefficient same q (number_only c ∷ []) = one_number same d ms h in
    same_value same d v ms (number_only c ∷ []) only ∙ omega (arith, ints, times-one c)
