-- Division, and sums of cells, keep truth.
use Rattle.std.proofs.Common.{ℕ, zero, suc, ◌≡◌, refl, sym, ◌∙◌, ap, ap₂, subst, ℤ, pos, ◌+ℤ◌, ◌-ℤ◌, ◌*ℤ◌, ◌≤ℤ◌, ◌<ℤ◌, Bool, true, false, List, Some, arith}
use Rattle.std.specs.Prelude.{◌&&◌, ◌||◌, int_lt, int_le, if◌then◌else◌}
use Rattle.std.specs.Ordering.{int_eq}
use Rattle.std.specs.Cmp.{signed_Decides}
use Rattle.std.specs.List.{AllByRecursion}
use Rattle.std.proofs.lemmas.Int.{ints}
use Rattle.std.proofs.Math.IntN.{*ℤ_comm}
use Rattle.sp_base.specs.Integers.{quotient, remainder, sum_from, sum_between, count_between}
use Rattle.sp_base.proofs.IntegerLemmas.{past_range, sum_between_none, sum_between-parts, sum_between_one}
use Rattle.sp_term.specs.Tree.{Tree, Update, Total}
use Rattle.sp_term.specs.Value.{Env, int_of, map_of, updated, IsTrueIn}
use Rattle.sp_simp.proofs.RemainderLemmas.{division, remainder_within}
use Rattle.sp_steps.specs.Steps.{New, DivMod, Empty, Last, Over}
use Rattle.sp_steps.specs.Rows.{divided, empty_total, last_of_total, total_over_update}
use Rattle.sp_rules_laws.specs.Truth.{KeepsTruth}
use Rattle.sp_rules_laws.proofs.BoolLemmas.{none_some, if_some, and_left, and_right, or_cases, implies_from}
use Rattle.sp_rules_laws.proofs.StateLemmas.{Gives, locally, adding}

true_equal : (x y : ℤ) → x ≡ y → int_eq x y ≡ true
true_equal x y h = (signed_Decides x y).1 h

equal_true : (x y : ℤ) → int_eq x y ≡ true → x ≡ y
equal_true x y h = (signed_Decides x y).0 h

le_to : (a b : ℤ) → int_le a b ≡ true → a ≤ℤ b
le_to a b h = grind (arith, ints)

lt_to : (a b : ℤ) → int_lt a b ≡ true → a <ℤ b
lt_to a b h = grind (arith, ints)

lt_not : (a b : ℤ) → int_lt a b ≡ false → b ≤ℤ a
lt_not a b h = grind (arith, ints)

-- ---- divmod
divided_by : (e : Env) (t : Tree) (c : ℤ) (goal : Tree) (made : List New) → divided t c goal ≡ Some made → AllByRecursion (Gives e) made → IsTrueIn e goal
divided_by e t c goal made h all =
    let k = if_some (int_lt (pos 0) c) _ made h in
    let x = int_of e t in
    let whole : x ≡ (c *ℤ quotient x c) +ℤ remainder x c = (division x c k.0).whole ∙ ap (λ z. z +ℤ remainder x c) (*ℤ_comm (quotient x c) c) in
    let rest = remainder_within x c k.0 in
    adding e _ goal made k.1 (true_equal x _ whole, (rest.0, (rest.1, tt))) all

pub divmod_keeps : (t : Tree) (c : ℤ) → KeepsTruth (DivMod t c)
divmod_keeps t c = locally (DivMod t c) (λ image stack cs g made e proper right admissible row is all. divided_by e t c g.goal made row all)

-- ---- empty
empty_by : (e : Env) (t goal : Tree) (made : List New) → empty_total t goal ≡ Some made → AllByRecursion (Gives e) made → IsTrueIn e goal
empty_by e (Total m x y) goal made h all =
    adding e _ goal made h (implies_from (int_lt (int_of e y) (int_of e x)) _ (λ k. true_equal _ _ (sum_between_none (map_of e m) (int_of e x) (int_of e y) (lt_to (int_of e y) (int_of e x) k))), tt) all
empty_by e t goal made h all = none_some made h

pub empty_keeps : (t : Tree) → KeepsTruth (Empty t)
empty_keeps t = locally (Empty t) (λ image stack cs g made e proper right admissible row is all. empty_by e t g.goal made row all)

-- ---- last
last_sum : (f : ℤ → ℤ) (x y : ℤ) → x ≤ℤ y → sum_between f x y ≡ sum_between f x (y -ℤ pos 1) +ℤ f y
last_sum f x y h =
    let next : (y -ℤ pos 1) +ℤ pos 1 ≡ y = omega (arith, ints) in
    sum_between-parts f x (y -ℤ pos 1) y (omega (arith, ints)) (omega (arith, ints))
    ∙ ap (λ z. sum_between f x (y -ℤ pos 1) +ℤ sum_between f z y) next
    ∙ ap (λ z. sum_between f x (y -ℤ pos 1) +ℤ z) (sum_between_one f y)

last_by : (e : Env) (t goal : Tree) (made : List New) → last_of_total t goal ≡ Some made → AllByRecursion (Gives e) made → IsTrueIn e goal
last_by e (Total m x y) goal made h all =
    adding e _ goal made h (implies_from (int_le (int_of e x) (int_of e y)) _ (λ k. true_equal _ _ (last_sum (map_of e m) (int_of e x) (int_of e y) (le_to (int_of e x) (int_of e y) k))), tt) all
last_by e t goal made h all = none_some made h

pub last_keeps : (t : Tree) → KeepsTruth (Last t)
last_keeps t = locally (Last t) (λ image stack cs g made e proper right admissible row is all. last_by e t g.goal made row all)

-- ---- over
next_low : (low w : ℤ) → (low +ℤ pos 1) ≤ℤ w → low ≤ℤ w
next_low low w h = omega (arith, ints)

next_high : (low w : ℤ) (n : ℕ) → w <ℤ ((low +ℤ pos 1) +ℤ pos n) → w <ℤ (low +ℤ pos (suc n))
next_high low w n h = omega (arith, ints)

sum_same : (f g : ℤ → ℤ) (low : ℤ) (n : ℕ) → ((w : ℤ) → low ≤ℤ w → w <ℤ (low +ℤ pos n) → f w ≡ g w) → sum_from f low n ≡ sum_from g low n
unfolding sum_from
sum_same f g low zero h = refl
sum_same f g low (suc n) h =
    ap₂ (λ (a b : ℤ). a +ℤ b) (h low (omega (arith, ints)) (omega (arith, ints)))
    (sum_same f g (low +ℤ pos 1) n (λ w l u. h w (next_low low w l) (next_high low w n u)))

between_by : (f g : ℤ → ℤ) (low high : ℤ) → ((w : ℤ) → low ≤ℤ w → w ≤ℤ high → f w ≡ g w) → (b : Bool) → int_lt high low ≡ b → sum_between f low high ≡ sum_between g low high
between_by f g low high h true k = sum_between_none f low high (lt_to high low k) ∙ sym (sum_between_none g low high (lt_to high low k))
between_by f g low high h false k =
    let past : high +ℤ pos 1 ≡ low +ℤ pos (count_between low high) = past_range low high (let l = lt_not high low k in omega (arith, ints)) in
    sum_same f g low (count_between low high) (λ w l u. h w l (let v : w <ℤ (high +ℤ pos 1) = subst (λ z. w <ℤ z) (sym past) u in omega (arith, ints)))

between_same : (f g : ℤ → ℤ) (low high : ℤ) → ((w : ℤ) → low ≤ℤ w → w ≤ℤ high → f w ≡ g w) → sum_between f low high ≡ sum_between g low high
between_same f g low high h = between_by f g low high h (int_lt high low) refl

-- a map with another number at z has what it had elsewhere
changed_by : (f : ℤ → ℤ) (z v w : ℤ) → (w ≡ z → ⊥) → (b : Bool) → int_eq w z ≡ b → (if b then v else f w) ≡ f w
changed_by f z v w apart true k = absurd (apart (equal_true w z k))
changed_by f z v w apart false k = refl

elsewhere : (f : ℤ → ℤ) (z v w : ℤ) → (w ≡ z → ⊥) → updated f z v w ≡ f w
elsewhere f z v w apart = changed_by f z v w apart (int_eq w z) refl

here : (f : ℤ → ℤ) (z v : ℤ) → updated f z v z ≡ v
here f z v = ap (λ (b : Bool). if b then v else f z) (true_equal z z refl)

below_apart : (w z y : ℤ) → w ≤ℤ y → y <ℤ z → w ≡ z → ⊥
below_apart w z y h k e = absurd (omega (arith, ints))

above_apart : (w z x : ℤ) → x ≤ℤ w → z <ℤ x → w ≡ z → ⊥
above_apart w z x h k e = absurd (omega (arith, ints))

-- the sum in three parts
three : (f : ℤ → ℤ) (x z y : ℤ) → x ≤ℤ z → z ≤ℤ y → sum_between f x y ≡ (sum_between f x (z -ℤ pos 1) +ℤ f z) +ℤ sum_between f (z +ℤ pos 1) y
three f x z y h k =
    sum_between-parts f x z y (omega (arith, ints)) k ∙ ap (λ s. s +ℤ sum_between f (z +ℤ pos 1) y) (last_sum f x z h)

moved : (s a b c v o : ℤ) → s ≡ (a +ℤ v) +ℤ c → b ≡ (a +ℤ o) +ℤ c → s ≡ (b +ℤ v) -ℤ o
moved s a b c v o h k = omega (arith, ints)

over_sum : (f : ℤ → ℤ) (z v x y : ℤ) → x ≤ℤ z → z ≤ℤ y → sum_between (updated f z v) x y ≡ (sum_between f x y +ℤ v) -ℤ f z
over_sum f z v x y h k =
    let g = updated f z v in
    let low : sum_between g x (z -ℤ pos 1) ≡ sum_between f x (z -ℤ pos 1) = between_same g f x (z -ℤ pos 1) (λ w l u. elsewhere f z v w (below_apart w z (z -ℤ pos 1) u (omega (arith, ints)))) in
    let high : sum_between g (z +ℤ pos 1) y ≡ sum_between f (z +ℤ pos 1) y = between_same g f (z +ℤ pos 1) y (λ w l u. elsewhere f z v w (above_apart w z (z +ℤ pos 1) l (omega (arith, ints)))) in
    let all : sum_between g x y ≡ (sum_between f x (z -ℤ pos 1) +ℤ v) +ℤ sum_between f (z +ℤ pos 1) y =
    three g x z y h k ∙ ap₂ (λ (a b : ℤ). a +ℤ b) (ap₂ (λ (a b : ℤ). a +ℤ b) low (here f z v)) high in
    moved (sum_between g x y) (sum_between f x (z -ℤ pos 1)) (sum_between f x y) (sum_between f (z +ℤ pos 1) y) v (f z) all (three f x z y h k)

outside_sum : (f : ℤ → ℤ) (z v x y : ℤ) → int_lt z x || int_lt y z ≡ true → sum_between (updated f z v) x y ≡ sum_between f x y
outside_sum f z v x y h =
    or_cases (int_lt z x) (int_lt y z) h
    (λ k. between_same (updated f z v) f x y (λ w l u. elsewhere f z v w (above_apart w z x l (lt_to z x k))))
    (λ k. between_same (updated f z v) f x y (λ w l u. elsewhere f z v w (below_apart w z y u (lt_to y z k))))

over_by : (e : Env) (t goal : Tree) (made : List New) → total_over_update t goal ≡ Some made → AllByRecursion (Gives e) made → IsTrueIn e goal
over_by e (Total (Update m z v) x y) goal made h all =
    let f = map_of e m in
    adding e _ goal made h (
      implies_from (int_lt (int_of e z) (int_of e x) || int_lt (int_of e y) (int_of e z)) _ (λ k. true_equal _ _ (outside_sum f (int_of e z) (int_of e v) (int_of e x) (int_of e y) k)),
      (
        implies_from (int_le (int_of e x) (int_of e z) && int_le (int_of e z) (int_of e y)) _ (λ k. true_equal _ _ (over_sum f (int_of e z) (int_of e v) (int_of e x) (int_of e y)
            (le_to (int_of e x) (int_of e z) (and_left _ (int_le (int_of e z) (int_of e y)) k)) (le_to (int_of e z) (int_of e y) (and_right (int_le (int_of e x) (int_of e z)) _ k)))),
        tt,
      ),
    ) all
over_by e t goal made h all = none_some made h

pub over_keeps : (t : Tree) → KeepsTruth (Over t)
over_keeps t = locally (Over t) (λ image stack cs g made e proper right admissible row is all. over_by e t g.goal made row all)
