-- Sums of cells: the cells that are no addresses add nothing.
use Rattle.std.proofs.Common.{◌≡◌, ◌≢◌, ℕ, zero, suc, ◌+◌, ◌-◌, ◌<◌, ◌≤◌, refl, sym, ◌∙◌, ap, arith, List, length, ℤ, pos}
use Rattle.std.specs.Prelude.{◌+ℤ◌, ◌-ℤ◌, ◌<ℤ◌, ◌≤ℤ◌}
use Rattle.std.proofs.lemmas.Int.{ints, by_lt_z}
use Rattle.sp_base.specs.Integers.{count_between, sum_from, sum_between}
use Rattle.sp_base.proofs.IntegerLemmas.{past_range, sum_between-parts, sum_between_none}
use Rattle.sp_model.specs.Note.{Frame, shown}
use Rattle.sp_model.proofs.NoteLemmas.{shown_below, shown_past}
use Rattle.sp_eval.specs.code.Small.{IsClamped}

-- a sum of one more number
pub sum_next : (g : ℤ → ℤ) (z : ℤ) (n m : ℕ) → n ≡ suc m → sum_from g z n ≡ g z +ℤ sum_from g (z +ℤ pos 1) m
unfolding sum_from
sum_next g z n m e = ap (sum_from g z) e

pub sum_none : (g : ℤ → ℤ) (z : ℤ) (n : ℕ) → n ≡ 0 → sum_from g z n ≡ pos 0
unfolding sum_from
sum_none g z n e = ap (sum_from g z) e

grouped : (a b c w : ℤ) → a +ℤ (b +ℤ c) ≡ w → (a +ℤ b) +ℤ c ≡ w
grouped a b c w e = omega (arith, ints)

-- the sum so far takes in the next cell
pub sum_step : (g : ℤ → ℤ) (sum r a n m : ℕ) (w : ℤ) → pos r ≡ g (pos a) → n ≡ suc m → pos sum +ℤ sum_from g (pos a) n ≡ w → pos (sum + r) +ℤ sum_from g (pos (a + 1)) m ≡ w
sum_step g sum r a n m w read e h =
    grouped (pos sum) (pos r) (sum_from g (pos (a + 1)) m) w
    (ap (λ v. pos sum +ℤ (v +ℤ sum_from g (pos (a + 1)) m)) read ∙ ap (λ v. pos sum +ℤ v) (sym (sum_next g (pos a) n m e)) ∙ h)

zeros : (a b : ℤ) → a ≡ pos 0 → b ≡ pos 0 → a +ℤ b ≡ pos 0
zeros a b e f = omega (arith, ints)

sum_zero : (g : ℤ → ℤ) (z : ℤ) (n : ℕ) → ((w : ℤ) → z ≤ℤ w → w <ℤ (z +ℤ pos n) → g w ≡ pos 0) → sum_from g z n ≡ pos 0
unfolding sum_from
sum_zero g z zero h = refl
sum_zero g z (suc n) h = zeros (g z) (sum_from g (z +ℤ pos 1) n) (h z (omega (arith, ints)) (omega (arith, ints)))
    (sum_zero g (z +ℤ pos 1) n (λ w from to. h w (omega (arith, ints)) (omega (arith, ints))))

-- the sum of a range of zeros
sum_between_zero : (g : ℤ → ℤ) (low high : ℤ) → ((w : ℤ) → low ≤ℤ w → w ≤ℤ high → g w ≡ pos 0) → sum_between g low high ≡ pos 0
sum_between_zero g low high h = by_lt_z high low (λ l. sum_between_none g low high l)
    (λ l. let past : high +ℤ pos 1 ≡ low +ℤ pos (count_between low high) = past_range low high (omega (arith, ints)) in
    sum_zero g low (count_between low high) (λ w from to. h w from (omega (arith, ints))))

-- a range from a to the number before b
counted : (g : ℤ → ℤ) (a b : ℕ) → a ≤ b → sum_between g (pos a) (pos b -ℤ pos 1) ≡ sum_from g (pos a) (b - a)
counted g a b h =
    let past : (pos b -ℤ pos 1) +ℤ pos 1 ≡ pos a +ℤ pos (count_between (pos a) (pos b -ℤ pos 1)) = past_range (pos a) (pos b -ℤ pos 1) (omega (arith, ints)) in
    let same : count_between (pos a) (pos b -ℤ pos 1) ≡ b - a = omega (arith, ints) in
    ap (sum_from g (pos a)) same

left_out : (x y z : ℤ) → x ≡ pos 0 → z ≡ pos 0 → x +ℤ (y +ℤ z) ≡ y
left_out x y z e f = omega (arith, ints)

one_less : (b : ℤ) → (b -ℤ pos 1) +ℤ pos 1 ≡ b
one_less b = omega (arith, ints)

-- a range of which only the part from a to the number before b isn't zero
pub clamped : (g : ℤ → ℤ) (low high : ℤ) (a b : ℕ) → a ≤ b → low ≤ℤ pos a → pos b ≤ℤ (high +ℤ pos 1)
    → ((w : ℤ) → low ≤ℤ w → w <ℤ pos a → g w ≡ pos 0) → ((w : ℤ) → pos b ≤ℤ w → w ≤ℤ high → g w ≡ pos 0)
    → sum_from g (pos a) (b - a) ≡ sum_between g low high
clamped g low high a b order first last before after =
    let first_part : sum_between g low (pos a -ℤ pos 1) ≡ pos 0 = sum_between_zero g low (pos a -ℤ pos 1) (λ w from to. before w from (omega (arith, ints))) in
    let last_part : sum_between g (pos b) high ≡ pos 0 = sum_between_zero g (pos b) high after in
    sym (sum_between-parts g low (pos a -ℤ pos 1) high (omega (arith, ints)) (omega (arith, ints))
    ∙ ap (λ z. sum_between g low (pos a -ℤ pos 1) +ℤ sum_between g z high) (one_less (pos a))
    ∙ ap (λ z. sum_between g low (pos a -ℤ pos 1) +ℤ z) (sum_between-parts g (pos a) (pos b -ℤ pos 1) high (omega (arith, ints)) (omega (arith, ints)))
    ∙ ap (λ z. sum_between g low (pos a -ℤ pos 1) +ℤ (sum_between g (pos a) (pos b -ℤ pos 1) +ℤ sum_between g z high)) (one_less (pos b))
    ∙ left_out (sum_between g low (pos a -ℤ pos 1)) (sum_between g (pos a) (pos b -ℤ pos 1)) (sum_between g (pos b) high) first_part last_part
    ∙ counted g a b order)

-- the sum of cells over the addresses of a range
pub total_is : (f : Frame) (cells : List ℕ) (low high : ℤ) (a b : ℕ) → length cells ≡ 65536 → IsClamped low a → IsClamped (high +ℤ pos 1) b → a < b
    → sum_from (shown f cells) (pos a) (b - a) ≡ sum_between (shown f cells) low high
total_is f cells low high a b whole first last order =
    let above : low ≤ℤ pos a = first.low (omega (arith, last.within)) in
    let below : pos b ≤ℤ (high +ℤ pos 1) = last.high (omega arith) in
    clamped (shown f cells) low high a b (omega arith) above below
    (λ w from to. by_lt_z w (pos 0) (λ l. shown_below f cells w l)
    (λ l. let some : a ≢ 0 = λ e. absurd (omega (arith, ints)) in let h = first.high some in absurd (omega (arith, ints))))
    (λ w from to. by_lt_z w (pos 65536)
    (λ l. let some : b ≢ 65536 = λ e. absurd (omega (arith, ints)) in let h = last.low some in absurd (omega (arith, ints)))
    (λ l. shown_past f cells w whole l))

-- a range without an address
pub total_none : (f : Frame) (cells : List ℕ) (low high : ℤ) (a b : ℕ) → length cells ≡ 65536 → IsClamped low a → IsClamped (high +ℤ pos 1) b → b ≤ a
    → pos 0 ≡ sum_between (shown f cells) low high
total_none f cells low high a b whole first last order = sym (sum_between_zero (shown f cells) low high
    (λ w from to. by_lt_z w (pos 0) (λ l. shown_below f cells w l)
    (λ l. by_lt_z w (pos 65536) (λ k. absurd (out w from to l k)) (λ k. shown_past f cells w whole k))))
  where
    out : (w : ℤ) → low ≤ℤ w → w ≤ℤ high → pos 0 ≤ℤ w → w <ℤ pos 65536 → ⊥
    out w from to l k = by_lt_z (pos b) (pos 65536)
        (λ small. let h = last.low (λ e. absurd (omega (arith, ints))) in
        by_lt_z (pos 0) (pos a)
        (λ some. let g = first.high (λ e. absurd (omega (arith, ints))) in omega (arith, ints))
        (λ none. omega (arith, ints)))
        (λ large. let g = first.high (λ e. absurd (omega (arith, ints))) in omega (arith, ints))

-- the sum so far is the whole sum once no cell is left
pub sum_so_far : (g : ℤ → ℤ) (sum : ℕ) (z : ℤ) (n : ℕ) (w : ℤ) → n ≡ 0 → pos sum +ℤ sum_from g z n ≡ w → pos sum ≡ w
sum_so_far g sum z n w none h = with_none (pos sum) (sum_from g z n) w (sum_none g z n none) h
  where
    with_none : (a b c : ℤ) → b ≡ pos 0 → a +ℤ b ≡ c → a ≡ c
    with_none a b c e f = omega (arith, ints)
