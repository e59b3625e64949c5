-- Division that rounds down, and sums and tests over ranges.
use Rattle.std.proofs.Common.{◌≡◌, ◌≢◌, ℕ, zero, suc, ◌+◌, ◌-◌, ◌*◌, ◌/◌, ◌%◌, ◌<◌, inl, inr, refl, sym, ◌∙◌, ap, subst, arith, Bool, ℤ, pos, negsuc, neg_ℤ}
use Rattle.std.specs.Prelude.{◌+ℤ◌, ◌*ℤ◌, ◌<ℤ◌, ◌≤ℤ◌, ◌↔◌, IsTrue}
use Rattle.std.specs.Int.{int_gap}
use Rattle.std.proofs.lemmas.Bool.{and_parts, and_from, or_cases, or_left, or_right}
use Rattle.std.proofs.lemmas.Int.{ints, by_lt_z}
use Rattle.std.proofs.Math.IntN.{pos-*ℤ-pos, negsuc-*ℤ-pos, *ℤ-negsuc}
use Rattle.std.proofs.Math.Nat.{suc-mul}
use Rattle.sp_base.specs.Integers.{quotient, remainder, IsDivision, low_byte, count_between, sum_from, all_from, some_from, sum_between, all_between, some_between}

-- a number from the quotient and the remainder of its size
positive_whole : (a n : ℕ) → pos a ≡ pos (a / suc n) *ℤ pos (suc n) +ℤ pos (a % suc n)
positive_whole a n =
    let e : (a / suc n) * suc n + a % suc n ≡ a = omega arith in
    sym (ap (λ z. z +ℤ pos (a % suc n)) (pos-*ℤ-pos (a / suc n) (suc n)) ∙ ap pos e)

negative_rest : (p r n a : ℕ) → p + r ≡ a → r < suc n → negsuc a ≡ neg_ℤ (pos (p + suc n)) +ℤ pos (suc n - 1 - r)
negative_rest p r n a e low = omega (arith, ints)

negative_whole : (a n : ℕ) → negsuc a ≡ negsuc (a / suc n) *ℤ pos (suc n) +ℤ pos (suc n - 1 - a % suc n)
negative_whole a n =
    let e : (a / suc n) * suc n + a % suc n ≡ a = omega arith in
    let low : a % suc n < suc n = omega arith in
    negative_rest ((a / suc n) * suc n) (a % suc n) n a e low
    ∙ sym (ap (λ z. z +ℤ pos (suc n - 1 - a % suc n)) (negsuc-*ℤ-pos (a / suc n) (suc n) ∙ ap (λ m. neg_ℤ (pos m)) (suc-mul (a / suc n) (suc n))))

by_positive : (x : ℤ) (n : ℕ) → IsDivision x (pos (suc n)) (quotient x (pos (suc n))) (remainder x (pos (suc n)))
by_positive (pos a) n = record {
  whole = positive_whole a n;
  between = inl (let l : a % suc n < suc n = omega arith in (omega (arith, ints), omega (arith, ints)));
}
by_positive (negsuc a) n =
    let low : a % suc n < suc n = omega arith in
    record {
      whole = negative_whole a n;
      between = inl (omega (arith, ints), omega (arith, ints));
    }

turned_whole : (x p q r : ℤ) → neg_ℤ x ≡ p +ℤ r → q ≡ neg_ℤ p → x ≡ q +ℤ neg_ℤ r
turned_whole x p q r e f = omega (arith, ints)

-- a division of the number with the other sign by a positive number, turned round
turned : (x : ℤ) (n : ℕ) (q r : ℤ) → IsDivision (neg_ℤ x) (pos (suc n)) q r → IsDivision x (negsuc n) q (neg_ℤ r)
turned x n q r d = record {
  whole = turned_whole x (q *ℤ pos (suc n)) (q *ℤ negsuc n) r d.whole (*ℤ-negsuc q n);
  between = elim d.between [ inl b ↦ inr (omega (arith, ints, b.0, b.1), omega (arith, ints, b.0, b.1)) | inr b ↦ absurd (omega (arith, ints, b.0, b.1)) ];
}

pub divides : (x y : ℤ) → y ≢ pos 0 → IsDivision x y (quotient x y) (remainder x y)
divides x (pos zero) some = absurd (some refl)
divides x (pos (suc n)) some = by_positive x n
divides x (negsuc n) some = turned x n _ _ (by_positive (neg_ℤ x) n)

gap_up : (a b : ℤ) → a ≤ℤ b → b ≡ a +ℤ pos (int_gap a b)
gap_up (pos a) (pos b) h = omega (arith, ints)
gap_up (pos a) (negsuc b) h = absurd (omega (arith, ints))
gap_up (negsuc a) (pos b) h = omega (arith, ints)
gap_up (negsuc a) (negsuc b) h = omega (arith, ints)

gap_none : (a b : ℤ) → b ≤ℤ a → int_gap a b ≡ 0
gap_none (pos a) (pos b) h = omega (arith, ints)
gap_none (pos a) (negsuc b) h = refl
gap_none (negsuc a) (pos b) h = absurd (omega (arith, ints))
gap_none (negsuc a) (negsuc b) h = omega (arith, ints)

-- the number past a range is as far above its first number as the range has numbers
pub past_range : (low high : ℤ) → low ≤ℤ (high +ℤ pos 1) → high +ℤ pos 1 ≡ low +ℤ pos (count_between low high)
past_range low high h = gap_up low (high +ℤ pos 1) h

pub count_none : (low high : ℤ) → high <ℤ low → count_between low high ≡ 0
count_none low high h = gap_none low (high +ℤ pos 1) (omega (arith, ints))

next_place : (z : ℤ) (m : ℕ) → (z +ℤ pos 1) +ℤ pos m ≡ z +ℤ pos (suc m)
next_place z m = omega (arith, ints)

grouped : (a b c : ℤ) → a +ℤ (b +ℤ c) ≡ (a +ℤ b) +ℤ c
grouped a b c = omega (arith, ints)

-- a sum over m numbers and n more
pub sum_from-+ : (f : ℤ → ℤ) (z : ℤ) (m n : ℕ) → sum_from f z (m + n) ≡ sum_from f z m +ℤ sum_from f (z +ℤ pos m) n
unfolding sum_from
sum_from-+ f z zero n =
    let k : 0 + n ≡ n = omega arith in
    let w : z +ℤ pos 0 ≡ z = omega (arith, ints) in
    let v : (a : ℤ) → a ≡ pos 0 +ℤ a = λ a. omega (arith, ints) in
    ap (sum_from f z) k ∙ v (sum_from f z n) ∙ ap (λ y. pos 0 +ℤ sum_from f y n) (sym w)
sum_from-+ f z (suc m) n =
    let k : suc m + n ≡ suc (m + n) = omega arith in
    ap (sum_from f z) k ∙ ap (λ s. f z +ℤ s) (sum_from-+ f (z +ℤ pos 1) m n)
    ∙ grouped (f z) (sum_from f (z +ℤ pos 1) m) _
    ∙ ap (λ y. (f z +ℤ sum_from f (z +ℤ pos 1) m) +ℤ sum_from f y n) (next_place z m)

pub sum_between_none : (f : ℤ → ℤ) (low high : ℤ) → high <ℤ low → sum_between f low high ≡ pos 0
unfolding sum_from
sum_between_none f low high h = ap (sum_from f low) (count_none low high h)

-- a range in two parts
counts : (low mid high : ℤ) → low ≤ℤ (mid +ℤ pos 1) → mid ≤ℤ high → count_between low high ≡ count_between low mid + count_between (mid +ℤ pos 1) high
counts low mid high h k =
    let a : low ≤ℤ (high +ℤ pos 1) = omega (arith, ints) in
    let b : (mid +ℤ pos 1) ≤ℤ (high +ℤ pos 1) = omega (arith, ints) in
    let all : high +ℤ pos 1 ≡ low +ℤ pos (count_between low high) = past_range low high a in
    let first : mid +ℤ pos 1 ≡ low +ℤ pos (count_between low mid) = past_range low mid h in
    let second : high +ℤ pos 1 ≡ (mid +ℤ pos 1) +ℤ pos (count_between (mid +ℤ pos 1) high) = past_range (mid +ℤ pos 1) high b in
    omega (arith, ints)

pub sum_between-parts : (f : ℤ → ℤ) (low mid high : ℤ) → low ≤ℤ (mid +ℤ pos 1) → mid ≤ℤ high → sum_between f low high ≡ sum_between f low mid +ℤ sum_between f (mid +ℤ pos 1) high
sum_between-parts f low mid high h k =
    ap (sum_from f low) (counts low mid high h k) ∙ sum_from-+ f low (count_between low mid) (count_between (mid +ℤ pos 1) high)
    ∙ ap (λ z. sum_between f low mid +ℤ sum_from f z (count_between (mid +ℤ pos 1) high)) (sym (past_range low mid h))

one_sum : (f : ℤ → ℤ) (z : ℤ) (n : ℕ) → n ≡ 1 → sum_from f z n ≡ f z
unfolding sum_from
one_sum f z n h = ap (sum_from f z) h ∙ (let v : (a : ℤ) → a +ℤ pos 0 ≡ a = λ a. omega (arith, ints) in v (f z))

pub sum_between_one : (f : ℤ → ℤ) (z : ℤ) → sum_between f z z ≡ f z
sum_between_one f z =
    let past : z +ℤ pos 1 ≡ z +ℤ pos (count_between z z) = past_range z z (omega (arith, ints)) in
    one_sum f z (count_between z z) (omega (arith, ints))

-- the first number of a range or a later one
first_or_later : {P : Type 0} (z w : ℤ) → z ≤ℤ w → (w ≡ z → P) → ((z +ℤ pos 1) ≤ℤ w → P) → P
first_or_later z w h first later = by_lt_z z w (λ l. later (omega (arith, ints))) (λ l. first (omega (arith, ints)))

all_here : (p : ℤ → Bool) (z w : ℤ) (n : ℕ) → IsTrue (all_from p z n) → z ≤ℤ w → w <ℤ (z +ℤ pos n) → IsTrue (p w)
unfolding all_from
all_here p z w zero h low high = absurd (omega (arith, ints))
all_here p z w (suc n) h low high =
    let both = and_parts (p z) (all_from p (z +ℤ pos 1) n) h in
    first_or_later z w low (λ e. subst (λ v. IsTrue (p v)) (sym e) both.0)
    (λ l. all_here p (z +ℤ pos 1) w n both.1 l (omega (arith, ints)))

all_made : (p : ℤ → Bool) (z : ℤ) (n : ℕ) → ((w : ℤ) → z ≤ℤ w → w <ℤ (z +ℤ pos n) → IsTrue (p w)) → IsTrue (all_from p z n)
unfolding all_from
all_made p z zero h = refl
all_made p z (suc n) h = and_from (p z) (all_from p (z +ℤ pos 1) n) (h z (omega (arith, ints)) (omega (arith, ints)))
    (all_made p (z +ℤ pos 1) n (λ w low high. h w (omega (arith, ints)) (omega (arith, ints))))

some_here : (p : ℤ → Bool) (z : ℤ) (n : ℕ) → IsTrue (some_from p z n) → (w : ℤ) × (z ≤ℤ w) × (w <ℤ (z +ℤ pos n)) × IsTrue (p w)
unfolding some_from
some_here p z zero h = absurd (cc)
some_here p z (suc n) h = elim (or_cases (p z) (some_from p (z +ℤ pos 1) n) h) [
  | inl first ↦ (z, omega (arith, ints), omega (arith, ints), first)
  | inr later ↦ let it = some_here p (z +ℤ pos 1) n later in
      let low : (z +ℤ pos 1) ≤ℤ it.0 = it.1 in
      let high : it.0 <ℤ ((z +ℤ pos 1) +ℤ pos n) = it.2 in
      (it.0, omega (arith, ints), omega (arith, ints), it.3)
]

some_made : (p : ℤ → Bool) (z w : ℤ) (n : ℕ) → z ≤ℤ w → w <ℤ (z +ℤ pos n) → IsTrue (p w) → IsTrue (some_from p z n)
unfolding some_from
some_made p z w zero low high h = absurd (omega (arith, ints))
some_made p z w (suc n) low high h =
    first_or_later z w low (λ e. or_left (p z) (some_from p (z +ℤ pos 1) n) (subst (λ v. IsTrue (p v)) e h))
    (λ l. or_right (p z) (some_from p (z +ℤ pos 1) n) (some_made p (z +ℤ pos 1) w n l (omega (arith, ints)) h))

-- where a range has w, w is below the number past its first ones
past_last : (low high w : ℤ) → low ≤ℤ w → w ≤ℤ high → w <ℤ (low +ℤ pos (count_between low high))
past_last low high w h k =
    let e : high +ℤ pos 1 ≡ low +ℤ pos (count_between low high) = past_range low high (omega (arith, ints)) in omega (arith, ints)

within_last : (low high w : ℤ) → low ≤ℤ w → w <ℤ (low +ℤ pos (count_between low high)) → w ≤ℤ high
within_last low high w h k = by_lt_z high low
    (λ l. let none : count_between low high ≡ 0 = count_none low high l in absurd (omega (arith, ints)))
    (λ l. let e : high +ℤ pos 1 ≡ low +ℤ pos (count_between low high) = past_range low high (omega (arith, ints)) in omega (arith, ints))

pub all_between_is : (p : ℤ → Bool) (low high : ℤ) → IsTrue (all_between p low high) ↔ ((w : ℤ) → low ≤ℤ w → w ≤ℤ high → IsTrue (p w))
all_between_is p low high = (
  (λ h w from to. all_here p low w (count_between low high) h from (past_last low high w from to)),
  (λ h. all_made p low (count_between low high) (λ w from to. h w from (within_last low high w from to))),
)

pub some_between_is : (p : ℤ → Bool) (low high : ℤ) → IsTrue (some_between p low high) ↔ ((w : ℤ) × (low ≤ℤ w) × (w ≤ℤ high) × IsTrue (p w))
some_between_is p low high = (
  (λ h. let it = some_here p low (count_between low high) h in (it.0, it.1, within_last low high it.0 it.1 it.2, it.3)),
  (λ it. some_made p low it.0 (count_between low high) it.1 (past_last low high it.0 it.1 it.2) it.3),
)

pub low_byte_is : (x : ℤ) → remainder x (pos 256) ≡ pos (low_byte x)
low_byte_is (pos a) = refl
low_byte_is (negsuc a) = refl

pub low_byte_below : (x : ℤ) → low_byte x < 256
low_byte_below (pos a) = omega arith
low_byte_below (negsuc a) = omega arith
