-- Bits of numbers, and of bytes joined bit by bit.
use Rattle.std.proofs.Common.{ℕ, zero, suc, ◌+◌, ◌-◌, ◌*◌, ◌/◌, ◌%◌, ◌<◌, ◌≤◌, ◌^◌, ◌≡◌, refl, sym, ◌∙◌, ap, ap₂, subst, min, max, ℤ, pos, negsuc, ◌+ℤ◌, ◌-ℤ◌, ◌*ℤ◌, Bool, true, false, List, Some, nat_eq, arith}
use Rattle.std.specs.Prelude.{◌==◌, ◌&&◌, if◌then◌else◌, nat_le, count_ones, bit_and, bit_or, bit_xor}
use Rattle.std.specs.Ordering.{int_eq}
use Rattle.std.specs.Int.{bit_at}
use Rattle.std.specs.Cmp.{signed_Decides}
use Rattle.std.specs.List.{AllByRecursion}
use Rattle.std.proofs.lemmas.Bool.{eqb-true}
use Rattle.std.proofs.lemmas.Bool.Decides.{nat_tests}
use Rattle.std.proofs.lemmas.Nat.Bits.{bit_at-lt, bit_at_and, bit_at_or, bit_at_xor}
use Rattle.std.proofs.Math.IntN.{pos-*ℤ-pos}
use Rattle.sp_base.specs.Integers.{quotient, remainder, low_byte, byte_and, byte_or, byte_xor, parity}
use Rattle.sp_base.proofs.IntegerLemmas.{low_byte_is, low_byte_below}
use Rattle.sp_term.specs.Tree.{Tree, ByteAnd, ByteOr, ByteXor}
use Rattle.sp_term.specs.Value.{Env, int_of, bit, low_bit, IsTrueIn}
use Rattle.sp_steps.specs.Steps.{New, Bits, BitOf}
use Rattle.sp_steps.specs.Rows.{in_bits, bit_of_parts, bit_is, bit_of}
use Rattle.sp_rules_laws.specs.Truth.{KeepsTruth}
use Rattle.sp_rules_laws.proofs.BoolLemmas.{none_some, if_some, and_left, and_right}
use Rattle.sp_rules_laws.proofs.StateLemmas.{Gives, locally, adding}

true_equal : (x y : ℤ) → x ≡ y → int_eq x y ≡ true
true_equal x y h = (signed_Decides x y).1 h

-- ---- the lowest eight bits of a number are those of its low byte
bit_0 : (z : ℤ) → bit 0 z ≡ pos (bit_at (low_byte z) 0)
bit_0 (pos n) = ap pos (let f : n / 1 % 2 ≡ (n % 256) / 1 % 2 = omega arith in f)
bit_0 (negsuc n) = ap pos (let f : 2 - 1 - n / 1 % 2 ≡ (256 - 1 - n % 256) / 1 % 2 = omega arith in f)

bit_1 : (z : ℤ) → bit 1 z ≡ pos (bit_at (low_byte z) 1)
bit_1 (pos n) = ap pos (let f : n / 2 % 2 ≡ (n % 256) / 2 % 2 = omega arith in f)
bit_1 (negsuc n) = ap pos (let f : 2 - 1 - n / 2 % 2 ≡ (256 - 1 - n % 256) / 2 % 2 = omega arith in f)

bit_2 : (z : ℤ) → bit 2 z ≡ pos (bit_at (low_byte z) 2)
bit_2 (pos n) = ap pos (let f : n / 4 % 2 ≡ (n % 256) / 4 % 2 = omega arith in f)
bit_2 (negsuc n) = ap pos (let f : 2 - 1 - n / 4 % 2 ≡ (256 - 1 - n % 256) / 4 % 2 = omega arith in f)

bit_3 : (z : ℤ) → bit 3 z ≡ pos (bit_at (low_byte z) 3)
bit_3 (pos n) = ap pos (let f : n / 8 % 2 ≡ (n % 256) / 8 % 2 = omega arith in f)
bit_3 (negsuc n) = ap pos (let f : 2 - 1 - n / 8 % 2 ≡ (256 - 1 - n % 256) / 8 % 2 = omega arith in f)

bit_4 : (z : ℤ) → bit 4 z ≡ pos (bit_at (low_byte z) 4)
bit_4 (pos n) = ap pos (let f : n / 16 % 2 ≡ (n % 256) / 16 % 2 = omega arith in f)
bit_4 (negsuc n) = ap pos (let f : 2 - 1 - n / 16 % 2 ≡ (256 - 1 - n % 256) / 16 % 2 = omega arith in f)

bit_5 : (z : ℤ) → bit 5 z ≡ pos (bit_at (low_byte z) 5)
bit_5 (pos n) = ap pos (let f : n / 32 % 2 ≡ (n % 256) / 32 % 2 = omega arith in f)
bit_5 (negsuc n) = ap pos (let f : 2 - 1 - n / 32 % 2 ≡ (256 - 1 - n % 256) / 32 % 2 = omega arith in f)

bit_6 : (z : ℤ) → bit 6 z ≡ pos (bit_at (low_byte z) 6)
bit_6 (pos n) = ap pos (let f : n / 64 % 2 ≡ (n % 256) / 64 % 2 = omega arith in f)
bit_6 (negsuc n) = ap pos (let f : 2 - 1 - n / 64 % 2 ≡ (256 - 1 - n % 256) / 64 % 2 = omega arith in f)

bit_7 : (z : ℤ) → bit 7 z ≡ pos (bit_at (low_byte z) 7)
bit_7 (pos n) = ap pos (let f : n / 128 % 2 ≡ (n % 256) / 128 % 2 = omega arith in f)
bit_7 (negsuc n) = ap pos (let f : 2 - 1 - n / 128 % 2 ≡ (256 - 1 - n % 256) / 128 % 2 = omega arith in f)

up_to : (a b : ℕ) → nat_le a b ≡ true → a ≤ b
up_to a b h = grind (arith, nat_tests)

byte_bit : (k : ℕ) → nat_le k 7 ≡ true → (z : ℤ) → bit k z ≡ pos (bit_at (low_byte z) k)
byte_bit zero h z = bit_0 z
byte_bit (suc zero) h z = bit_1 z
byte_bit (suc (suc zero)) h z = bit_2 z
byte_bit (suc (suc (suc zero))) h z = bit_3 z
byte_bit (suc (suc (suc (suc zero)))) h z = bit_4 z
byte_bit (suc (suc (suc (suc (suc zero))))) h z = bit_5 z
byte_bit (suc (suc (suc (suc (suc (suc zero)))))) h z = bit_6 z
byte_bit (suc (suc (suc (suc (suc (suc (suc zero))))))) h z = bit_7 z
byte_bit (suc (suc (suc (suc (suc (suc (suc (suc k)))))))) h z = absurd (omega (arith, up_to _ 7 h))

-- ---- a test of all bytes
abbrev all_to : ℕ → (ℕ → Bool) → Bool
all_to zero p = true
all_to (suc n) p = p n && all_to n p

last_or_below : (p : ℕ → Bool) (n r : ℕ) → r < suc n → p n ≡ true → (r < n → p r ≡ true) → (b : Bool) → nat_eq r n ≡ b → p r ≡ true
last_or_below p n r h last below true e = subst (λ k. p k ≡ true) (sym (eqb-true r n e)) last
last_or_below p n r h last below false e = below (apart r n h e)
  where
    apart : (r n : ℕ) → r < suc n → nat_eq r n ≡ false → r < n
    apart r n h e = grind (arith, nat_tests)

all_at : (n : ℕ) (p : ℕ → Bool) → all_to n p ≡ true → (r : ℕ) → r < n → p r ≡ true
all_at zero p h r k = absurd (omega arith)
all_at (suc n) p h r k = last_or_below p n r k (and_left (p n) (all_to n p) h) (λ l. all_at n p (and_right (p n) (all_to n p) h) r l) (nat_eq r n) refl

abbrev bits_of : ℕ → ℕ
bits_of r = 128 * bit_at r 7 + 64 * bit_at r 6 + 32 * bit_at r 5 + 16 * bit_at r 4 + 8 * bit_at r 3 + 4 * bit_at r 2 + 2 * bit_at r 1 + bit_at r 0

abbrev parity_of : ℕ → ℕ
parity_of r = (if count_ones r % 2 == 0 then 1 else 0) + bit_at r 0 + bit_at r 1 + bit_at r 2 + bit_at r 3 + bit_at r 4 + bit_at r 5 + bit_at r 6 + bit_at r 7

bits_checked : all_to 256 (λ r. r == bits_of r) ≡ true
bits_checked = refl

parity_checked : all_to 256 (λ r. parity_of r % 2 == 1) ≡ true
unfolding lib.Count.ones
parity_checked = refl

bits_sum : (r : ℕ) → r < 256 → r ≡ bits_of r
bits_sum r h = eqb-true r (bits_of r) (all_at 256 (λ r. r == bits_of r) bits_checked r h)

parity_odd : (r : ℕ) → r < 256 → parity_of r % 2 ≡ 1
parity_odd r h = eqb-true (parity_of r % 2) 1 (all_at 256 (λ r. parity_of r % 2 == 1) parity_checked r h)

-- ---- bits
plus : {x y : ℤ} {m n : ℕ} → x ≡ pos m → y ≡ pos n → x +ℤ y ≡ pos (m + n)
plus h k = ap₂ (λ (a b : ℤ). a +ℤ b) h k

weighed : (weight k : ℕ) (z : ℤ) {n : ℕ} → bit k z ≡ pos n → pos weight *ℤ bit k z ≡ pos (weight * n)
weighed weight k z {n} h = ap (λ b. pos weight *ℤ b) h ∙ pos-*ℤ-pos weight n

parity_by : (b : Bool) → (if b then pos 1 else pos 0) ≡ pos (if b then 1 else 0)
parity_by true = refl
parity_by false = refl

parity_is : (z : ℤ) → parity z ≡ pos (if count_ones (low_byte z) % 2 == 0 then 1 else 0)
parity_is z = parity_by (count_ones (low_byte z) % 2 == 0)

sum_is : (z : ℤ) → ((((((((pos 128 *ℤ bit 7 z) +ℤ (pos 64 *ℤ bit 6 z)) +ℤ (pos 32 *ℤ bit 5 z)) +ℤ (pos 16 *ℤ bit 4 z)) +ℤ (pos 8 *ℤ bit 3 z)) +ℤ (pos 4 *ℤ bit 2 z)) +ℤ (pos 2 *ℤ bit 1 z)) +ℤ bit 0 z) ≡ pos (bits_of (low_byte z))
sum_is z = plus (plus (plus (plus (plus (plus (plus (weighed 128 7 z (bit_7 z)) (weighed 64 6 z (bit_6 z))) (weighed 32 5 z (bit_5 z))) (weighed 16 4 z (bit_4 z))) (weighed 8 3 z (bit_3 z))) (weighed 4 2 z (bit_2 z))) (weighed 2 1 z (bit_1 z))) (bit_0 z)

odd_is : (z : ℤ) → (((((((((parity z +ℤ bit 0 z) +ℤ bit 1 z) +ℤ bit 2 z) +ℤ bit 3 z) +ℤ bit 4 z) +ℤ bit 5 z) +ℤ bit 6 z) +ℤ bit 7 z)) ≡ pos (parity_of (low_byte z))
odd_is z = plus (plus (plus (plus (plus (plus (plus (plus (parity_is z) (bit_0 z)) (bit_1 z)) (bit_2 z)) (bit_3 z)) (bit_4 z)) (bit_5 z)) (bit_6 z)) (bit_7 z)

bits_by : (e : Env) (t goal : Tree) (made : List New) → in_bits t goal ≡ Some made → AllByRecursion (Gives e) made → IsTrueIn e goal
bits_by e t goal made h all =
    let z = int_of e t in
    let r = low_byte z in
    let below : r < 256 = low_byte_below z in
    adding e _ goal made h (
      true_equal _ _ (low_byte_is z ∙ ap pos (bits_sum r below) ∙ sym (sum_is z)),
      (true_equal _ _ (ap (λ s. remainder s (pos 2)) (odd_is z) ∙ ap pos (parity_odd r below)), tt),
    ) all

pub bits_keeps : (t : Tree) → KeepsTruth (Bits t)
bits_keeps t = locally (Bits t) (λ image stack cs g made e proper right admissible row is all. bits_by e t g.goal made row all)

-- ---- bitof
quotient_pos : (n d : ℕ) → quotient (pos n) (pos d) ≡ pos (n / d)
quotient_pos n zero = ap pos (let f : 0 ≡ n / 0 = omega arith in f)
quotient_pos n (suc d) = refl

number_bit : (k m : ℕ) → bit k (pos m) ≡ pos (bit_at m k)
number_bit k m = ap (λ z. pos (low_bit z)) (quotient_pos m (2 ^ k))

min_times : (a b : ℕ) → a < 2 → b < 2 → pos (min a b) ≡ pos a *ℤ pos b
min_times zero zero h k = refl
min_times zero (suc zero) h k = refl
min_times (suc zero) zero h k = refl
min_times (suc zero) (suc zero) h k = refl
min_times a (suc (suc b)) h k = absurd (omega arith)
min_times (suc (suc a)) b h k = absurd (omega arith)

max_sum : (a b : ℕ) → a < 2 → b < 2 → pos (max a b) ≡ (pos a +ℤ pos b) -ℤ (pos a *ℤ pos b)
max_sum zero zero h k = refl
max_sum zero (suc zero) h k = refl
max_sum (suc zero) zero h k = refl
max_sum (suc zero) (suc zero) h k = refl
max_sum a (suc (suc b)) h k = absurd (omega arith)
max_sum (suc (suc a)) b h k = absurd (omega arith)

xor_sum : (a b : ℕ) → a < 2 → b < 2 → pos ((a + b) % 2) ≡ (pos a +ℤ pos b) -ℤ (pos 2 *ℤ (pos a *ℤ pos b))
xor_sum zero zero h k = refl
xor_sum zero (suc zero) h k = refl
xor_sum (suc zero) zero h k = refl
xor_sum (suc zero) (suc zero) h k = refl
xor_sum a (suc (suc b)) h k = absurd (omega arith)
xor_sum (suc (suc a)) b h k = absurd (omega arith)

abbrev byte_at : ℕ → ℤ → ℕ
byte_at k z = bit_at (low_byte z) k

and_bit : (k : ℕ) → nat_le k 7 ≡ true → (x y : ℤ) → bit k (byte_and x y) ≡ bit k x *ℤ bit k y
and_bit k h x y =
    number_bit k (bit_and (low_byte x) (low_byte y)) ∙ ap pos (bit_at_and (low_byte x) (low_byte y) k)
    ∙ min_times (byte_at k x) (byte_at k y) (bit_at-lt (low_byte x) k) (bit_at-lt (low_byte y) k)
    ∙ sym (ap₂ (λ (a b : ℤ). a *ℤ b) (byte_bit k h x) (byte_bit k h y))

or_bit : (k : ℕ) → nat_le k 7 ≡ true → (x y : ℤ) → bit k (byte_or x y) ≡ (bit k x +ℤ bit k y) -ℤ (bit k x *ℤ bit k y)
or_bit k h x y =
    number_bit k (bit_or (low_byte x) (low_byte y)) ∙ ap pos (bit_at_or (low_byte x) (low_byte y) k)
    ∙ max_sum (byte_at k x) (byte_at k y) (bit_at-lt (low_byte x) k) (bit_at-lt (low_byte y) k)
    ∙ sym (ap₂ (λ (a b : ℤ). (a +ℤ b) -ℤ (a *ℤ b)) (byte_bit k h x) (byte_bit k h y))

xor_bit : (k : ℕ) → nat_le k 7 ≡ true → (x y : ℤ) → bit k (byte_xor x y) ≡ (bit k x +ℤ bit k y) -ℤ (pos 2 *ℤ (bit k x *ℤ bit k y))
xor_bit k h x y =
    number_bit k (bit_xor (low_byte x) (low_byte y)) ∙ ap pos (bit_at_xor (low_byte x) (low_byte y) k)
    ∙ xor_sum (byte_at k x) (byte_at k y) (bit_at-lt (low_byte x) k) (bit_at-lt (low_byte y) k)
    ∙ sym (ap₂ (λ (a b : ℤ). (a +ℤ b) -ℤ (pos 2 *ℤ (a *ℤ b))) (byte_bit k h x) (byte_bit k h y))

bit_by : (e : Env) (k : ℕ) (t goal : Tree) (made : List New) → nat_le k 7 ≡ true → bit_is k t (bit_of_parts k t) goal ≡ Some made → AllByRecursion (Gives e) made → IsTrueIn e goal
bit_by e k (ByteAnd x y) goal made small h all = adding e _ goal made h (true_equal _ _ (and_bit k small (int_of e x) (int_of e y)), tt) all
bit_by e k (ByteOr x y) goal made small h all = adding e _ goal made h (true_equal _ _ (or_bit k small (int_of e x) (int_of e y)), tt) all
bit_by e k (ByteXor x y) goal made small h all = adding e _ goal made h (true_equal _ _ (xor_bit k small (int_of e x) (int_of e y)), tt) all
bit_by e k t goal made small h all = none_some made h

bitof_by : (e : Env) (k : ℤ) (t goal : Tree) (made : List New) → bit_of k t goal ≡ Some made → AllByRecursion (Gives e) made → IsTrueIn e goal
bitof_by e (pos k) t goal made h all = let c = if_some (nat_le k 7) _ made h in bit_by e k t goal made c.0 c.1 all
bitof_by e (negsuc k) t goal made h all = none_some made h

pub bitof_keeps : (k : ℤ) (t : Tree) → KeepsTruth (BitOf k t)
bitof_keeps k t = locally (BitOf k t) (λ image stack cs g made e proper right admissible row is all. bitof_by e k t g.goal made row all)
