-- Values of terms that are natural numbers, a line for each kind of term.
use Rattle.std.proofs.Common.{◌≡◌, ℕ, zero, suc, max, ◌+◌, ◌*◌, ◌-◌, ◌/◌, ◌%◌, ◌^◌, ◌<◌, ◌≤◌, Bool, true, false, cond, not, refl, sym, ap, ◌∙◌, arith, pos, ℤ}
use Rattle.std.specs.Prelude.{◌-ℤ◌, ◌+ℤ◌, ◌*ℤ◌, count_ones, bit_and, bit_or, bit_xor, int_lt, nat_lt, nat_le, ◌==◌, ◌||◌}
use Rattle.std.specs.Ordering.{int_eq}
use Rattle.std.specs.Int.{int_rem_euclid}
use Rattle.std.proofs.lemmas.Int.{int_rem_euclid_is, ints}
use Rattle.std.proofs.lemmas.Bool.Decides.{nat_tests}
use Rattle.std.proofs.lemmas.Nat.Bits.{bit_at_or}
use Rattle.sp_base.specs.Integers.{quotient, remainder, low_byte, parity}
use Rattle.sp_isa.specs.Arithmetic.{one_if, bit_three}
use Rattle.sp_term.specs.Tree.{Tree, Add, Subtract, Multiply, Divide, Remainder, ByteAnd, ByteOr, ByteXor, Parity, Bit, Psw, If, Equal, Less, Or}
use Rattle.sp_term.specs.Value.{Env, int_of, value, bit, low_bit, psw}
use Rattle.sp_trans.specs.Symbolic.{number}
use Rattle.sp_trans.specs.Meaning.{Gives}

-- a formula's value
pub record Says (e : Env) (p : Tree) (b : Bool) : Type 0 where
  pub is : (value e p).truth ≡ b

-- a term's value is the first natural number minus the second
pub record Lacks (e : Env) (t : Tree) (m n : ℕ) : Type 0 where
  pub is : int_of e t ≡ pos m -ℤ pos n

both : {X Y Z : Type 0} → (f : X → Y → Z) → {x x' : X} → {y y' : Y} → x ≡ x' → y ≡ y' → f x y ≡ f x' y'
both f {x = x} {y' = y'} p q = ap (f x) q ∙ ap (λ x. f x y') p

pub named : {e : Env} {t : Tree} {m n : ℕ} → m ≡ n → Gives e t m → Gives e t n
named is h = record { is = h.is ∙ ap pos is }

pub same_gives : {e : Env} {t t' : Tree} {m n : ℕ} → t' ≡ t → m ≡ n → Gives e t m → Gives e t' n
same_gives {e = e} same is h = record { is = ap (int_of e) same ∙ h.is ∙ ap pos is }

pub literal : {e : Env} (n : ℕ) → Gives e (number n) n
literal n = record { is = refl }

pub plus : {e : Env} {x y : Tree} {m n : ℕ} → Gives e x m → Gives e y n → Gives e (Add x y) (m + n)
plus h k = record { is = both (λ a b. a +ℤ b) h.is k.is }

pub times : {e : Env} {x : Tree} {m : ℕ} (c : ℕ) → Gives e x m → Gives e (Multiply (number c) x) (c * m)
times c h = record { is = ap (λ a. pos c *ℤ a) h.is }

by_zero : (m : ℕ) → m / 0 ≡ 0
by_zero m = omega arith

quotient_pos : (m d : ℕ) → quotient (pos m) (pos d) ≡ pos (m / d)
quotient_pos m zero = ap pos (sym (by_zero m))
quotient_pos m (suc d) = refl

pub over : {e : Env} {x : Tree} {m : ℕ} (d : ℕ) → Gives e x m → Gives e (Divide x (number d)) (m / d)
over {m = m} d h = record { is = ap (λ a. quotient a (pos d)) h.is ∙ quotient_pos m d }

by_some : (d : ℕ) → (d == 0) ≡ false → (z : ℤ) → remainder z (pos d) ≡ int_rem_euclid z (pos d)
by_some zero some z = absurd (cc)
by_some (suc d) some z = refl

pub rest : {e : Env} {x : Tree} {m : ℕ} (d : ℕ) → (d == 0) ≡ false → Gives e x m → Gives e (Remainder x (number d)) (m % d)
rest {m = m} d some h = record { is = ap (λ a. remainder a (pos d)) h.is ∙ by_some d some (pos m) }

if_pos : (b : Bool) (m n : ℕ) → cond b (pos m) (pos n) ≡ pos (cond b m n)
if_pos true m n = refl
if_pos false m n = refl

pub choice : {e : Env} {p : Tree} {b : Bool} (m n : ℕ) → Says e p b → Gives e (If p (number m) (number n)) (cond b m n)
choice {b = b} m n h = record { is = ap (λ t. cond t (pos m) (pos n)) h.is ∙ if_pos b m n }

eq_pos : (a b : ℕ) → int_eq (pos a) (pos b) ≡ (a == b)
eq_pos a b = grind (arith, nat_tests)

pub equal : {e : Env} {x y : Tree} {m n : ℕ} → Gives e x m → Gives e y n → Says e (Equal x y) (m == n)
equal {m = m} {n = n} h k = record { is = both int_eq h.is k.is ∙ eq_pos m n }

lt_pos : (a b : ℕ) → int_lt (pos a) (pos b) ≡ nat_lt a b
lt_pos a b = grind (arith, ints, nat_tests)

pub less : {e : Env} {x y : Tree} {m n : ℕ} → Gives e x m → Gives e y n → Says e (Less x y) (nat_lt m n)
less {m = m} {n = n} h k = record { is = both int_lt h.is k.is ∙ lt_pos m n }

pub either : {e : Env} {p q : Tree} {a b : Bool} → Says e p a → Says e q b → Says e (Or p q) (a || b)
either h k = record { is = both (λ a b. a || b) h.is k.is }

low : (n : ℕ) → n < 256 → n % 256 ≡ n
low n h = omega arith

pub ones_even : {e : Env} {x : Tree} {n : ℕ} → n < 256 → Gives e x n → Gives e (Parity x) (one_if (count_ones n % 2 == 0))
ones_even {n = n} small h = record { is = ap parity h.is ∙ ap (λ n. cond (count_ones n % 2 == 0) (pos 1) (pos 0)) (low n small) ∙ if_pos (count_ones n % 2 == 0) 1 0 }

pub bits_and : {e : Env} {x y : Tree} {m n : ℕ} → m < 256 → n < 256 → Gives e x m → Gives e y n → Gives e (ByteAnd x y) (bit_and m n)
bits_and {m = m} {n = n} a b h k = record { is = both (λ a b. pos (bit_and (low_byte a) (low_byte b))) h.is k.is ∙ both (λ a b. pos (bit_and a b)) (low m a) (low n b) }

pub bits_or : {e : Env} {x y : Tree} {m n : ℕ} → m < 256 → n < 256 → Gives e x m → Gives e y n → Gives e (ByteOr x y) (bit_or m n)
bits_or {m = m} {n = n} a b h k = record { is = both (λ a b. pos (bit_or (low_byte a) (low_byte b))) h.is k.is ∙ both (λ a b. pos (bit_or a b)) (low m a) (low n b) }

pub bits_xor : {e : Env} {x y : Tree} {m n : ℕ} → m < 256 → n < 256 → Gives e x m → Gives e y n → Gives e (ByteXor x y) (bit_xor m n)
bits_xor {m = m} {n = n} a b h k = record { is = both (λ a b. pos (bit_xor (low_byte a) (low_byte b))) h.is k.is ∙ both (λ a b. pos (bit_xor a b)) (low m a) (low n b) }

pub bit_of : {e : Env} {x : Tree} {n : ℕ} (k : ℕ) → Gives e x n → Gives e (Bit k x) (n / 2 ^ k % 2)
bit_of {n = n} k h = record { is = ap (bit k) h.is ∙ ap (λ z. pos (low_bit z)) (quotient_pos n (2 ^ k)) }

-- ---- differences
pub minus : {e : Env} {x y : Tree} {m n : ℕ} → Gives e x m → Gives e y n → Lacks e (Subtract x y) m n
minus h k = record { is = both (λ a b. a -ℤ b) h.is k.is }

minus_twice : (a b c : ℕ) → pos a -ℤ pos b -ℤ pos c ≡ pos a -ℤ pos (b + c)
minus_twice a b c = omega (arith, ints)

pub and_minus : {e : Env} {x y : Tree} {m n c : ℕ} → Lacks e x m n → Gives e y c → Lacks e (Subtract x y) m (n + c)
and_minus {m = m} {n = n} {c = c} h k = record { is = both (λ a b. a -ℤ b) h.is k.is ∙ minus_twice m n c }

above : (m n : ℕ) → n ≤ m → pos m -ℤ pos n ≡ pos (m - n)
above m n h = omega (arith, ints)

pub left : {e : Env} {x : Tree} {m n : ℕ} → n ≤ m → Lacks e x m n → Gives e x (m - n)
left {m = m} {n = n} fits h = record { is = h.is ∙ above m n fits }

with_more : (m n d : ℕ) → n ≤ m + d → (pos m -ℤ pos n) +ℤ pos d ≡ pos (m + d - n)
with_more m n d h = omega (arith, ints)

pub and_plus : {e : Env} {x : Tree} {m n : ℕ} (d : ℕ) → n ≤ m + d → Lacks e x m n → Gives e (Add x (number d)) (m + d - n)
and_plus {m = m} {n = n} d fits h = record { is = ap (λ a. a +ℤ pos d) h.is ∙ with_more m n d fits }

one_more : (m n d : ℕ) → n ≤ m + d → (pos m -ℤ pos n) +ℤ pos (1 * d) ≡ pos (m + d - n)
one_more m n d h = omega (arith, ints)

above_zero : (d : ℕ) → (d == 0) ≡ false → 0 < d
above_zero d h = grind (arith, nat_tests)

pub round : {e : Env} {x : Tree} {m n : ℕ} (d : ℕ) → (d == 0) ≡ false → n ≤ m + d → Lacks e x m n → Gives e (Remainder x (number d)) ((m + d - n) % d)
round {m = m} {n = n} d some fits h = record {
  is = ap (λ a. remainder a (pos d)) h.is ∙ by_some d some (pos m -ℤ pos n) ∙ int_rem_euclid_is (pos m -ℤ pos n) (pos d) d 1 (m + d - n) (above_zero d some) refl (one_more m n d fits);
}

borrow : (m n : ℕ) → int_lt (pos m -ℤ pos n) (pos 0) ≡ nat_lt m n
borrow m n = grind (arith, ints, nat_tests)

pub negative : {e : Env} {x : Tree} {m n : ℕ} → Lacks e x m n → Says e (Less x (number 0)) (nat_lt m n)
negative {m = m} {n = n} h = record { is = ap (λ a. int_lt a (pos 0)) h.is ∙ borrow m n }

-- ---- the flags' byte
flag : (n : ℕ) → n < 2 → n % 2 ≡ n
flag n h = omega arith

pub flags_byte : {e : Env} {x1 x2 x3 x4 x5 : Tree} {s z ac p cy : ℕ} → s < 2 → z < 2 → ac < 2 → p < 2 → cy < 2 → Gives e x1 s → Gives e x2 z → Gives e x3 ac → Gives e x4 p → Gives e x5 cy → Gives e (Psw x1 x2 x3 x4 x5) (128 * s + 64 * z + 16 * ac + 4 * p + 2 + cy)
flags_byte {e = e} {x1 = x1} {x2 = x2} {x3 = x3} {x4 = x4} {x5 = x5} {s = s} {z = z} {ac = ac} {p = p} {cy = cy} hs hz hac hp hcy h1 h2 h3 h4 h5 = record {
  is =
      ap (λ v. psw v (int_of e x2) (int_of e x3) (int_of e x4) (int_of e x5)) h1.is
      ∙ ap (λ v. psw (pos s) v (int_of e x3) (int_of e x4) (int_of e x5)) h2.is
      ∙ ap (λ v. psw (pos s) (pos z) v (int_of e x4) (int_of e x5)) h3.is
      ∙ ap (λ v. psw (pos s) (pos z) (pos ac) v (int_of e x5)) h4.is
      ∙ ap (λ v. psw (pos s) (pos z) (pos ac) (pos p) v) h5.is
      ∙ ap pos (omega (arith, flag s hs, flag z hz, flag ac hac, flag p hp, flag cy hcy));
}

-- ---- the arithmetic of bytes
pub top_bit : (r : ℕ) → r < 256 → r / 128 ≡ one_if (nat_le 128 r)
top_bit r h = grind (arith, nat_tests)

pub carry_out : (s : ℕ) → s < 512 → s / 256 ≡ one_if (nat_le 256 s)
carry_out s h = grind (arith, nat_tests)

pub half_carry : (s : ℕ) → s < 32 → s / 16 ≡ one_if (nat_le 16 s)
half_carry s h = grind (arith, nat_tests)

pub word_carry : (s : ℕ) → s < 131072 → s / 65536 ≡ one_if (nat_le 65536 s)
word_carry s h = grind (arith, nat_tests)

pub half_borrow : (m n : ℕ) → m < 16 → n ≤ 16 → (m + 16 - n) / 16 ≡ one_if (nat_le n m)
half_borrow m n h k = grind (arith, nat_tests)

pub part_if : (c : ℕ) (b : Bool) → cond b c 0 ≡ c * one_if b
part_if c true = omega arith
part_if c false = omega arith

flip : (b : Bool) → cond b 0 1 ≡ one_if (not b)
flip true = refl
flip false = refl

pub high_of_word : (w : ℕ) → w % 65536 / 256 ≡ w / 256 % 256
high_of_word w = omega arith

pub low_of_word : (w : ℕ) → w % 65536 % 256 ≡ w % 256
low_of_word w = omega arith

either_bit : (m n : ℕ) → m < 2 → n < 2 → max m n ≡ one_if ((m == 1) || (n == 1))
either_bit m n h k = grind (arith, nat_tests)

pub bit_three_or : (m n : ℕ) → bit_or m n / 8 % 2 ≡ one_if (bit_three m || bit_three n)
bit_three_or m n = bit_at_or m n 3 ∙ either_bit (m / 8 % 2) (n / 8 % 2) (omega arith) (omega arith)
