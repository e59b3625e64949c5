-- The number of a quantity is at most its bound.
use Rattle.std.proofs.Common.{◌≡◌, ℕ, zero, suc, ◌+◌, ◌-◌, ◌*◌, ◌%◌, ◌<◌, ◌≤◌, ◌==◌, max, refl, sym, ◌∙◌, ap, arith, Bool, true, false, cond, List, [], ◌∷◌, length, get_or, ℤ, pos, negsuc, neg_ℤ}
use Rattle.std.specs.Prelude.{◌+ℤ◌, ◌-ℤ◌, ◌≤ℤ◌, All, unsigned_abs, bytes_eq, ◌&&◌, nat_le, count_ones}
use native.Mathlib.Decide.{dec_le}
use Rattle.std.proofs.lemmas.Int.{ints, unsigned_abs-mul}
use Rattle.std.proofs.lemmas.Nat.{and_le_l, or_of_8, xor_of_8}
use Rattle.std.proofs.lemmas.List.{get_or_past}
use Rattle.std.proofs.lemmas.List.Elements.{All-get_or}
use Rattle.std.proofs.Math.Nat.{div-le_self, mul-le-mul}
use Rattle.sp_base.specs.declared.location.Loc.TheVariants as loc
use Rattle.sp_base.specs.Integers.{quotient, remainder, low_byte, sum_from, sum_between}
use Rattle.sp_base.proofs.IntegerLemmas.{low_byte_below}
use Rattle.sp_isa.specs.Core.{Core, IsCore, at, word, limit}
use Rattle.sp_isa.proofs.CoreLemmas.{low_cell}
use Rattle.sp_model.specs.Note.{Frame, Bindings, bound_value, Moment, Now, AtEntry, core_at, RegisterPair, BC, DE, HL, register_pair, shown, stack_address, Operator, Add, Subtract, Multiply, Divide, Modulo, BitAnd, BitOr, BitXor, calculate, value, Quantity, Literal, Location, Pair, Cell, StackWord, Total, Negative, Parity, Operate, Bound}
use Rattle.sp_eval.specs.Wide.{NameBounds, bound_of_name, operator_bound, quantity_bound}
use Rattle.sp_eval.specs.code.Small.{IsClamped}
use Rattle.sp_eval.proofs.TotalLemmas.{total_is, total_none}

-- the number of each bound name is at most its bound
pub record IsWithin (bounds : NameBounds) (b : Bindings) : Type 0 where
  pub each : (name : List ℕ) → unsigned_abs (bound_value b name) ≤ bound_of_name bounds name

pub within_none : IsWithin [] []
within_none = record { each = λ name. omega arith }

pick_within : (t : Bool) (n rest : ℤ) (k r : ℕ) → unsigned_abs n ≤ k → unsigned_abs rest ≤ r → unsigned_abs (cond t n rest) ≤ cond t k r
pick_within true n rest k r h g = h
pick_within false n rest k r h g = g

pub within_next : (bounds : NameBounds) (b : Bindings) (name : List ℕ) (n : ℤ) (k : ℕ) → IsWithin bounds b → unsigned_abs n ≤ k → IsWithin ((name, k) ∷ bounds) ((name, n) ∷ b)
within_next bounds b name n k w h = record { each = λ q. pick_within (bytes_eq name q) n (bound_value b q) k (bound_of_name bounds q) h (w.each q) }

-- ---- numbers
abs_neg : (z : ℤ) → unsigned_abs (neg_ℤ z) ≡ unsigned_abs z
abs_neg (pos zero) = refl
abs_neg (pos (suc n)) = refl
abs_neg (negsuc n) = refl

abs_add : (x y : ℤ) → unsigned_abs (x +ℤ y) ≤ unsigned_abs x + unsigned_abs y
abs_add (pos a) (pos b) = omega arith
abs_add (pos a) (negsuc b) = grind (arith, ints)
abs_add (negsuc a) (pos b) = grind (arith, ints)
abs_add (negsuc a) (negsuc b) = omega arith

abs_subtract : (x y : ℤ) → unsigned_abs (x -ℤ y) ≤ unsigned_abs x + unsigned_abs y
abs_subtract x y = let h = abs_add x (neg_ℤ y) in let e = abs_neg y in omega (arith, h, e)

abs_quotient : (x y : ℤ) → unsigned_abs (quotient x y) ≤ unsigned_abs x
abs_quotient x (pos zero) = omega arith
abs_quotient (pos a) (pos (suc n)) = div-le_self a (suc n)
abs_quotient (negsuc a) (pos (suc n)) = let h = div-le_self a (suc n) in omega (arith, h)
abs_quotient (pos zero) (negsuc n) = let h = div-le_self 0 (suc n) in omega (arith, h)
abs_quotient (pos (suc a)) (negsuc n) = let h = div-le_self a (suc n) in omega (arith, h)
abs_quotient (negsuc a) (negsuc n) = div-le_self (suc a) (suc n)

abs_remainder : (x y : ℤ) → unsigned_abs (remainder x y) ≤ unsigned_abs y
abs_remainder x (pos zero) = omega arith
abs_remainder (pos a) (pos (suc n)) = let h : a % suc n < suc n = omega arith in omega (arith, h)
abs_remainder (negsuc a) (pos (suc n)) = omega arith
abs_remainder (pos zero) (negsuc n) = let e = abs_neg (pos (0 % suc n)) in let h : 0 % suc n < suc n = omega arith in omega (arith, e, h)
abs_remainder (pos (suc a)) (negsuc n) = let e = abs_neg (pos (suc n - 1 - a % suc n)) in omega (arith, e)
abs_remainder (negsuc a) (negsuc n) = let e = abs_neg (pos (suc a % suc n)) in let h : suc a % suc n < suc n = omega arith in omega (arith, e, h)

abs_calculate : (o : Operator) (x y : ℤ) (k l : ℕ) → unsigned_abs x ≤ k → unsigned_abs y ≤ l → unsigned_abs (calculate o x y) ≤ operator_bound o k l
abs_calculate Add x y k l h g = let e = abs_add x y in omega (arith, e)
abs_calculate Subtract x y k l h g = let e = abs_subtract x y in omega (arith, e)
abs_calculate Multiply x y k l h g = let e = unsigned_abs-mul x y in let m = mul-le-mul h g in omega (arith, e, m)
abs_calculate Divide x y k l h g = let e = abs_quotient x y in omega (arith, e)
abs_calculate Modulo x y k l h g = let e = abs_remainder x y in omega (arith, e)
abs_calculate BitAnd x y k l h g = let a = and_le_l (low_byte x) (low_byte y) in let b = low_byte_below x in omega (arith, a, b)
abs_calculate BitOr x y k l h g = let a = or_of_8 (low_byte x) (low_byte y) (low_byte_below x) (low_byte_below y) in omega (arith, a)
abs_calculate BitXor x y k l h g = let a = xor_of_8 (low_byte x) (low_byte y) (low_byte_below x) (low_byte_below y) in omega (arith, a)

pick_parity : (b : Bool) → unsigned_abs (cond b (pos 1) (pos 0)) ≤ 1
pick_parity true = omega arith
pick_parity false = omega arith

pub between_abs : (x n y : ℤ) (k l : ℕ) → unsigned_abs x ≤ k → unsigned_abs y ≤ l → x ≤ℤ n → n ≤ℤ y → unsigned_abs n ≤ max k l
between_abs x (pos n) (pos y) k l h g from to = omega (arith, ints)
between_abs x (pos n) (negsuc y) k l h g from to = absurd (omega (arith, ints))
between_abs (pos x) (negsuc n) y k l h g from to = absurd (omega (arith, ints))
between_abs (negsuc x) (negsuc n) y k l h g from to = omega (arith, ints)

-- ---- machines
core_is : (m : Moment) (entry now : Core) → IsCore entry → IsCore now → IsCore (core_at m entry now)
core_is Now entry now h k = k
core_is AtEntry entry now h k = h

low_location : (x : _) (core : Core) → IsCore core → at x core ≤ limit x - 1
low_location x core h = let g = h.locations x in omega (arith, g)

low_pair : (p : RegisterPair) (core : Core) → IsCore core → register_pair p core ≤ 65535
low_pair BC core h = let a : core.b < 256 = h.locations loc.B in let b : core.c < 256 = h.locations loc.C in omega (arith, a, b)
low_pair DE core h = let a : core.d < 256 = h.locations loc.D in let b : core.e < 256 = h.locations loc.E in omega (arith, a, b)
low_pair HL core h = let a : core.h < 256 = h.locations loc.H in let b : core.l < 256 = h.locations loc.L in omega (arith, a, b)

low_word : (a : ℕ) (core : Core) → IsCore core → word a core ≤ 65535
low_word a core h = let x = low_cell a core h in let y = low_cell (a + 1) core h in omega (arith, x, y)

-- ---- memory
-- a byte as a whole number
record IsByte (z : ℤ) : Type 0 where
  byte : ℕ
  is : z ≡ pos byte
  low : byte ≤ 255

read_byte : (cells : List ℕ) (a : ℕ) → All (λ byte. byte < 256) cells → get_or cells a 0 ≤ 255
read_byte cells a h = elim (dec_le (length cells) a) [
  | yes past ↦ let e = get_or_past cells a 0 past in omega (arith, e)
  | no within ↦ let g = All-get_or (λ byte. byte < 256) cells a 0 (omega arith) h in omega (arith, g)
]

pick_byte : (b : Bool) (v : ℕ) → v ≤ 255 → IsByte (cond b (pos 0) (pos v))
pick_byte true v h = record { byte = 0; is = refl; low = omega arith }
pick_byte false v h = record { byte = v; is = refl; low = h }

shown_byte : (f : Frame) (cells : List ℕ) (w : ℤ) → All (λ byte. byte < 256) cells → IsByte (shown f cells w)
shown_byte f cells (pos a) h = pick_byte (nat_le f.first a && nat_le a f.last) (get_or cells a 0) (read_byte cells a h)
shown_byte f cells (negsuc a) h = record { byte = 0; is = refl; low = omega arith }

-- a sum of so many bytes
record IsSum (z : ℤ) (n : ℕ) : Type 0 where
  sum : ℕ
  is : z ≡ pos sum
  low : sum ≤ 255 * n

sum_bytes : (f : Frame) (cells : List ℕ) (z : ℤ) (n : ℕ) → All (λ byte. byte < 256) cells → IsSum (sum_from (shown f cells) z n) n
unfolding sum_from
sum_bytes f cells z zero h = record { sum = 0; is = refl; low = omega arith }
sum_bytes f cells z (suc n) h =
    let first = shown_byte f cells z h in
    let rest = sum_bytes f cells (z +ℤ pos 1) n h in
    let a = first.low in
    let b = rest.low in
    record {
      sum = first.byte + rest.sum;
      is = ap (λ v. v +ℤ sum_from (shown f cells) (z +ℤ pos 1) n) first.is ∙ ap (λ v. pos first.byte +ℤ v) rest.is;
      low = omega (arith, a, b);
    }

clamp : ℤ → ℕ
clamp (pos n) = cond (nat_le n 65536) n 65536
clamp (negsuc n) = 0

clamp_low : (b : Bool) (n : ℕ) → nat_le n 65536 ≡ b → IsClamped (pos n) (cond b n 65536)
clamp_low true n h = record { within = grind (arith, h); low = λ _. omega (arith, ints); high = λ _. omega (arith, ints) }
clamp_low false n h = record { within = omega arith; low = λ no. absurd (no refl); high = λ _. let g : 65536 ≤ n = grind (arith, h) in omega (arith, ints, g) }

clamped : (z : ℤ) → (n : ℕ) × IsClamped z n
clamped (pos n) = (cond (nat_le n 65536) n 65536, clamp_low (nat_le n 65536) n refl)
clamped (negsuc n) = (0, record { within = omega arith; low = λ _. omega (arith, ints); high = λ no. absurd (no refl) })

low_total : (f : Frame) (core : Core) (low high : ℤ) → IsCore core → unsigned_abs (sum_between (shown f core.cells) low high) ≤ 16711680
low_total f core low high h =
    let a = clamped low in
    let b = clamped (high +ℤ pos 1) in
    elim (dec_le b.0 a.0) [
      | yes none ↦ let e = ap unsigned_abs (total_none f core.cells low high a.0 b.0 h.memory a.1 b.1 none) in omega (arith, e)
      | no some ↦
          let sum = sum_bytes f core.cells (pos a.0) (b.0 - a.0) h.bytes in
          let e = ap unsigned_abs (sym (total_is f core.cells low high a.0 b.0 h.memory a.1 b.1 (omega arith)) ∙ sum.is) in
          let l = sum.low in
          let k = b.1.within in
          omega (arith, e, l, k)
    ]

byte_low : (z : ℤ) → IsByte z → unsigned_abs z ≤ 255
byte_low z h = let e = ap unsigned_abs h.is in let l = h.low in omega (arith, e, l)

-- ---- quantities
pub value_is_bounded : (f : Frame) (bounds : NameBounds) (b : Bindings) (q : Quantity) (entry now : Core) → IsCore entry → IsCore now → IsWithin bounds b → unsigned_abs (value f b q entry now) ≤ quantity_bound bounds q
value_is_bounded f bounds b (Literal n) entry now h k w = omega arith
value_is_bounded f bounds b (Location m x) entry now h k w = low_location x (core_at m entry now) (core_is m entry now h k)
value_is_bounded f bounds b (Pair m p) entry now h k w = low_pair p (core_at m entry now) (core_is m entry now h k)
value_is_bounded f bounds b (Cell m x) entry now h k w = byte_low _ (shown_byte f (core_at m entry now).cells (value f b x entry now) (core_is m entry now h k).bytes)
value_is_bounded f bounds b (StackWord i) entry now h k w = low_word (stack_address f i) now k
value_is_bounded f bounds b (Total m x y) entry now h k w = low_total f (core_at m entry now) (value f b x entry now) (value f b y entry now) (core_is m entry now h k)
value_is_bounded f bounds b (Negative x) entry now h k w = let e = abs_neg (value f b x entry now) in let g = value_is_bounded f bounds b x entry now h k w in omega (arith, e, g)
value_is_bounded f bounds b (Parity x) entry now h k w = pick_parity (count_ones (low_byte (value f b x entry now)) % 2 == 0)
value_is_bounded f bounds b (Operate o x y) entry now h k w = abs_calculate o (value f b x entry now) (value f b y entry now) (quantity_bound bounds x) (quantity_bound bounds y) (value_is_bounded f bounds b x entry now h k w) (value_is_bounded f bounds b y entry now h k w)
value_is_bounded f bounds b (Bound name) entry now h k w = w.each name
