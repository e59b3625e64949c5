-- The value of a term lies in the interval of its form.
use Rattle.std.proofs.Common.{ℕ, zero, suc, ◌-◌, ◌*◌, ◌^◌, ◌%◌, ◌≤◌, ◌<◌, ◌≡◌, ◌⊎◌, inl, inr, refl, sym, ap, subst, arith, Bool, true, false, ◌&&◌, ◌==◌, ℤ, pos, negsuc, Option, Some, None}
use Rattle.std.specs.Prelude.{if◌then◌else◌, int_lt, ◌≤ℤ◌, ◌+ℤ◌, ◌-ℤ◌, ◌*ℤ◌, bit_and, bit_or, bit_xor, count_ones}
use Rattle.std.specs.Ordering.{int_eq}
use Rattle.std.specs.Int.{int_min, int_max}
use Rattle.std.specs.Int.Bits.{and_le_l, or_lt, xor_lt}
use Rattle.std.proofs.lemmas.Int.{ints, clamps, by_lt_z}
use Rattle.sp_base.specs.Integers.{quotient, remainder, low_byte, parity, sum_from, sum_between, count_between}
use Rattle.sp_base.proofs.IntegerLemmas.{low_byte_below}
use Rattle.sp_term.specs.declared.var.Var.{Var}
use Rattle.sp_term.specs.declared.var.Var.TheVariants as var
use Rattle.sp_term.specs.declared.interval.Interval.{Interval}
use Rattle.sp_term.specs.Tree.{Tree, Literal, Variable, Add, Subtract, Multiply, Divide, Remainder, ByteAnd, ByteOr, ByteXor, Parity, Bit, Psw, If, Element, Update, Total}
use Rattle.sp_term.specs.Sorts.{Sort, Int, Formula, Memory, sort_of, HasSort}
use Rattle.sp_term.specs.Value.{Env, Value, value, int_of, map_of, bit, psw, low_bit, updated}
use Rattle.sp_term.specs.Admissible.{Region, IsMemory, IsUpTo, greatest}
use Rattle.sp_term.specs.Intervals.{fits, literal, interval, if_within, from_to, of_variable, is_memory, is_memory_variable, up_to, of_sum, of_difference, of_multiple, of_quotient, of_remainder, hull, of_total}
use Rattle.sp_simp.specs.Ranges.{IsInRanges}
use Rattle.sp_simp.proofs.RootLemmas.{literal_of}
use Rattle.sp_simp.proofs.RemainderLemmas.{remainder_within, quotient_up, product_up, product_down}

pub record Within (i : Interval) (z : ℤ) : Type 0 where
  pub low : i.low ≤ℤ z
  pub high : z ≤ℤ i.high

-- what an interval says of a value of a sort: of a memory, it says it of each cell
abbrev pub Bounds : Sort → Interval → Value → Type 0
Bounds Int i v = Within i v.int
Bounds Formula i v = Unit {0}
Bounds Memory i v = (z : ℤ) → Within i (v.map z)

-- from the ends
ends : (i : Interval) (low high z : ℤ) → i.low ≡ low → i.high ≡ high → low ≤ℤ z → z ≤ℤ high → Within i z
ends i low high z a b l h = record { low = omega (arith, ints); high = omega (arith, ints) }

made : (low high z : ℤ) (i : Interval) → from_to low high ≡ Some i → low ≤ℤ z → z ≤ℤ high → Within i z
made low high z i e l h =
    let k : (let j : Interval = record { low = low; high = high } in j) ≡ i = cc in
    ends i low high z (sym (ap (λ (j : Interval). j.low) k)) (sym (ap (λ (j : Interval). j.high) k)) l h

fitting : (low high z : ℤ) (i : Interval) → if_within low high ≡ Some i → low ≤ℤ z → z ≤ℤ high → Within i z
fitting low high z i e l h = by (fits low && fits high) e
  where
    by : (b : Bool) → (if b then from_to low high else None) ≡ Some i → Within i z
    by true f = made low high z i f l h
    by false f = absurd (cc)

sum_bounds : (a b : Option Interval) (x y : ℤ) (i : Interval) → of_sum a b ≡ Some i → ((j : Interval) → a ≡ Some j → Within j x) → ((j : Interval) → b ≡ Some j → Within j y) → Within i (x +ℤ y)
sum_bounds (Some a) (Some b) x y i e f g = let p = f a refl in let q = g b refl in fitting (a.low +ℤ b.low) (a.high +ℤ b.high) (x +ℤ y) i e (omega (arith, ints, p.low, q.low)) (omega (arith, ints, p.high, q.high))
sum_bounds (Some a) None x y i e f g = absurd (cc)
sum_bounds None _ x y i e f g = absurd (cc)

difference_bounds : (a b : Option Interval) (x y : ℤ) (i : Interval) → of_difference a b ≡ Some i → ((j : Interval) → a ≡ Some j → Within j x) → ((j : Interval) → b ≡ Some j → Within j y) → Within i (x -ℤ y)
difference_bounds (Some a) (Some b) x y i e f g = let p = f a refl in let q = g b refl in fitting (a.low -ℤ b.high) (a.high -ℤ b.low) (x -ℤ y) i e (omega (arith, ints, p.low, q.high)) (omega (arith, ints, p.high, q.low))
difference_bounds (Some a) None x y i e f g = absurd (cc)
difference_bounds None _ x y i e f g = absurd (cc)

multiple_by : (c y : ℤ) (j i : Interval) → Within j y → (b : Bool) → int_lt c (pos 0) ≡ b → (if b then if_within (c *ℤ j.high) (c *ℤ j.low) else if_within (c *ℤ j.low) (c *ℤ j.high)) ≡ Some i → Within i (c *ℤ y)
multiple_by c y j i w true h e = fitting _ _ _ i e (product_down c y j.high (omega (arith, ints)) w.high) (product_down c j.low y (omega (arith, ints)) w.low)
multiple_by c y j i w false h e = fitting _ _ _ i e (product_up c j.low y (omega (arith, ints)) w.low) (product_up c y j.high (omega (arith, ints)) w.high)

multiple_bounds : (t : Tree) (a : Option ℤ) (b : Option Interval) (e : Env) (y : ℤ) (i : Interval) → literal t ≡ a → of_multiple a b ≡ Some i → ((j : Interval) → b ≡ Some j → Within j y) → Within i (int_of e t *ℤ y)
multiple_bounds t (Some c) (Some j) e y i h f g = subst (λ z. Within i (z *ℤ y)) (sym (ap (int_of e) (literal_of t c h))) (multiple_by c y j i (g j refl) (int_lt c (pos 0)) refl f)
multiple_bounds t (Some c) None e y i h f g = absurd (cc)
multiple_bounds t None _ e y i h f g = absurd (cc)

quotient_by : (x c : ℤ) (j i : Interval) → Within j x → (b : Bool) → int_lt (pos 0) c ≡ b → (if b then if_within (quotient j.low c) (quotient j.high c) else None) ≡ Some i → Within i (quotient x c)
quotient_by x c j i w true h e = fitting _ _ _ i e (quotient_up j.low x c h w.low) (quotient_up x j.high c h w.high)
quotient_by x c j i w false h e = absurd (cc)

quotient_bounds : (t : Tree) (a : Option Interval) (b : Option ℤ) (e : Env) (x : ℤ) (i : Interval) → literal t ≡ b → of_quotient a b ≡ Some i → ((j : Interval) → a ≡ Some j → Within j x) → Within i (quotient x (int_of e t))
quotient_bounds t (Some j) (Some c) e x i h f g = subst (λ z. Within i (quotient x z)) (sym (ap (int_of e) (literal_of t c h))) (quotient_by x c j i (g j refl) (int_lt (pos 0) c) refl f)
quotient_bounds t (Some j) None e x i h f g = absurd (cc)
quotient_bounds t None _ e x i h f g = absurd (cc)

remainder_by : (x c : ℤ) (i : Interval) (b : Bool) → int_lt (pos 0) c ≡ b → (if b then if_within (pos 0) (c -ℤ pos 1) else None) ≡ Some i → Within i (remainder x c)
remainder_by x c i true h e = let w = remainder_within x c h in fitting (pos 0) (c -ℤ pos 1) (remainder x c) i e (omega (arith, ints, w.0)) (omega (arith, ints, w.1))
remainder_by x c i false h e = absurd (cc)

remainder_bounds : (t : Tree) (b : Option ℤ) (e : Env) (x : ℤ) (i : Interval) → literal t ≡ b → of_remainder b ≡ Some i → Within i (remainder x (int_of e t))
remainder_bounds t (Some c) e x i h f = subst (λ z. Within i (remainder x z)) (sym (ap (int_of e) (literal_of t c h))) (remainder_by x c i (int_lt (pos 0) c) refl f)
remainder_bounds t None e x i h f = absurd (cc)

least : (a b z : ℤ) → (a ≤ℤ z) ⊎ (b ≤ℤ z) → int_min a b ≤ℤ z
least a b z (inl h) = omega (arith, ints, clamps)
least a b z (inr h) = omega (arith, ints, clamps)

most : (a b z : ℤ) → (z ≤ℤ a) ⊎ (z ≤ℤ b) → z ≤ℤ int_max a b
most a b z (inl h) = omega (arith, ints, clamps)
most a b z (inr h) = omega (arith, ints, clamps)

hull_bounds : (a b : Option Interval) (z : ℤ) (i : Interval) → hull a b ≡ Some i → (((j : Interval) → a ≡ Some j → Within j z) ⊎ ((j : Interval) → b ≡ Some j → Within j z)) → Within i z
hull_bounds (Some a) (Some b) z i e (inl f) = let p = f a refl in made _ _ z i e (least a.low b.low z (inl p.low)) (most a.high b.high z (inl p.high))
hull_bounds (Some a) (Some b) z i e (inr f) = let p = f b refl in made _ _ z i e (least a.low b.low z (inr p.low)) (most a.high b.high z (inr p.high))
hull_bounds (Some a) None z i e f = absurd (cc)
hull_bounds None _ z i e f = absurd (cc)

-- ---- bytes, bits and flags

byte : (n : ℕ) (i : Interval) → n < 256 → from_to (pos 0) (pos 255) ≡ Some i → Within i (pos n)
byte n i h e = made _ _ _ i e (omega (arith, ints)) (omega (arith, ints))

and_byte : (x y : ℤ) → bit_and (low_byte x) (low_byte y) < 256
and_byte x y = omega (arith, and_le_l (low_byte x) (low_byte y), low_byte_below x)

or_byte : (x y : ℤ) → bit_or (low_byte x) (low_byte y) < 256
or_byte x y = or_lt 8 (low_byte x) (low_byte y) (low_byte_below x) (low_byte_below y)

xor_byte : (x y : ℤ) → bit_xor (low_byte x) (low_byte y) < 256
xor_byte x y = xor_lt 8 (low_byte x) (low_byte y) (low_byte_below x) (low_byte_below y)

parity_bounds : (z : ℤ) (i : Interval) → from_to (pos 0) (pos 1) ≡ Some i → Within i (parity z)
parity_bounds z i e = by (count_ones (low_byte z) % 2 == 0)
  where
    by : (b : Bool) → Within i (if b then pos 1 else pos 0)
    by true = made _ _ _ i e (omega (arith, ints)) (omega (arith, ints))
    by false = made _ _ _ i e (omega (arith, ints)) (omega (arith, ints))

pub low_bit_below : (z : ℤ) → low_bit z < 2
low_bit_below (pos n) = omega arith
low_bit_below (negsuc n) = omega arith

bit_bounds : (k : ℕ) (z : ℤ) (i : Interval) → from_to (pos 0) (pos 1) ≡ Some i → Within i (bit k z)
bit_bounds k z i e = let h = low_bit_below (quotient z (pos (2 ^ k))) in made _ _ _ i e (omega (arith, ints)) (omega (arith, ints))

psw_bounds : (s z ac p cy : ℤ) (i : Interval) → from_to (pos 2) (pos 215) ≡ Some i → Within i (psw s z ac p cy)
psw_bounds s z ac p cy i e =
    let a = low_bit_below s in let b = low_bit_below z in let c = low_bit_below ac in let d = low_bit_below p in let f = low_bit_below cy in
    made _ _ _ i e (omega (arith, ints)) (omega (arith, ints))

-- ---- variables and memories

memory_cell : (stack : Region) (m : ℤ → ℤ) → IsMemory stack m → (z : ℤ) → (pos 0 ≤ℤ m z) × (m z ≤ℤ pos 255)
memory_cell stack m h (pos a) = by_lt_z (pos a) (pos 65536)
    (λ l. let b = h.byte a (omega (arith, ints)) in (omega (arith, ints, b.1, b.2), omega (arith, ints, b.1, b.2)))
    (λ g. let b = h.above a (omega (arith, ints)) in (omega (arith, ints), omega (arith, ints)))
memory_cell stack m h (negsuc a) = let b = h.below a in (omega (arith, ints), omega (arith, ints))

-- how many addresses there are from a number on
abbrev addresses : ℤ → ℕ
addresses (pos a) = 65536 - a
addresses (negsuc a) = 65536

few_addresses : (z : ℤ) → addresses z ≤ 65536
few_addresses (pos a) = omega arith
few_addresses (negsuc a) = omega arith

sum_low : (stack : Region) (m : ℤ → ℤ) → IsMemory stack m → (z : ℤ) (n : ℕ) → pos 0 ≤ℤ sum_from m z n
unfolding sum_from
sum_low stack m h z zero = omega (arith, ints)
sum_low stack m h z (suc n) = omega (arith, ints, (memory_cell stack m h z).0, sum_low stack m h (z +ℤ pos 1) n)

next_room : (stack : Region) (m : ℤ → ℤ) → IsMemory stack m → (z s : ℤ) → s ≤ℤ pos (255 * addresses (z +ℤ pos 1)) → (m z +ℤ s) ≤ℤ pos (255 * addresses z)
next_room stack m h (pos a) s l = by_lt_z (pos a) (pos 65536)
    (λ k. let b = memory_cell stack m h (pos a) in omega (arith, ints, b.1, l))
    (λ k. let b = h.above a (omega (arith, ints)) in omega (arith, ints, b, l))
next_room stack m h (negsuc zero) s l = let b = h.below zero in omega (arith, ints, b, l, few_addresses (negsuc zero +ℤ pos 1))
next_room stack m h (negsuc (suc a)) s l = let b = h.below (suc a) in omega (arith, ints, b, l, few_addresses (negsuc (suc a) +ℤ pos 1))

sum_high : (stack : Region) (m : ℤ → ℤ) → IsMemory stack m → (z : ℤ) (n : ℕ) → sum_from m z n ≤ℤ pos (255 * addresses z)
unfolding sum_from
sum_high stack m h z zero = omega (arith, ints)
sum_high stack m h z (suc n) = next_room stack m h z (sum_from m (z +ℤ pos 1) n) (sum_high stack m h (z +ℤ pos 1) n)

total_bounds : (stack : Region) (m : ℤ → ℤ) → IsMemory stack m → (x y : ℤ) (i : Interval) → from_to (pos 0) (pos 16_711_680) ≡ Some i → Within i (sum_between m x y)
total_bounds stack m h x y i e = made _ _ _ i e (sum_low stack m h x (count_between x y)) (omega (arith, ints, sum_high stack m h x (count_between x y), few_addresses x))

memory_sort : (v : Var) → is_memory v ≡ true → sort_of v ≡ Memory
memory_sort var.MemEntry h = refl
memory_sort var.Mem h = refl
memory_sort (var.MemAfter j) h = refl
memory_sort _ h = absurd (cc)

total_by : (stack : Region) (e : Env) → IsInRanges stack e → (t : Tree) (b : Bool) → is_memory_variable t ≡ b → (x y : ℤ) (i : Interval) → of_total b ≡ Some i → Within i (sum_between (map_of e t) x y)
total_by stack e r (Variable var.MemEntry) true h x y i f = total_bounds stack _ (r.memory var.MemEntry refl) x y i f
total_by stack e r (Variable var.Mem) true h x y i f = total_bounds stack _ (r.memory var.Mem refl) x y i f
total_by stack e r (Variable (var.MemAfter j)) true h x y i f = total_bounds stack _ (r.memory (var.MemAfter j) refl) x y i f
total_by stack e r _ true h x y i f = absurd (cc)
total_by stack e r t false h x y i f = absurd (cc)

up_to_bounds : (o : Option ℕ) (z : ℤ) (i : Interval) → ((n : ℕ) → o ≡ Some n → IsUpTo n z) → up_to o ≡ Some i → Within i z
up_to_bounds (Some n) z i h e = let b = h n refl in made _ _ z i e (omega (arith, ints, b.1, b.2)) (omega (arith, ints, b.1, b.2))
up_to_bounds None z i h e = absurd (cc)

variable_bounds : (stack : Region) (e : Env) → IsInRanges stack e → (v : Var) (i : Interval) → of_variable v ≡ Some i → Bounds (sort_of v) i (value e (Variable v))
variable_bounds stack e r (var.Entry x) i f = up_to_bounds (greatest (var.Entry x)) _ i (r.range (var.Entry x)) f
variable_bounds stack e r (var.Now x) i f = up_to_bounds (greatest (var.Now x)) _ i (r.range (var.Now x)) f
variable_bounds stack e r (var.After x j) i f = up_to_bounds (greatest (var.After x j)) _ i (r.range (var.After x j)) f
variable_bounds stack e r var.MemEntry i f = λ z. let b = memory_cell stack _ (r.memory var.MemEntry refl) z in made _ _ _ i f b.0 b.1
variable_bounds stack e r var.Mem i f = λ z. let b = memory_cell stack _ (r.memory var.Mem refl) z in made _ _ _ i f b.0 b.1
variable_bounds stack e r (var.MemAfter j) i f = λ z. let b = memory_cell stack _ (r.memory (var.MemAfter j) refl) z in made _ _ _ i f b.0 b.1
variable_bounds stack e r (var.In j) i f = up_to_bounds (greatest (var.In j)) _ i (r.range (var.In j)) f
variable_bounds stack e r (var.SlotHigh j) i f = up_to_bounds (greatest (var.SlotHigh j)) _ i (r.range (var.SlotHigh j)) f
variable_bounds stack e r (var.SlotLow j) i f = up_to_bounds (greatest (var.SlotLow j)) _ i (r.range (var.SlotLow j)) f
variable_bounds stack e r (var.Any j) i f = absurd (cc)
variable_bounds stack e r (var.Bound j) i f = absurd (cc)

updated_bounds : (m : ℤ → ℤ) (x y z : ℤ) (a b : Option Interval) (i : Interval) → hull a b ≡ Some i → ((j : Interval) → a ≡ Some j → (w : ℤ) → Within j (m w)) → ((j : Interval) → b ≡ Some j → Within j y) → Within i (updated m x y z)
updated_bounds m x y z a b i e f g = by (int_eq z x)
  where
    by : (t : Bool) → Within i (if t then y else m z)
    by true = hull_bounds a b y i e (inr g)
    by false = hull_bounds a b (m z) i e (inl (λ j k. f j k z))

chosen_bounds : (t : Bool) (x y : ℤ) (a b : Option Interval) (i : Interval) → hull a b ≡ Some i → ((j : Interval) → a ≡ Some j → Within j x) → ((j : Interval) → b ≡ Some j → Within j y) → Within i (if t then x else y)
chosen_bounds true x y a b i e f g = hull_bounds a b x i e (inl f)
chosen_bounds false x y a b i e f g = hull_bounds a b y i e (inr g)

-- of a sort that is known to be another one
at : (i : Interval) (v : Value) {s r : Sort} → s ≡ r → Bounds r i v → Bounds s i v
at i v {s} {r} h b = subst (λ w. Bounds w i v) (sym h) b

pub bounds : (stack : Region) (e : Env) → IsInRanges stack e → (t : Tree) (s : Sort) → HasSort t s → (i : Interval) → interval t ≡ Some i → Bounds s i (value e t)
bounds stack e r (Literal n) s h i f = at i (value e (Literal n)) h (fitting n n n i f (omega (arith, ints)) (omega (arith, ints)))
bounds stack e r (Variable v) s h i f = at i (value e (Variable v)) h.0 (variable_bounds stack e r v i f)
bounds stack e r (Add x y) s h i f = at i (value e (Add x y)) h.0 (sum_bounds (interval x) (interval y) _ _ i f (bounds stack e r x Int h.1) (bounds stack e r y Int h.2))
bounds stack e r (Subtract x y) s h i f = at i (value e (Subtract x y)) h.0 (difference_bounds (interval x) (interval y) _ _ i f (bounds stack e r x Int h.1) (bounds stack e r y Int h.2))
bounds stack e r (Multiply x y) s h i f = at i (value e (Multiply x y)) h.0 (multiple_bounds x (literal x) (interval y) e _ i refl f (bounds stack e r y Int h.2))
bounds stack e r (Divide x y) s h i f = at i (value e (Divide x y)) h.0 (quotient_bounds y (interval x) (literal y) e _ i refl f (bounds stack e r x Int h.1))
bounds stack e r (Remainder x y) s h i f = at i (value e (Remainder x y)) h.0 (remainder_bounds y (literal y) e _ i refl f)
bounds stack e r (ByteAnd x y) s h i f = at i (value e (ByteAnd x y)) h.0 (byte _ i (and_byte (int_of e x) (int_of e y)) f)
bounds stack e r (ByteOr x y) s h i f = at i (value e (ByteOr x y)) h.0 (byte _ i (or_byte (int_of e x) (int_of e y)) f)
bounds stack e r (ByteXor x y) s h i f = at i (value e (ByteXor x y)) h.0 (byte _ i (xor_byte (int_of e x) (int_of e y)) f)
bounds stack e r (Parity x) s h i f = at i (value e (Parity x)) h.0 (parity_bounds (int_of e x) i f)
bounds stack e r (Bit k x) s h i f = at i (value e (Bit k x)) h.0 (bit_bounds k (int_of e x) i f)
bounds stack e r (Psw a b c d g) s h i f = at i (value e (Psw a b c d g)) h.0 (psw_bounds (int_of e a) (int_of e b) (int_of e c) (int_of e d) (int_of e g) i f)
bounds stack e r (If p x y) s h i f = at i (value e (If p x y)) h.0 (chosen_bounds (value e p).truth _ _ (interval x) (interval y) i f (bounds stack e r x Int h.2) (bounds stack e r y Int h.3))
bounds stack e r (Element m x) s h i f = at i (value e (Element m x)) h.0 (bounds stack e r m Memory h.1 i f (int_of e x))
bounds stack e r (Update m x y) s h i f = at i (value e (Update m x y)) h.0 (λ z. updated_bounds (map_of e m) (int_of e x) (int_of e y) z (interval m) (interval y) i f (bounds stack e r m Memory h.1) (bounds stack e r y Int h.3))
bounds stack e r (Total m x y) s h i f = at i (value e (Total m x y)) h.0 (total_by stack e r m (is_memory_variable m) refl (int_of e x) (int_of e y) i f)
bounds stack e r _ s h i f = absurd (cc)
