-- Each row of the table: the value of the new symbolic state is the effect on the core.
use Rattle.std.proofs.Common.{◌≡◌, ◌≢◌, ℕ, ◌+◌, ◌-◌, ◌/◌, ◌%◌, ◌<◌, Bool, true, false, cond, not, length, refl, sym, ap, subst, List, ◌∙◌, arith, lit<}
use Rattle.std.specs.Prelude.{◌==◌}
use Rattle.std.proofs.lemmas.Nat.{and_le_r, or_lt, xor_lt}
use Rattle.sp_base.specs.declared.location.Reg.{Reg}
use Rattle.sp_base.specs.declared.location.Reg.TheVariants as reg
use Rattle.sp_base.specs.declared.location.Loc.{Loc}
use Rattle.sp_base.specs.declared.location.Loc.TheVariants as loc
use Rattle.sp_base.specs.declared.pair.Pair.{Pair}
use Rattle.sp_base.specs.declared.pair.Pair.TheVariants as pair
use Rattle.sp_base.specs.Location.{loc_of}
use Rattle.sp_isa.specs.declared.instr.Arg.{Arg}
use Rattle.sp_isa.specs.declared.instr.Arg.TheVariants as arg
use Rattle.sp_isa.specs.declared.instr.Op.{Op}
use Rattle.sp_isa.specs.declared.instr.Op.TheVariants as op
use Rattle.sp_isa.specs.Core.{Core, IsCore, IsFlag, with_reg, with_flag}
use Rattle.sp_isa.specs.Operands.{pair_of, with_pair, arg_of, with_arg}
use Rattle.sp_isa.specs.Stack.{exchange_pairs}
use Rattle.sp_isa.specs.Arithmetic.{one_if, with_szp, add, compare, subtract, logic, alu, increase, decrease, add_pair, adjusts_low, adjusts_high, adjust, rotate}
use Rattle.sp_model.specs.Note.{Frame}
use Rattle.sp_term.specs.Tree.{Tree, Add, Subtract}
use Rattle.sp_term.specs.Value.{Env}
use Rattle.sp_trans.specs.Symbolic.{Word, Symbolic, with_term, number, pair_term}
use Rattle.sp_trans.specs.Translation.{modulo, arg_term, with_arg_term, with_bytes, with_word, with_szp_term, increased, decreased, with_sum, with_compared, with_difference, with_logic, operated, pair_added, adjusted, rotated, exchanged}
use Rattle.sp_trans.specs.Meaning.{Gives, IsValueOf}
use Rattle.sp_trans.proofs.TermLemmas.{Lacks, named, literal, plus, over, rest, choice, equal, less, either, ones_even, bits_and, bits_or, bits_xor, bit_of, minus, and_minus, and_plus, round, negative, top_bit, carry_out, half_carry, word_carry, half_borrow, part_if, high_of_word, low_of_word, bit_three_or}
use Rattle.sp_trans.proofs.ValueLemmas.{IsOutside, Fits, value_reg, value_flag, value_arg, value_with_arg, joined_gives}

pub to_reg : {f : Frame} {e : Env} {g : Symbolic} {core : Core} {t : Tree} {v : ℕ} (r : Reg) → Gives e t v → IsValueOf f e g core → IsValueOf f e (with_term (loc_of r) t g) (with_reg r v core)
to_reg {f = f} {e = e} {g = g} {core = core} r is h = value_reg f e g core r _ _ is h

pub to_flag : {f : Frame} {e : Env} {g : Symbolic} {core : Core} {t : Tree} {v : ℕ} (x : Loc) → IsFlag x → Gives e t v → IsValueOf f e g core → IsValueOf f e (with_term x t g) (with_flag x v core)
to_flag {f = f} {e = e} {g = g} {core = core} x flag is h = value_flag f e g core x _ _ flag is h

pub to_szp : {f : Frame} {e : Env} {g : Symbolic} {core : Core} {t : Tree} {r : ℕ} → r < 256 → Gives e t r → IsValueOf f e g core → IsValueOf f e (with_szp_term t g) (with_szp r core)
unfolding with_szp_term with_szp
to_szp {r = r} low is h =
    to_flag loc.S tt (named (top_bit r low) (over 128 is))
    (to_flag loc.Z tt (choice 1 0 (equal is (literal 0)))
    (to_flag loc.P tt (ones_even low is) h))

byte_of : (n : ℕ) → n % 256 < 256
byte_of n = omega arith

-- ---- sums and differences
value_sum : {f : Frame} {e : Env} {g : Symbolic} {core : Core} {t digits : Tree} (y carry : ℕ) → core.a < 256 → y < 256 → carry < 2 → Gives e t (core.a + y + carry) → Gives e digits (core.a % 16 + y % 16 + carry) → IsValueOf f e g core → IsValueOf f e (with_sum t digits g) (add y carry core)
unfolding with_sum add
value_sum {core = core} y carry a b c sum digits h =
    to_reg reg.A (rest 256 refl sum) (to_szp (byte_of (core.a + y + carry)) (rest 256 refl sum)
    (to_flag loc.Cy tt (named (carry_out (core.a + y + carry) (omega arith)) (over 256 sum))
    (to_flag loc.Ac tt (named (half_carry (core.a % 16 + y % 16 + carry) (omega arith)) (over 16 digits)) h)))

value_compared : {f : Frame} {e : Env} {g : Symbolic} {core : Core} {t digits : Tree} (y borrow : ℕ) → core.a < 256 → y < 256 → borrow < 2 → Lacks e t core.a (y + borrow) → Lacks e digits (core.a % 16) (y % 16 + borrow) → IsValueOf f e g core → IsValueOf f e (with_compared t digits g) (compare y borrow core)
unfolding with_compared compare
value_compared {core = core} y borrow a b c is digits h =
    to_szp (byte_of (core.a + 256 - (y + borrow))) (round 256 refl (omega arith) is)
    (to_flag loc.Cy tt (choice 1 0 (negative is))
    (to_flag loc.Ac tt (named (half_borrow (core.a % 16) (y % 16 + borrow) (omega arith) (omega arith)) (over 16 (and_plus 16 (omega arith) digits))) h))

value_difference : {f : Frame} {e : Env} {g : Symbolic} {core : Core} {t digits : Tree} (y borrow : ℕ) → core.a < 256 → y < 256 → borrow < 2 → Lacks e t core.a (y + borrow) → Lacks e digits (core.a % 16) (y % 16 + borrow) → IsValueOf f e g core → IsValueOf f e (with_difference t digits g) (subtract y borrow core)
unfolding with_difference subtract
value_difference y borrow a b c is digits h = to_reg reg.A (round 256 refl (omega arith) is) (value_compared y borrow a b c is digits h)

value_logic : {f : Frame} {e : Env} {g : Symbolic} {core : Core} {t half : Tree} {r ac : ℕ} → r < 256 → Gives e t r → Gives e half ac → IsValueOf f e g core → IsValueOf f e (with_logic t half g) (logic r ac core)
unfolding with_logic logic
value_logic low is half h = to_reg reg.A is (to_szp low is (to_flag loc.Cy tt (literal 0) (to_flag loc.Ac tt half h)))

nothing_more : {e : Env} {t : Tree} {m : ℕ} → Gives e t m → Gives e t (m + 0)
nothing_more h = named (omega arith) h

nothing_less : {e : Env} {t : Tree} {m n : ℕ} → Lacks e t m n → Lacks e t m (n + 0)
nothing_less {e = e} {t = t} {m = m} {n = n} h = subst (Lacks e t m) (omega arith) h

pub value_alu : (o : Op) {f : Frame} {e : Env} {g : Symbolic} {core : Core} {t : Tree} {y : ℕ} → IsCore core → y < 256 → Gives e t y → IsValueOf f e g core → IsValueOf f e (operated o t g) (alu o y core)
unfolding operated alu
value_alu op.Add {y = y} k low is h = let a = h.locations loc.A in value_sum y 0 (k.locations loc.A) low (lit< tt) (nothing_more (plus a is)) (nothing_more (plus (rest 16 refl a) (rest 16 refl is))) h
value_alu op.Adc {core = core} {y = y} k low is h = let a = h.locations loc.A in let c = h.locations loc.Cy in value_sum y core.cy (k.locations loc.A) low (k.locations loc.Cy) (plus (plus a is) c) (plus (plus (rest 16 refl a) (rest 16 refl is)) c) h
value_alu op.Sub {y = y} k low is h = let a = h.locations loc.A in value_difference y 0 (k.locations loc.A) low (lit< tt) (nothing_less (minus a is)) (nothing_less (minus (rest 16 refl a) (rest 16 refl is))) h
value_alu op.Sbb {core = core} {y = y} k low is h = let a = h.locations loc.A in let c = h.locations loc.Cy in value_difference y core.cy (k.locations loc.A) low (k.locations loc.Cy) (and_minus (minus a is) c) (and_minus (minus (rest 16 refl a) (rest 16 refl is)) c) h
value_alu op.Ana {core = core} {y = y} k low is h = let a = h.locations loc.A in value_logic (omega (arith, and_le_r core.a y)) (bits_and (k.locations loc.A) low a is) (named (bit_three_or core.a y) (bit_of 3 (bits_or (k.locations loc.A) low a is))) h
value_alu op.Xra {core = core} {y = y} k low is h = value_logic (xor_lt 8 core.a y (k.locations loc.A) low) (bits_xor (k.locations loc.A) low (h.locations loc.A) is) (literal 0) h
value_alu op.Ora {core = core} {y = y} k low is h = value_logic (or_lt 8 core.a y (k.locations loc.A) low) (bits_or (k.locations loc.A) low (h.locations loc.A) is) (literal 0) h
value_alu op.Cmp {y = y} k low is h = let a = h.locations loc.A in value_compared y 0 (k.locations loc.A) low (lit< tt) (nothing_less (minus a is)) (nothing_less (minus (rest 16 refl a) (rest 16 refl is))) h

-- ---- DAA and the rotates
pub value_adjust : {f : Frame} {e : Env} {g : Symbolic} {core : Core} → IsCore core → IsValueOf f e g core → IsValueOf f e (adjusted g) (adjust core)
unfolding adjusted adjust
value_adjust {core = core} k h =
    let a = h.locations loc.A in
    let f = either (less (literal 153) a) (equal (h.locations loc.Cy) (literal 1)) in
    let u = named (part_if 6 (adjusts_low core)) (choice 6 0 (either (less (literal 9) (rest 16 refl a)) (equal (h.locations loc.Ac) (literal 1)))) in
    let r = rest 256 refl (plus (plus a u) (named (part_if 96 (adjusts_high core)) (choice 96 0 f))) in
    to_reg reg.A r (to_szp (byte_of _) r
    (to_flag loc.Cy tt (choice 1 0 f) (to_flag loc.Ac tt (named (half_carry _ (grind arith)) (over 16 (plus (rest 16 refl a) u))) h)))

pub value_rotate : {f : Frame} {e : Env} {g : Symbolic} {core : Core} {t carry : Tree} {r cy : ℕ} → Gives e t r → Gives e carry cy → IsValueOf f e g core → IsValueOf f e (rotated t carry g) (rotate r cy core)
unfolding rotated rotate
value_rotate is carry h = to_reg reg.A is (to_flag loc.Cy tt carry h)

-- ---- pairs
pub value_bytes : (p : Pair) → p ≢ pair.Sp → {f : Frame} {e : Env} {g : Symbolic} {core : Core} {high low : Tree} (w : ℕ) → Gives e high (w / 256 % 256) → Gives e low (w % 256) → IsValueOf f e g core → IsValueOf f e (with_bytes p high low g) (with_pair p w core)
unfolding with_bytes with_pair
value_bytes pair.B other w high low h = to_reg reg.B high (to_reg reg.C low h)
value_bytes pair.D other w high low h = to_reg reg.D high (to_reg reg.E low h)
value_bytes pair.H other w high low h = to_reg reg.H high (to_reg reg.L low h)
value_bytes pair.Sp other w high low h = absurd (other refl)

pub value_word : (p : Pair) → p ≢ pair.Sp → {f : Frame} {e : Env} {g : Symbolic} {core : Core} {t : Tree} (w : ℕ) → Gives e t (w % 65536) → IsValueOf f e g core → IsValueOf f e (with_word p t g) (with_pair p w core)
unfolding with_word
value_word p other w is h = value_bytes p other w (named (high_of_word w) (over 256 is)) (named (low_of_word w) (rest 256 refl is)) h

literal_high : (w : ℕ) → w < 65536 → w / 256 ≡ w / 256 % 256
literal_high w h = omega arith

pub value_literal : (p : Pair) → p ≢ pair.Sp → {f : Frame} {e : Env} {g : Symbolic} {core : Core} (w : ℕ) → w < 65536 → IsValueOf f e g core → IsValueOf f e (with_bytes p (number (w / 256)) (number (w % 256)) g) (with_pair p w core)
value_literal p other w low h = value_bytes p other w (named (literal_high w low) (literal (w / 256))) (literal (w % 256)) h

pub gives_pair : (p : Pair) {f : Frame} {e : Env} {g : Symbolic} {core : Core} → p ≢ pair.Sp → IsValueOf f e g core → Gives e (pair_term p g) (pair_of p core)
unfolding pair_term
gives_pair pair.B other h = joined_gives (h.locations loc.B) (h.locations loc.C)
gives_pair pair.D other h = joined_gives (h.locations loc.D) (h.locations loc.E)
gives_pair pair.H other h = joined_gives (h.locations loc.H) (h.locations loc.L)
gives_pair pair.Sp other h = absurd (other refl)

pub low_pair : (p : Pair) (core : Core) → IsCore core → pair_of p core < 65536
low_pair pair.B core k = omega (arith, k.locations loc.B, k.locations loc.C)
low_pair pair.D core k = omega (arith, k.locations loc.D, k.locations loc.E)
low_pair pair.H core k = omega (arith, k.locations loc.H, k.locations loc.L)
low_pair pair.Sp core k = k.sp

pub value_add_pair : (p : Pair) {f : Frame} {e : Env} {g : Symbolic} {core : Core} → p ≢ pair.Sp → IsCore core → IsValueOf f e g core → IsValueOf f e (pair_added p g) (add_pair p core)
unfolding pair_added add_pair
value_add_pair p {core = core} other k h =
    let sum = plus (gives_pair pair.H (λ q. cc) h) (gives_pair p other h) in
    let a = low_pair pair.H core k in
    let b = low_pair p core k in
    value_word pair.H (λ q. cc) ((pair_of pair.H core + pair_of p core) % 65536) (named (omega arith) (rest 65536 refl sum))
    (to_flag loc.Cy tt (named (word_carry (pair_of pair.H core + pair_of p core) (omega (arith, a, b))) (over 65536 sum)) h)

pub value_next : (p : Pair) {f : Frame} {e : Env} {g : Symbolic} {core : Core} → p ≢ pair.Sp → IsValueOf f e g core → IsValueOf f e (with_word p (modulo (Add (pair_term p g) (number 1)) 65536) g) (with_pair p (pair_of p core + 1) core)
value_next p {core = core} other h = value_word p other (pair_of p core + 1) (rest 65536 refl (plus (gives_pair p other h) (literal 1))) h

one_back : (w : ℕ) → (w + 65536 - 1) % 65536 ≡ (w + 65535) % 65536
one_back w = omega arith

pub value_previous : (p : Pair) {f : Frame} {e : Env} {g : Symbolic} {core : Core} → p ≢ pair.Sp → IsValueOf f e g core → IsValueOf f e (with_word p (modulo (Subtract (pair_term p g) (number 1)) 65536) g) (with_pair p (pair_of p core + 65535) core)
value_previous p {core = core} other h = value_word p other (pair_of p core + 65535) (named (one_back (pair_of p core)) (round 65536 refl (omega arith) (minus (gives_pair p other h) (literal 1)))) h

pub value_exchange : {f : Frame} {e : Env} {g : Symbolic} {core : Core} → IsValueOf f e g core → IsValueOf f e (exchanged g) (exchange_pairs core)
unfolding exchanged exchange_pairs with_bytes
value_exchange h = to_reg reg.H (h.locations loc.D) (to_reg reg.L (h.locations loc.E) (to_reg reg.D (h.locations loc.H) (to_reg reg.E (h.locations loc.L) h)))

-- ---- INR and DCR
szp_cells : (r v : ℕ) (core : Core) → (with_szp r (with_flag loc.Ac v core)).cells ≡ core.cells
unfolding with_szp with_flag
szp_cells r v core = refl

outside_still : (y : Arg) (f : Frame) (r v : ℕ) (core : Core) → IsOutside f y core → IsOutside f y (with_szp r (with_flag loc.Ac v core))
unfolding with_szp with_flag
outside_still (arg.Reg q) f r v core h = tt
outside_still arg.M f r v core h = h

szp_slots : (r t : Tree) (g : Symbolic) → (with_szp_term r (with_term loc.Ac t g)).slots ≡ g.slots
unfolding with_szp_term with_term
szp_slots r t g = refl

value_stepped : (y : Arg) {f : Frame} {e : Env} {g : Symbolic} {core : Core} {t half : Tree} {r ac : ℕ} → Fits f (length g.slots) → length core.cells ≡ 65536 → IsOutside f y core → r < 256 → Gives e t r → Gives e half ac → IsValueOf f e g core → IsValueOf f e (with_arg_term y t (with_szp_term t (with_term loc.Ac half g))) (with_arg y r (with_szp r (with_flag loc.Ac ac core)))
value_stepped y {f = f} {e = e} {g = g} {core = core} {t = t} {half = half} {r = r} {ac = ac} fits long out low is digit h =
    value_with_arg y f e _ _ t r (subst (λ (s : List Word). Fits f (length s)) (sym (szp_slots t half g)) fits) (ap length (szp_cells r ac core) ∙ long) (outside_still y f r ac core out) is
    (to_szp low is (to_flag loc.Ac tt digit h))

pub gives_arg : (y : Arg) {f : Frame} {e : Env} {g : Symbolic} {core : Core} → IsOutside f y core → IsValueOf f e g core → Gives e (arg_term y g) (arg_of y core)
gives_arg y out h = value_arg y _ _ _ _ out h

flip : (b : Bool) → cond b 0 1 ≡ one_if (not b)
flip true = refl
flip false = refl

one_under : (x : ℕ) → (x + 256 - 1) % 256 ≡ (x + 255) % 256
one_under x = omega arith

pub value_increase : (y : Arg) {f : Frame} {e : Env} {g : Symbolic} {core : Core} → Fits f (length g.slots) → length core.cells ≡ 65536 → IsOutside f y core → IsValueOf f e g core → IsValueOf f e (increased y g) (increase y core)
unfolding increased increase
value_increase y {core = core} fits long out h =
    let r = rest 256 refl (plus (gives_arg y out h) (literal 1)) in
    value_stepped y fits long out (byte_of (arg_of y core + 1)) r (choice 1 0 (equal (rest 16 refl r) (literal 0))) h

pub value_decrease : (y : Arg) {f : Frame} {e : Env} {g : Symbolic} {core : Core} → Fits f (length g.slots) → length core.cells ≡ 65536 → IsOutside f y core → IsValueOf f e g core → IsValueOf f e (decreased y g) (decrease y core)
unfolding decreased decrease
value_decrease y {core = core} fits long out h =
    let x = gives_arg y out h in
    value_stepped y fits long out (byte_of (arg_of y core + 255)) (named (one_under (arg_of y core)) (round 256 refl (omega arith) (minus x (literal 1)))) (named (flip (arg_of y core % 16 == 0)) (choice 0 1 (equal (rest 16 refl x) (literal 0)))) h
