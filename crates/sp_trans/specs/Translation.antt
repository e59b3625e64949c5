-- The symbolic state after an instruction (this project's own): one equation a form, over the terms of the state before.
use Rattle.std.specs.Prelude.{ℕ, ◌+◌, ◌/◌, ◌%◌, List, [], ◌∷◌}
use Rattle.sp_base.specs.declared.location.Loc.TheVariants as loc
use Rattle.sp_base.specs.declared.pair.Pair.{Pair}
use Rattle.sp_base.specs.declared.pair.Pair.TheVariants as pair
use Rattle.sp_base.specs.Location.{loc_of}
use Rattle.sp_isa.specs.declared.instr.Arg.{Arg}
use Rattle.sp_isa.specs.declared.instr.Arg.TheVariants as arg
use Rattle.sp_isa.specs.declared.instr.StackPair.{StackPair}
use Rattle.sp_isa.specs.declared.instr.StackPair.TheVariants as stack
use Rattle.sp_isa.specs.declared.instr.Op.{Op}
use Rattle.sp_isa.specs.declared.instr.Op.TheVariants as op
use Rattle.sp_isa.specs.declared.instr.Instr.{Instr}
use Rattle.sp_isa.specs.declared.instr.Instr.TheVariants.{Mov, Mvi, Inr, Dcr, Alu, AluImmediate, Lxi, Dad, Inx, Dcx, Stax, Ldax, Shld, Lhld, Sta, Lda, Rlc, Rrc, Ral, Rar, Daa, Cma, Stc, Cmc, Push, Pop, Xthl, Xchg, In}
use Rattle.sp_term.specs.declared.var.Var.TheVariants as var
use Rattle.sp_term.specs.Tree.{Tree, Variable, Add, Subtract, Multiply, Divide, Remainder, ByteAnd, ByteOr, ByteXor, Parity, Bit, Psw, If, Element, Update, Equal, Less, Or}
use Rattle.sp_trans.specs.Symbolic.{Word, Symbolic, term_at, with_term, with_memory, with_slots, number, pair_term}

-- ---- parts of terms

abbrev pub modulo : Tree → ℕ → Tree
modulo x n = Remainder x (number n)

abbrev pub over : Tree → ℕ → Tree
over x n = Divide x (number n)

-- 1 where the formula is true, else 0
abbrev pub flag_if : Tree → Tree
flag_if p = If p (number 1) (number 0)

-- what memory has at a term
abbrev pub element : Symbolic → Tree → Tree
element g at = Element g.memory at

-- ---- operands

-- M is the cell at HL
unfoldable pub arg_term : Arg → Symbolic → Tree
arg_term (arg.Reg r) g = term_at (loc_of r) g
arg_term arg.M g = element g (pair_term pair.H g)

-- the state with a byte in a cell
unfoldable pub with_cell_term : Tree → Tree → Symbolic → Symbolic
with_cell_term at t g = with_memory (Update g.memory at t) g

unfoldable pub with_arg_term : Arg → Tree → Symbolic → Symbolic
with_arg_term (arg.Reg r) t g = with_term (loc_of r) t g
with_arg_term arg.M t g = with_cell_term (pair_term pair.H g) t g

-- a pair with two bytes; the stack pointer is in no symbolic state
unfoldable pub with_bytes : Pair → Tree → Tree → Symbolic → Symbolic
with_bytes pair.B high low g = with_term loc.B high (with_term loc.C low g)
with_bytes pair.D high low g = with_term loc.D high (with_term loc.E low g)
with_bytes pair.H high low g = with_term loc.H high (with_term loc.L low g)
with_bytes pair.Sp high low g = g

-- a pair with a word
unfoldable pub with_word : Pair → Tree → Symbolic → Symbolic
with_word p w g = with_bytes p (over w 256) (modulo w 256) g

-- ---- arithmetic

-- S, Z and P of a byte
unfoldable pub with_szp_term : Tree → Symbolic → Symbolic
with_szp_term r g =
    with_term loc.S (over r 128) (with_term loc.Z (flag_if (Equal r (number 0))) (with_term loc.P (Parity r) g))

-- INR
unfoldable pub increased : Arg → Symbolic → Symbolic
increased y g =
    let r = modulo (Add (arg_term y g) (number 1)) 256 in
    with_arg_term y r (with_szp_term r (with_term loc.Ac (flag_if (Equal (modulo r 16) (number 0))) g))

-- DCR
unfoldable pub decreased : Arg → Symbolic → Symbolic
decreased y g =
    let x = arg_term y g in
    let r = modulo (Subtract x (number 1)) 256 in
    with_arg_term y r (with_szp_term r (with_term loc.Ac (If (Equal (modulo x 16) (number 0)) (number 0) (number 1)) g))

-- A takes a sum; that of the low digits gives AC
unfoldable pub with_sum : Tree → Tree → Symbolic → Symbolic
with_sum t digits g =
    let r = modulo t 256 in
    with_term loc.A r (with_szp_term r (with_term loc.Cy (over t 256) (with_term loc.Ac (over digits 16) g)))

-- the flags of a difference; that of the low digits gives AC
unfoldable pub with_compared : Tree → Tree → Symbolic → Symbolic
with_compared t digits g =
    let r = modulo t 256 in
    with_szp_term r (with_term loc.Cy (flag_if (Less t (number 0))) (with_term loc.Ac (over (Add digits (number 16)) 16) g))

-- A takes a difference
unfoldable pub with_difference : Tree → Tree → Symbolic → Symbolic
with_difference t digits g = with_term loc.A (modulo t 256) (with_compared t digits g)

-- A takes a byte made of bits
unfoldable pub with_logic : Tree → Tree → Symbolic → Symbolic
with_logic r ac g = with_term loc.A r (with_szp_term r (with_term loc.Cy (number 0) (with_term loc.Ac ac g)))

-- ADD, ADC, SUB, SBB, ANA, XRA, ORA and CMP
unfoldable pub operated : Op → Tree → Symbolic → Symbolic
operated op.Add y g = with_sum (Add g.a y) (Add (modulo g.a 16) (modulo y 16)) g
operated op.Adc y g = with_sum (Add (Add g.a y) g.cy) (Add (Add (modulo g.a 16) (modulo y 16)) g.cy) g
operated op.Sub y g = with_difference (Subtract g.a y) (Subtract (modulo g.a 16) (modulo y 16)) g
operated op.Sbb y g = with_difference (Subtract (Subtract g.a y) g.cy) (Subtract (Subtract (modulo g.a 16) (modulo y 16)) g.cy) g
operated op.Ana y g = with_logic (ByteAnd g.a y) (Bit 3 (ByteOr g.a y)) g
operated op.Xra y g = with_logic (ByteXor g.a y) (number 0) g
operated op.Ora y g = with_logic (ByteOr g.a y) (number 0) g
operated op.Cmp y g = with_compared (Subtract g.a y) (Subtract (modulo g.a 16) (modulo y 16)) g

-- DAD
unfoldable pub pair_added : Pair → Symbolic → Symbolic
pair_added p g =
    let t = Add (pair_term pair.H g) (pair_term p g) in
    with_word pair.H (modulo t 65536) (with_term loc.Cy (over t 65536) g)

-- DAA
unfoldable pub adjusted : Symbolic → Symbolic
adjusted g =
    let low = Or (Less (number 9) (modulo g.a 16)) (Equal g.ac (number 1)) in
    let high = Or (Less (number 153) g.a) (Equal g.cy (number 1)) in
    let six = If low (number 6) (number 0) in
    let r = modulo (Add (Add g.a six) (If high (number 96) (number 0))) 256 in
    with_term loc.A r (with_szp_term r (with_term loc.Cy (flag_if high) (with_term loc.Ac (over (Add (modulo g.a 16) six) 16) g)))

-- A and CY after a rotate
unfoldable pub rotated : Tree → Tree → Symbolic → Symbolic
rotated r cy g = with_term loc.A r (with_term loc.Cy cy g)

-- A doubled without its bit 7
abbrev pub doubled : Tree → Tree
doubled a = modulo (Multiply (number 2) a) 256

-- XCHG
unfoldable pub exchanged : Symbolic → Symbolic
exchanged g = with_bytes pair.H g.d g.e (with_bytes pair.D g.h g.l g)

-- SHLD and LHLD: the address after this one
abbrev pub next : ℕ → ℕ
next w = (w + 1) % 65536

-- ---- the stack

-- the word that a PUSH puts onto the stack
unfoldable pub pushed : StackPair → Symbolic → Word
pushed stack.B g = record { high = g.b; low = g.c }
pushed stack.D g = record { high = g.d; low = g.e }
pushed stack.H g = record { high = g.h; low = g.l }
pushed stack.Psw g = record { high = g.a; low = Psw g.s g.z g.ac g.p g.cy }

-- the five flags from a byte
unfoldable pub with_flag_bits : Tree → Symbolic → Symbolic
with_flag_bits y g =
    with_term loc.S (Bit 7 y) (with_term loc.Z (Bit 6 y) (with_term loc.Ac (Bit 4 y) (with_term loc.P (Bit 2 y) (with_term loc.Cy (Bit 0 y) g))))

-- the registers that a POP sets
unfoldable pub with_top : StackPair → Word → Symbolic → Symbolic
with_top stack.B top g = with_bytes pair.B top.high top.low g
with_top stack.D top g = with_bytes pair.D top.high top.low g
with_top stack.H top g = with_bytes pair.H top.high top.low g
with_top stack.Psw top g = with_term loc.A top.high (with_flag_bits top.low g)

-- POP takes the newest word
unfoldable pub popped : StackPair → List Word → Symbolic → Symbolic
popped p [] g = g
popped p (top ∷ slots) g = with_slots slots (with_top p top g)

-- XTHL: H and L change places with the newest word
unfoldable pub top_exchanged : List Word → Symbolic → Symbolic
top_exchanged [] g = g
top_exchanged (top ∷ slots) g = with_bytes pair.H top.high top.low (with_slots (pushed stack.H g ∷ slots) g)

-- ---- the table

-- the symbolic state after an instruction, j being the number of an IN on its walk; where a form has no equation, none
-- of its terms change
unfoldable pub applied : Instr → ℕ → Symbolic → Symbolic
applied (Mov to from) j g = with_arg_term to (arg_term from g) g
applied (Mvi to n) j g = with_arg_term to (number n) g
applied (Inr y) j g = increased y g
applied (Dcr y) j g = decreased y g
applied (Alu o y) j g = operated o (arg_term y g) g
applied (AluImmediate o n) j g = operated o (number n) g
applied (Lxi p w) j g = with_bytes p (number (w / 256)) (number (w % 256)) g
applied (Dad p) j g = pair_added p g
applied (Inx p) j g = with_word p (modulo (Add (pair_term p g) (number 1)) 65536) g
applied (Dcx p) j g = with_word p (modulo (Subtract (pair_term p g) (number 1)) 65536) g
applied (Stax p) j g = with_cell_term (pair_term p g) g.a g
applied (Ldax p) j g = with_term loc.A (element g (pair_term p g)) g
applied (Shld w) j g = with_cell_term (number (next w)) g.h (with_cell_term (number w) g.l g)
applied (Lhld w) j g = with_bytes pair.H (element g (number (next w))) (element g (number w)) g
applied (Sta w) j g = with_cell_term (number w) g.a g
applied (Lda w) j g = with_term loc.A (element g (number w)) g
applied Rlc j g = rotated (Add (doubled g.a) (over g.a 128)) (over g.a 128) g
applied Rrc j g = rotated (Add (over g.a 2) (Multiply (number 128) (modulo g.a 2))) (modulo g.a 2) g
applied Ral j g = rotated (Add (doubled g.a) g.cy) (over g.a 128) g
applied Rar j g = rotated (Add (over g.a 2) (Multiply (number 128) g.cy)) (modulo g.a 2) g
applied Daa j g = adjusted g
applied Cma j g = with_term loc.A (Subtract (number 255) g.a) g
applied Stc j g = with_term loc.Cy (number 1) g
applied Cmc j g = with_term loc.Cy (Subtract (number 1) g.cy) g
applied (Push p) j g = with_slots (pushed p g ∷ g.slots) g
applied (Pop p) j g = popped p g.slots g
applied Xthl j g = top_exchanged g.slots g
applied Xchg j g = exchanged g
applied (In _) j g = with_term loc.A (Variable (var.In j)) g
applied i j g = g
