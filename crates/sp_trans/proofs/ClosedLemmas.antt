-- Translation makes closed terms of their sorts from closed terms of their sorts.
use Rattle.std.proofs.Common.{◌≡◌, ℕ, ◌/◌, ◌%◌, ◌≤◌, Bool, true, false, cond, List, [], ◌∷◌, refl, sym, subst, arith, All}
use Rattle.std.specs.Prelude.{◌||◌}
use Rattle.std.specs.List.{AllByRecursion}
use Rattle.std.proofs.lemmas.List.Elements.{recursion_from_All, All-from_recursion}
use Rattle.sp_base.specs.declared.location.Loc.{Loc}
use Rattle.sp_base.specs.declared.location.Loc.TheVariants as loc
use Rattle.sp_base.specs.declared.pair.Pair.{Pair}
use Rattle.sp_base.specs.declared.pair.Pair.TheVariants as pair
use Rattle.sp_base.specs.Location.{loc_of}
use Rattle.sp_isa.specs.declared.instr.Arg.{Arg}
use Rattle.sp_isa.specs.declared.instr.Arg.TheVariants as arg
use Rattle.sp_isa.specs.declared.instr.StackPair.{StackPair}
use Rattle.sp_isa.specs.declared.instr.StackPair.TheVariants as stack
use Rattle.sp_isa.specs.declared.instr.Op.{Op}
use Rattle.sp_isa.specs.declared.instr.Op.TheVariants as op
use Rattle.sp_isa.specs.declared.instr.Instr.TheVariants.{Mov, Mvi, Inr, Dcr, Alu, AluImmediate, Lxi, Dad, Inx, Dcx, Stax, Ldax, Shld, Lhld, Sta, Lda, Rlc, Rrc, Ral, Rar, Daa, Cma, Stc, Cmc, Push, Pop, Xthl, Xchg, In}
use Rattle.sp_term.specs.declared.var.Var.TheVariants as var
use Rattle.sp_term.specs.Tree.{Tree, Add, Subtract, Multiply, Divide, Remainder, ByteAnd, ByteOr, ByteXor, Parity, Bit, Psw, If, Element, Update, Equal, Less, Or}
use Rattle.sp_term.specs.Free.{is_free}
use Rattle.sp_term.specs.Sorts.{Int, Formula, Memory}
use Rattle.sp_trans.specs.Symbolic.{Word, Symbolic, term_at, with_term, with_memory, with_slots, number, divided, joined, pair_term}
use Rattle.sp_trans.specs.Translation.{modulo, over, arg_term, with_cell_term, with_arg_term, with_bytes, with_word, with_szp_term, increased, decreased, with_sum, with_compared, with_difference, with_logic, operated, pair_added, adjusted, rotated, doubled, exchanged, next, pushed, with_flag_bits, with_top, popped, top_exchanged, applied}
use Rattle.sp_trans.specs.ClosedTerms.{IsClosedTerm, IsClosedWord, IsSymbolic}
use Rattle.sp_trans.specs.Theorems.{StatesStaySymbolic}

abbrev pub IsInt : Tree → Type 0
IsInt t = IsClosedTerm Int t

abbrev pub IsFormula : Tree → Type 0
IsFormula p = IsClosedTerm Formula p

-- ---- terms

pub neither : (a b : Bool) → a ≡ false → b ≡ false → (a || b) ≡ false
neither true b h k = h
neither false b h k = k

first_false : (a b : Bool) → (a || b) ≡ false → a ≡ false
first_false true b h = h
first_false false b h = refl

pub literal : (n : ℕ) → IsInt (number n)
literal n = record { sort = refl; closed = λ k. refl }

pub plus : {x y : Tree} → IsInt x → IsInt y → IsInt (Add x y)
plus h k = record { sort = (refl, h.sort, k.sort); closed = λ j. neither _ _ (h.closed j) (k.closed j) }

pub minus : {x y : Tree} → IsInt x → IsInt y → IsInt (Subtract x y)
minus h k = record { sort = (refl, h.sort, k.sort); closed = λ j. neither _ _ (h.closed j) (k.closed j) }

pub times : {x y : Tree} → IsInt x → IsInt y → IsInt (Multiply x y)
times h k = record { sort = (refl, h.sort, k.sort); closed = λ j. neither _ _ (h.closed j) (k.closed j) }

pub quotient : {x y : Tree} → IsInt x → IsInt y → IsInt (Divide x y)
quotient h k = record { sort = (refl, h.sort, k.sort); closed = λ j. neither _ _ (h.closed j) (k.closed j) }

pub remainder : {x y : Tree} → IsInt x → IsInt y → IsInt (Remainder x y)
remainder h k = record { sort = (refl, h.sort, k.sort); closed = λ j. neither _ _ (h.closed j) (k.closed j) }

pub bits_and : {x y : Tree} → IsInt x → IsInt y → IsInt (ByteAnd x y)
bits_and h k = record { sort = (refl, h.sort, k.sort); closed = λ j. neither _ _ (h.closed j) (k.closed j) }

pub bits_or : {x y : Tree} → IsInt x → IsInt y → IsInt (ByteOr x y)
bits_or h k = record { sort = (refl, h.sort, k.sort); closed = λ j. neither _ _ (h.closed j) (k.closed j) }

pub bits_xor : {x y : Tree} → IsInt x → IsInt y → IsInt (ByteXor x y)
bits_xor h k = record { sort = (refl, h.sort, k.sort); closed = λ j. neither _ _ (h.closed j) (k.closed j) }

pub ones_even : {x : Tree} → IsInt x → IsInt (Parity x)
ones_even h = record { sort = (refl, h.sort); closed = h.closed }

bit_of : {x : Tree} (k : ℕ) → k ≤ 7 → IsInt x → IsInt (Bit k x)
bit_of k low h = record { sort = (refl, low, h.sort); closed = h.closed }

choice : {p x y : Tree} → IsFormula p → IsInt x → IsInt y → IsInt (If p x y)
choice h k l = record { sort = (refl, h.sort, k.sort, l.sort); closed = λ j. neither _ _ (neither _ _ (h.closed j) (k.closed j)) (l.closed j) }

flags : {s z ac p cy : Tree} → IsInt s → IsInt z → IsInt ac → IsInt p → IsInt cy → IsInt (Psw s z ac p cy)
flags a b c d e = record {
  sort = (refl, a.sort, b.sort, c.sort, d.sort, e.sort);
  closed = λ j. neither _ _ (neither _ _ (neither _ _ (neither _ _ (a.closed j) (b.closed j)) (c.closed j)) (d.closed j)) (e.closed j);
}

pub cell : {m x : Tree} → IsClosedTerm Memory m → IsInt x → IsInt (Element m x)
cell h k = record { sort = (refl, h.sort, k.sort); closed = λ j. neither _ _ (h.closed j) (k.closed j) }

changed : {m x y : Tree} → IsClosedTerm Memory m → IsInt x → IsInt y → IsClosedTerm Memory (Update m x y)
changed h k l = record { sort = (refl, h.sort, k.sort, l.sort); closed = λ j. neither _ _ (neither _ _ (h.closed j) (k.closed j)) (l.closed j) }

pub equal : {x y : Tree} → IsInt x → IsInt y → IsFormula (Equal x y)
equal h k = record { sort = (refl, h.sort, k.sort); closed = λ j. neither _ _ (h.closed j) (k.closed j) }

pub less : {x y : Tree} → IsInt x → IsInt y → IsFormula (Less x y)
less h k = record { sort = (refl, h.sort, k.sort); closed = λ j. neither _ _ (h.closed j) (k.closed j) }

either : {p q : Tree} → IsFormula p → IsFormula q → IsFormula (Or p q)
either h k = record { sort = (refl, h.sort, k.sort); closed = λ j. neither _ _ (h.closed j) (k.closed j) }

rest : {x : Tree} (n : ℕ) → IsInt x → IsInt (modulo x n)
rest n h = remainder h (literal n)

div : {x : Tree} (n : ℕ) → IsInt x → IsInt (over x n)
div n h = quotient h (literal n)

zero_test : {x : Tree} (a b : ℕ) → IsInt x → IsInt (If (Equal x (number 0)) (number a) (number b))
zero_test a b h = choice (equal h (literal 0)) (literal a) (literal b)

divided_int : (x : Tree) → IsInt x → IsInt (divided x)
divided_int (Divide z d) h = record { sort = h.sort.1; closed = λ j. first_false _ (is_free (var.Bound j) d) (h.closed j) }
divided_int t h = h

by_test : (b : Bool) {x y : Tree} → IsInt x → IsInt y → IsInt (cond b x y)
by_test true h k = h
by_test false h k = k

pub word : {x y : Tree} → IsInt x → IsInt y → IsInt (joined x y)
unfolding joined
word {x = x} h k = by_test _ (divided_int x h) (plus (times (literal 256) h) k)

-- ---- states

with_at : (x y : Loc) (t : Tree) (g : Symbolic) → IsInt t → IsInt (term_at y g) → IsInt (term_at y (with_term x t g))
unfolding with_term
with_at loc.A loc.A t g h k = h
with_at loc.A y t g h k = k
with_at loc.B loc.B t g h k = h
with_at loc.B y t g h k = k
with_at loc.C loc.C t g h k = h
with_at loc.C y t g h k = k
with_at loc.D loc.D t g h k = h
with_at loc.D y t g h k = k
with_at loc.E loc.E t g h k = h
with_at loc.E y t g h k = k
with_at loc.H loc.H t g h k = h
with_at loc.H y t g h k = k
with_at loc.L loc.L t g h k = h
with_at loc.L y t g h k = k
with_at loc.S loc.S t g h k = h
with_at loc.S y t g h k = k
with_at loc.Z loc.Z t g h k = h
with_at loc.Z y t g h k = k
with_at loc.Ac loc.Ac t g h k = h
with_at loc.Ac y t g h k = k
with_at loc.P loc.P t g h k = h
with_at loc.P y t g h k = k
with_at loc.Cy loc.Cy t g h k = h
with_at loc.Cy y t g h k = k

same_rest : (x : Loc) (t : Tree) (g : Symbolic) → ((with_term x t g).memory ≡ g.memory) × ((with_term x t g).slots ≡ g.slots)
unfolding with_term
same_rest loc.A t g = (refl, refl)
same_rest x t g = (refl, refl)

to_term : (x : Loc) {t : Tree} {g : Symbolic} → IsInt t → IsSymbolic g → IsSymbolic (with_term x t g)
to_term x {t = t} {g = g} h k =
    let others = same_rest x t g in
    record {
      locations = λ y. with_at x y t g h (k.locations y);
      memory = subst (IsClosedTerm Memory) (sym others.0) k.memory;
      slots = subst (All IsClosedWord) (sym others.1) k.slots;
    }

memory_at : (y : Loc) (t : Tree) (g : Symbolic) → term_at y (with_memory t g) ≡ term_at y g
unfolding with_memory
memory_at loc.A t g = refl
memory_at y t g = refl

to_memory : {t : Tree} {g : Symbolic} → IsClosedTerm Memory t → IsSymbolic g → IsSymbolic (with_memory t g)
unfolding with_memory
to_memory {t = t} {g = g} h k = record { locations = λ y. subst IsInt (sym (memory_at y t g)) (k.locations y); memory = h; slots = k.slots }

slots_at : (y : Loc) (slots : List Word) (g : Symbolic) → term_at y (with_slots slots g) ≡ term_at y g
unfolding with_slots
slots_at loc.A slots g = refl
slots_at y slots g = refl

to_slots : (slots : List Word) {g : Symbolic} → AllByRecursion IsClosedWord slots → IsSymbolic g → IsSymbolic (with_slots slots g)
unfolding with_slots
to_slots slots {g = g} h k = record { locations = λ y. subst IsInt (sym (slots_at y slots g)) (k.locations y); memory = k.memory; slots = All-from_recursion IsClosedWord slots h }

-- ---- operands

pub pair_int : (p : Pair) {g : Symbolic} → IsSymbolic g → IsInt (pair_term p g)
unfolding pair_term
pair_int pair.B k = word (k.locations loc.B) (k.locations loc.C)
pair_int pair.D k = word (k.locations loc.D) (k.locations loc.E)
pair_int pair.H k = word (k.locations loc.H) (k.locations loc.L)
pair_int pair.Sp k = literal 0

arg_int : (y : Arg) {g : Symbolic} → IsSymbolic g → IsInt (arg_term y g)
unfolding arg_term
arg_int (arg.Reg r) k = k.locations (loc_of r)
arg_int arg.M k = cell k.memory (pair_int pair.H k)

to_cell : {a t : Tree} {g : Symbolic} → IsInt a → IsInt t → IsSymbolic g → IsSymbolic (with_cell_term a t g)
unfolding with_cell_term
to_cell a h k = to_memory (changed k.memory a h) k

to_arg : (y : Arg) {t : Tree} {g : Symbolic} → IsInt t → IsSymbolic g → IsSymbolic (with_arg_term y t g)
unfolding with_arg_term
to_arg (arg.Reg r) h k = to_term (loc_of r) h k
to_arg arg.M h k = to_cell (pair_int pair.H k) h k

to_bytes : (p : Pair) {high low : Tree} {g : Symbolic} → IsInt high → IsInt low → IsSymbolic g → IsSymbolic (with_bytes p high low g)
unfolding with_bytes
to_bytes pair.B h l k = to_term loc.B h (to_term loc.C l k)
to_bytes pair.D h l k = to_term loc.D h (to_term loc.E l k)
to_bytes pair.H h l k = to_term loc.H h (to_term loc.L l k)
to_bytes pair.Sp h l k = k

to_word : (p : Pair) {w : Tree} {g : Symbolic} → IsInt w → IsSymbolic g → IsSymbolic (with_word p w g)
unfolding with_word
to_word p h k = to_bytes p (div 256 h) (rest 256 h) k

-- ---- rows

to_szp : {r : Tree} {g : Symbolic} → IsInt r → IsSymbolic g → IsSymbolic (with_szp_term r g)
unfolding with_szp_term
to_szp h k = to_term loc.S (div 128 h) (to_term loc.Z (zero_test 1 0 h) (to_term loc.P (ones_even h) k))

increase : (y : Arg) {g : Symbolic} → IsSymbolic g → IsSymbolic (increased y g)
unfolding increased
increase y k = let r = rest 256 (plus (arg_int y k) (literal 1)) in to_arg y r (to_szp r (to_term loc.Ac (zero_test 1 0 (rest 16 r)) k))

decrease : (y : Arg) {g : Symbolic} → IsSymbolic g → IsSymbolic (decreased y g)
unfolding decreased
decrease y k = let x = arg_int y k in let r = rest 256 (minus x (literal 1)) in to_arg y r (to_szp r (to_term loc.Ac (zero_test 0 1 (rest 16 x)) k))

to_sum : {t digits : Tree} {g : Symbolic} → IsInt t → IsInt digits → IsSymbolic g → IsSymbolic (with_sum t digits g)
unfolding with_sum
to_sum t d k = to_term loc.A (rest 256 t) (to_szp (rest 256 t) (to_term loc.Cy (div 256 t) (to_term loc.Ac (div 16 d) k)))

to_compared : {t digits : Tree} {g : Symbolic} → IsInt t → IsInt digits → IsSymbolic g → IsSymbolic (with_compared t digits g)
unfolding with_compared
to_compared t d k = to_szp (rest 256 t) (to_term loc.Cy (choice (less t (literal 0)) (literal 1) (literal 0)) (to_term loc.Ac (div 16 (plus d (literal 16))) k))

to_difference : {t digits : Tree} {g : Symbolic} → IsInt t → IsInt digits → IsSymbolic g → IsSymbolic (with_difference t digits g)
unfolding with_difference
to_difference t d k = to_term loc.A (rest 256 t) (to_compared t d k)

to_logic : {r ac : Tree} {g : Symbolic} → IsInt r → IsInt ac → IsSymbolic g → IsSymbolic (with_logic r ac g)
unfolding with_logic
to_logic r ac k = to_term loc.A r (to_szp r (to_term loc.Cy (literal 0) (to_term loc.Ac ac k)))

operate : (o : Op) {y : Tree} {g : Symbolic} → IsInt y → IsSymbolic g → IsSymbolic (operated o y g)
unfolding operated
operate op.Add y k = let a = k.locations loc.A in to_sum (plus a y) (plus (rest 16 a) (rest 16 y)) k
operate op.Adc y k = let a = k.locations loc.A in let c = k.locations loc.Cy in to_sum (plus (plus a y) c) (plus (plus (rest 16 a) (rest 16 y)) c) k
operate op.Sub y k = let a = k.locations loc.A in to_difference (minus a y) (minus (rest 16 a) (rest 16 y)) k
operate op.Sbb y k = let a = k.locations loc.A in let c = k.locations loc.Cy in to_difference (minus (minus a y) c) (minus (minus (rest 16 a) (rest 16 y)) c) k
operate op.Ana y k = let a = k.locations loc.A in to_logic (bits_and a y) (bit_of 3 (omega arith) (bits_or a y)) k
operate op.Xra y k = to_logic (bits_xor (k.locations loc.A) y) (literal 0) k
operate op.Ora y k = to_logic (bits_or (k.locations loc.A) y) (literal 0) k
operate op.Cmp y k = let a = k.locations loc.A in to_compared (minus a y) (minus (rest 16 a) (rest 16 y)) k

add_pair : (p : Pair) {g : Symbolic} → IsSymbolic g → IsSymbolic (pair_added p g)
unfolding pair_added
add_pair p k = let t = plus (pair_int pair.H k) (pair_int p k) in to_word pair.H (rest 65536 t) (to_term loc.Cy (div 65536 t) k)

adjust : {g : Symbolic} → IsSymbolic g → IsSymbolic (adjusted g)
unfolding adjusted
adjust k =
    let a = k.locations loc.A in
    let low = either (less (literal 9) (rest 16 a)) (equal (k.locations loc.Ac) (literal 1)) in
    let high = either (less (literal 153) a) (equal (k.locations loc.Cy) (literal 1)) in
    let six = choice low (literal 6) (literal 0) in
    let r = rest 256 (plus (plus a six) (choice high (literal 96) (literal 0))) in
    to_term loc.A r (to_szp r (to_term loc.Cy (choice high (literal 1) (literal 0)) (to_term loc.Ac (div 16 (plus (rest 16 a) six)) k)))

rotate : {r cy : Tree} {g : Symbolic} → IsInt r → IsInt cy → IsSymbolic g → IsSymbolic (rotated r cy g)
unfolding rotated
rotate r cy k = to_term loc.A r (to_term loc.Cy cy k)

twice : {a : Tree} → IsInt a → IsInt (doubled a)
twice a = rest 256 (times (literal 2) a)

exchange : {g : Symbolic} → IsSymbolic g → IsSymbolic (exchanged g)
unfolding exchanged
exchange k = to_bytes pair.H (k.locations loc.D) (k.locations loc.E) (to_bytes pair.D (k.locations loc.H) (k.locations loc.L) k)

push_word : (p : StackPair) {g : Symbolic} → IsSymbolic g → IsClosedWord (pushed p g)
unfolding pushed
push_word stack.B k = record { high = k.locations loc.B; low = k.locations loc.C }
push_word stack.D k = record { high = k.locations loc.D; low = k.locations loc.E }
push_word stack.H k = record { high = k.locations loc.H; low = k.locations loc.L }
push_word stack.Psw k = record { high = k.locations loc.A; low = flags (k.locations loc.S) (k.locations loc.Z) (k.locations loc.Ac) (k.locations loc.P) (k.locations loc.Cy) }

words_of : {g : Symbolic} → IsSymbolic g → AllByRecursion IsClosedWord g.slots
words_of {g = g} k = recursion_from_All IsClosedWord g.slots k.slots

to_flags : {y : Tree} {g : Symbolic} → IsInt y → IsSymbolic g → IsSymbolic (with_flag_bits y g)
unfolding with_flag_bits
to_flags y k = to_term loc.S (bit_of 7 (omega arith) y) (to_term loc.Z (bit_of 6 (omega arith) y) (to_term loc.Ac (bit_of 4 (omega arith) y) (to_term loc.P (bit_of 2 (omega arith) y) (to_term loc.Cy (bit_of 0 (omega arith) y) k))))

to_top : (p : StackPair) {top : Word} {g : Symbolic} → IsClosedWord top → IsSymbolic g → IsSymbolic (with_top p top g)
unfolding with_top
to_top stack.B w k = to_bytes pair.B w.high w.low k
to_top stack.D w k = to_bytes pair.D w.high w.low k
to_top stack.H w k = to_bytes pair.H w.high w.low k
to_top stack.Psw w k = to_term loc.A w.high (to_flags w.low k)

pop : (p : StackPair) (slots : List Word) {g : Symbolic} → AllByRecursion IsClosedWord slots → IsSymbolic g → IsSymbolic (popped p slots g)
unfolding popped
pop p [] ws k = k
pop p (top ∷ slots) ws k = to_slots slots ws.1 (to_top p ws.0 k)

exchange_top : (slots : List Word) {g : Symbolic} → AllByRecursion IsClosedWord slots → IsSymbolic g → IsSymbolic (top_exchanged slots g)
unfolding top_exchanged
exchange_top [] ws k = k
exchange_top (top ∷ slots) ws k = to_bytes pair.H ws.0.high ws.0.low (to_slots _ (push_word stack.H k, ws.1) k)

pub states_stay_symbolic : StatesStaySymbolic
unfolding applied
states_stay_symbolic (Mov to from) j g some k = to_arg to (arg_int from k) k
states_stay_symbolic (Mvi to n) j g some k = to_arg to (literal n) k
states_stay_symbolic (Inr y) j g some k = increase y k
states_stay_symbolic (Dcr y) j g some k = decrease y k
states_stay_symbolic (Alu o y) j g some k = operate o (arg_int y k) k
states_stay_symbolic (AluImmediate o n) j g some k = operate o (literal n) k
states_stay_symbolic (Lxi p w) j g some k = to_bytes p (literal (w / 256)) (literal (w % 256)) k
states_stay_symbolic (Dad p) j g some k = add_pair p k
states_stay_symbolic (Inx p) j g some k = to_word p (rest 65536 (plus (pair_int p k) (literal 1))) k
states_stay_symbolic (Dcx p) j g some k = to_word p (rest 65536 (minus (pair_int p k) (literal 1))) k
states_stay_symbolic (Stax p) j g some k = to_cell (pair_int p k) (k.locations loc.A) k
states_stay_symbolic (Ldax p) j g some k = to_term loc.A (cell k.memory (pair_int p k)) k
states_stay_symbolic (Shld w) j g some k = to_cell (literal (next w)) (k.locations loc.H) (to_cell (literal w) (k.locations loc.L) k)
states_stay_symbolic (Lhld w) j g some k = to_bytes pair.H (cell k.memory (literal (next w))) (cell k.memory (literal w)) k
states_stay_symbolic (Sta w) j g some k = to_cell (literal w) (k.locations loc.A) k
states_stay_symbolic (Lda w) j g some k = to_term loc.A (cell k.memory (literal w)) k
states_stay_symbolic Rlc j g some k = let a = k.locations loc.A in rotate (plus (twice a) (div 128 a)) (div 128 a) k
states_stay_symbolic Rrc j g some k = let a = k.locations loc.A in rotate (plus (div 2 a) (times (literal 128) (rest 2 a))) (rest 2 a) k
states_stay_symbolic Ral j g some k = let a = k.locations loc.A in rotate (plus (twice a) (k.locations loc.Cy)) (div 128 a) k
states_stay_symbolic Rar j g some k = let a = k.locations loc.A in rotate (plus (div 2 a) (times (literal 128) (k.locations loc.Cy))) (rest 2 a) k
states_stay_symbolic Daa j g some k = adjust k
states_stay_symbolic Cma j g some k = to_term loc.A (minus (literal 255) (k.locations loc.A)) k
states_stay_symbolic Stc j g some k = to_term loc.Cy (literal 1) k
states_stay_symbolic Cmc j g some k = to_term loc.Cy (minus (literal 1) (k.locations loc.Cy)) k
states_stay_symbolic (Push p) j g some k = to_slots _ (push_word p k, words_of k) k
states_stay_symbolic (Pop p) j g some k = pop p g.slots (words_of k) k
states_stay_symbolic Xthl j g some k = exchange_top g.slots (words_of k) k
states_stay_symbolic Xchg j g some k = exchange k
states_stay_symbolic (In port) j g some k = to_term loc.A (record { sort = (refl, some tt); closed = λ n. refl }) k
states_stay_symbolic i j g some k = k
