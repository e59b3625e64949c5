-- The rules on the structure of routines (this project's own). Each says that an instruction on this line breaks it.
use Rattle.std.specs.Prelude.{◌≡◌, ◌≢◌, ◌⊎◌, ◌<◌, ◌≤◌, ◌+◌, ◌*◌, ◌%◌, ℕ, ℤ, pos, ◌+ℤ◌, ◌<ℤ◌, Bool, true, false, List, [], ◌∷◌, ◌++◌, Option, None, Some, Contains, slice_get, length}
use Rattle.std.specs.FinMap as maps
use Rattle.sp_isa.specs.declared.instr.Instr.{Instr}
use Rattle.sp_isa.specs.declared.instr.Instr.TheVariants.{Push, Pop, Xthl, Pchl, Sphl, Dad, Inx, Dcx, Lxi, Sta, Shld}
use Rattle.sp_base.specs.declared.pair.Pair.TheVariants as pair
use Rattle.sp_logic.specs.View.{note_of}
use Rattle.sp_model.specs.Note.{Quantity, Cell, StackWord, Total, Negative, Parity, Operate, Note, Constant, Compare, Not, Connect, Quantify}
use Rattle.sp_graph.specs.Control.{control_of}
use Rattle.sp_graph.specs.Cycles.{IsHighestOfCycle}
use Rattle.sp_graph.specs.Depths.{HasDepth, effect}
use Rattle.sp_graph.specs.Least.{WalkTo, Successor}
use Rattle.sp_graph.specs.Routines.{graph_of}
use Rattle.sp_graph.specs.Successors.{place_of, routine_at}
use Rattle.sp_graph.specs.declared.control.Control.{Control}
use Rattle.sp_graph.specs.declared.control.Control.TheVariants.{Jump, JumpIf, Call, CallIf, Return, ReturnIf, Halt}
use Rattle.sp_prog.specs.declared.routine.Noted.{Noted}
use Rattle.sp_prog.specs.declared.routine.Routine.{Routine}
use Rattle.sp_prog.specs.declared.routine.Stmt.{Stmt}
use Rattle.sp_prog.specs.Program.{Program}

-- ---- Instructions

-- the address to which a jump leads
abbrev pub jump_target : Control → Option ℕ
jump_target (Jump address) = Some address
jump_target (JumpIf address) = Some address
jump_target _ = None

-- the address that a call calls
abbrev pub call_target : Control → Option ℕ
call_target (Call address) = Some address
call_target (CallIf address) = Some address
call_target _ = None

-- JMP, RET and HLT never go on at the next instruction
abbrev pub ends : Control → Bool
ends (Jump address) = true
ends Return = true
ends Halt = true
ends _ = false

-- RET and Rcc
abbrev pub returns : Control → Bool
returns Return = true
returns ReturnIf = true
returns _ = false

-- an instruction of a routine of the unit, by the places of both
pub record IsAt (p : Program) (r k : ℕ) (routine : Routine) (s : Stmt) : Type 0 where
  pub among : slice_get p.routines r ≡ Some routine
  pub within : slice_get routine.code k ≡ Some s

-- some instruction on this line is so
abbrev pub OnLine : Program → ℕ → (ℕ → Routine → ℕ → Stmt → Type 0) → Type 0
OnLine p line Breaks =
    (r k : ℕ) × (routine : Routine) × (s : Stmt) × IsAt p r k routine s × (s.line.0 ≡ line) × Breaks r routine k s

-- the depth at an instruction
abbrev pub DepthAt : Program → ℕ → Routine → ℕ → ℤ → Type 0
DepthAt p r routine k depth = HasDepth (graph_of p r) routine.code k depth

-- ---- The kinds

-- a jump whose target isn't an instruction of the routine
abbrev pub JumpsOut : Program → ℕ → Type 0
JumpsOut p line = OnLine p line (λ r routine k s.
    (a : ℕ) × (jump_target (control_of s.instr) ≡ Some a) × (place_of routine.code a ≡ None))

-- a last instruction that goes on
abbrev pub FallsOff : Program → ℕ → Type 0
FallsOff p line = OnLine p line (λ r routine k s. (k + 1 ≡ length routine.code) × (ends (control_of s.instr) ≡ false))

-- what a call calls, where it isn't the entry of a routine without `start`
abbrev pub IsNoCallee : Program → Option ℕ → Type 0
IsNoCallee p None = Unit {0}
IsNoCallee p (Some c) = (callee : Routine) × (slice_get p.routines c ≡ Some callee) × (callee.start ≡ true)

-- a call whose target isn't the entry of a routine without `start`
abbrev pub CallsOut : Program → ℕ → Type 0
CallsOut p line = OnLine p line (λ r routine k s.
    (a : ℕ) × (call_target (control_of s.instr) ≡ Some a) × IsNoCallee p (routine_at p.routines a))

-- an instruction calls a routine
abbrev pub IsCallOf : Program → Stmt → ℕ → Type 0
IsCallOf p s c = (a : ℕ) × (call_target (control_of s.instr) ≡ Some a) × (routine_at p.routines a ≡ Some c)

-- a routine calls another one
abbrev pub Calls : Program → ℕ → ℕ → Type 0
Calls p r c = (k : ℕ) × (routine : Routine) × (s : Stmt) × IsAt p r k routine s × IsCallOf p s c

-- calls lead from a routine to another one
pub data CallsLead (p : Program) : ℕ → ℕ → Type 0 where
  one : (r c : ℕ) → Calls p r c → CallsLead p r c
  more : (r m c : ℕ) → CallsLead p r m → Calls p m c → CallsLead p r c

-- a call of a routine from which calls lead back to the caller
abbrev pub Recurs : Program → ℕ → Type 0
Recurs p line = OnLine p line (λ r routine k s. (c : ℕ) × IsCallOf p s c × CallsLead p c r)

-- PCHL
abbrev pub is_computed : Instr → Bool
is_computed Pchl = true
is_computed _ = false

abbrev pub Computes : Program → ℕ → Type 0
Computes p line = OnLine p line (λ r routine k s. is_computed s.instr ≡ true)

-- SPHL, DAD SP, INX SP and DCX SP
abbrev pub moves_pointer : Instr → Bool
moves_pointer Sphl = true
moves_pointer (Dad pair.Sp) = true
moves_pointer (Inx pair.Sp) = true
moves_pointer (Dcx pair.Sp) = true
moves_pointer _ = false

-- the word that LXI SP loads
abbrev pub loaded_pointer : Instr → Option ℕ
loaded_pointer (Lxi pair.Sp word) = Some word
loaded_pointer _ = None

-- SP is moved, or loaded elsewhere than first in a start routine, or first in one but not with LAST + 1, or a jump leads there
abbrev pub MisusesPointer : Program → Routine → ℕ → Stmt → Type 0
MisusesPointer p routine k s =
    (moves_pointer s.instr ≡ true)
    ⊎ (((w : ℕ) × (loaded_pointer s.instr ≡ Some w) × ((routine.start ≡ true) × (k ≡ 0) → ⊥))
    ⊎ (((routine.start ≡ true) × (k ≡ 0) × (loaded_pointer s.instr ≢ Some (p.last + 1)))
    ⊎ ((routine.start ≡ true) × ((a : ℕ) × (jump_target (control_of s.instr) ≡ Some a) × (place_of routine.code a ≡ Some 0)))))

abbrev pub MovesPointer : Program → ℕ → Type 0
MovesPointer p line = OnLine p line (λ r routine k s. MisusesPointer p routine k s)

-- an instruction that no walk from the entry reaches
abbrev pub IsUnreached : Program → ℕ → Type 0
IsUnreached p line = OnLine p line (λ r routine k s. (places : List ℕ) → WalkTo (graph_of p r) places k → ⊥)

-- a return at another depth than 0
abbrev pub ReturnsDeep : Program → ℕ → Routine → ℕ → Stmt → ℤ → Type 0
ReturnsDeep p r routine k s a = (returns (control_of s.instr) ≡ true) × DepthAt p r routine k a × (a ≢ pos 0)

-- a successor of an instruction has another depth than the instruction leaves, and no lower one has
pub record DiffersAt (p : Program) (r : ℕ) (routine : Routine) (k : ℕ) (s : Stmt) (a b : ℤ) : Type 0 where
  pub before : ℤ
  pub depth : DepthAt p r routine k before
  pub after : a ≡ before +ℤ effect s.instr
  pub to : ℕ
  pub successor : Successor (graph_of p r) k to
  pub other : DepthAt p r routine to b
  pub differs : b ≢ a
  pub lowest : (lower : ℕ) (d : ℤ) → Successor (graph_of p r) k lower → DepthAt p r routine lower d → d ≢ a → to ≤ lower

-- the first where it holds, else the second
abbrev pub DiffersInDepth : Program → ℕ → ℤ → ℤ → Type 0
DiffersInDepth p line a b = OnLine p line (λ r routine k s.
    (ReturnsDeep p r routine k s a × (b ≡ pos 0))
    ⊎ (((d : ℤ) → ReturnsDeep p r routine k s d → ⊥) × DiffersAt p r routine k s a b))

-- POP and XTHL take a word from the stack
abbrev pub takes_word : Instr → Bool
takes_word (Pop pair) = true
takes_word Xthl = true
takes_word _ = false

abbrev pub PopsReturn : Program → ℕ → Type 0
PopsReturn p line = OnLine p line (λ r routine k s.
    (takes_word s.instr ≡ true) × ((depth : ℤ) × DepthAt p r routine k depth × (depth <ℤ pos 2)))

abbrev pub is_push : Instr → Bool
is_push (Push pair) = true
is_push _ = false

-- by how many bytes an instruction makes the stack deeper while it is carried out: two for PUSH, and for a call two and
-- the callee's
abbrev pub Takes : Program → Stmt → ℕ → Type 0
Takes p s n =
    ((is_push s.instr ≡ true) × (n ≡ 2))
    ⊎ ((c : ℕ) × (callee : Routine) × IsCallOf p s c × (slice_get p.routines c ≡ Some callee) × (n ≡ 2 + callee.depth))

-- an instruction that passes the routine's depth
abbrev pub TakesTooMuch : Program → ℕ → Type 0
TakesTooMuch p line = OnLine p line (λ r routine k s.
    (n : ℕ) × (depth : ℤ) × Takes p s n × DepthAt p r routine k depth × (pos routine.depth <ℤ (depth +ℤ pos n)))

-- the line of a start routine whose depth passes the stack region
abbrev pub PassesRegion : Program → ℕ → Type 0
PassesRegion p line =
    (routine : Routine) × Contains p.routines routine × (routine.line.0 ≡ line) × (routine.start ≡ true) × (p.last + 1 < p.first + routine.depth)

abbrev pub PassesDepth : Program → ℕ → Type 0
PassesDepth p line = TakesTooMuch p line ⊎ PassesRegion p line

-- an instruction without an assertion that lies on a cycle of such instructions, none at a higher address
abbrev pub IsUncut : Program → ℕ → Type 0
IsUncut p line = OnLine p line (λ r routine k s. IsHighestOfCycle (graph_of p r) k)

-- RET or Rcc in a start routine
abbrev pub ReturnsInStart : Program → ℕ → Type 0
ReturnsInStart p line = OnLine p line (λ r routine k s. (routine.start ≡ true) × (returns (control_of s.instr) ≡ true))

-- the cells that STA and SHLD write
abbrev pub stored : Instr → List ℕ
stored (Sta a) = a ∷ []
stored (Shld a) = a ∷ (a + 1) % 65536 ∷ []
stored _ = []

-- STA or SHLD to a cell of the image
abbrev pub WritesCode : Program → ℕ → Type 0
WritesCode p line = OnLine p line (λ r routine k s.
    (cell : ℕ) × (byte : ℕ) × Contains (stored s.instr) cell × (maps.get p.image cell ≡ Some byte))

-- the numbers k of the words STKk of a quantity, and of a note
abbrev pub words_of : Quantity → List ℕ
words_of (StackWord k) = k ∷ []
words_of (Cell m x) = words_of x
words_of (Total m x y) = words_of x ++ words_of y
words_of (Negative x) = words_of x
words_of (Parity x) = words_of x
words_of (Operate o x y) = words_of x ++ words_of y
words_of _ = []

abbrev pub note_words : Note → List ℕ
note_words (Constant truth) = []
note_words (Compare c x y) = words_of x ++ words_of y
note_words (Not p) = note_words p
note_words (Connect c p q) = note_words p ++ note_words q
note_words (Quantify q name x y p) = words_of x ++ (words_of y ++ note_words p)

-- an assertion on this line has STKk at a depth below 2k
abbrev pub HasNoSlot : Program → ℕ → Type 0
HasNoSlot p line =
    (r k : ℕ) × (routine : Routine) × (s : Stmt) × IsAt p r k routine s
    × ((n : Noted) × (depth : ℤ) × (w : ℕ) × Contains s.asserts n × (n.line.0 ≡ line) × DepthAt p r routine k depth
    × Contains (note_words (note_of n.note)) w × (depth <ℤ pos (2 * w)))

-- ---- All rules

-- no rule is broken
pub record IsStructured (p : Program) : Type 0 where
  pub jumps : (line : ℕ) → JumpsOut p line → ⊥
  pub falls : (line : ℕ) → FallsOff p line → ⊥
  pub calls : (line : ℕ) → CallsOut p line → ⊥
  pub recursion : (line : ℕ) → Recurs p line → ⊥
  pub computed : (line : ℕ) → Computes p line → ⊥
  pub pointer : (line : ℕ) → MovesPointer p line → ⊥
  pub reached : (line : ℕ) → IsUnreached p line → ⊥
  pub depths : (line : ℕ) (a b : ℤ) → DiffersInDepth p line a b → ⊥
  pub pops : (line : ℕ) → PopsReturn p line → ⊥
  pub over : (line : ℕ) → PassesDepth p line → ⊥
  pub slots : (line : ℕ) → HasNoSlot p line → ⊥
  pub cut : (line : ℕ) → IsUncut p line → ⊥
  pub start : (line : ℕ) → ReturnsInStart p line → ⊥
  pub code : (line : ℕ) → WritesCode p line → ⊥
