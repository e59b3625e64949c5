-- Small programs, written out. Each is a function of the lists or numbers in which it differs from its twins.
use Rattle.std.specs.Prelude.{ℕ, ◌<◌, ◌≤◌, Bool, true, false, List, [], ◌∷◌}
use Rattle.std.specs.List.{flat_map}
use Rattle.std.specs.FinMap as maps
use Rattle.sp_base.specs.Cells.{cells_at}
use Rattle.sp_base.specs.declared.location.Loc.{Loc}
use Rattle.sp_base.specs.declared.location.Loc.TheVariants as loc
use Rattle.sp_base.specs.declared.location.Reg.TheVariants as reg
use Rattle.sp_isa.specs.Code.{code}
use Rattle.sp_base.specs.declared.pair.Pair.TheVariants as pair
use Rattle.sp_isa.specs.declared.instr.Arg.TheVariants as arg
use Rattle.sp_isa.specs.declared.instr.StackPair.TheVariants as stack
use Rattle.sp_isa.specs.declared.instr.Instr.{Instr}
use Rattle.sp_isa.specs.declared.instr.Instr.TheVariants.{Mvi, Sta, In, Out, Push, Pop, Ret, Hlt, Jmp, Call, Lxi, Nop}
use Rattle.sp_model.specs.Good.{HasReturned, IsEntry, IsGood, IsGoodAt, IsReturnStep}
use Rattle.sp_model.specs.Note.{Note, Compare, Equal, Location, Pair, Cell, StackWord, Now, AtEntry, BC, Literal}
use Rattle.sp_examples.specs.States.{ready}
use Rattle.sp_model.specs.State.{State}
use Rattle.sp_model.specs.Unit.{Area, Listed, Stmt, Routine, Unit}

-- nothing is listed
abbrev pub nothing : Listed
nothing = record { locs = []; areas = [] }

-- A = n
abbrev pub a_is : ℕ → Note
a_is n = Compare Equal (Location Now loc.A) (Literal n)

-- mem[w] = 0
abbrev pub cell_is_zero : ℕ → Note
cell_is_zero w = Compare Equal (Cell Now (Literal w)) (Literal 0)

-- STKk = BC~
abbrev pub pushed_word : ℕ → Note
pushed_word k = Compare Equal (StackWord k) (Pair AtEntry BC)

-- an area of one cell
abbrev pub one_cell : ℕ → Area
one_cell a = record { name = []; address = a; len = 1 }

-- a routine at 100H without instructions, annotations, lists or stack
abbrev pub plain : Routine
plain = record {
  name = [];
  address = 0x100;
  start = false;
  pre = [];
  post = [];
  reads = nothing;
  changes = nothing;
  ins = [];
  outs = [];
  depth = 0;
  code = [];
}

-- an instruction at its address, without assertions
abbrev pub line : ℕ → Instr → Stmt
line a i = record { address = a; instr = i; asserts = [] }

-- the bytes of instructions, each with its address
abbrev pub bytes_of : List Stmt → List (ℕ × ℕ)
bytes_of = flat_map (λ i. cells_at i.address (code i.instr))

-- a program of these routines, with stack from 2300H to 23FFH
abbrev pub unit_of : List Routine → Unit
unit_of routines = record {
  image = maps.from_sorted (flat_map (λ r. bytes_of r.code) routines);
  first = 0x2300;
  last = 0x23FF;
  areas = [];
  routines = routines;
}

-- a program of one routine
abbrev pub alone : Routine → Unit
alone r = unit_of (r ∷ [])

-- the routine's bytes in memory, at its first instruction, with this stack pointer
abbrev pub entered : Routine → ℕ → State
entered r sp = ready (bytes_of r.code) 0x100 sp

-- a state is an entry of the routine alone
abbrev pub IsEntryOf : Routine → State → Type 0
IsEntryOf r s = IsEntry (alone r) r s

-- the run of the routine alone from a state is good through any number of steps
abbrev pub RunIsGood : Routine → State → Type 0
RunIsGood r s = (n : ℕ) → IsGood (alone r) r s n

-- STA w and RET, where some areas are listed as read and some as changed
abbrev pub store : ℕ → List Area → List Area → Routine
store w reads areas = record plain {
  reads = record { locs = []; areas = reads };
  changes = record { locs = []; areas = areas };
  code = line 0x100 (Sta w) ∷ line 0x103 Ret ∷ [];
}

-- an address of memory that is neither in the program of four bytes nor in the stack region
pub record IsFree (w : ℕ) : Type 0 where
  pub memory : w < 65536
  pub program : ¬ ((0x100 ≤ w) × (w < 0x104))
  pub stack : ¬ ((0x2300 ≤ w) × (w ≤ 0x23FF))

-- OUT 5 and RET, where these ports are listed
abbrev pub send : List ℕ → List ℕ → Routine
send ins outs = record plain { ins = ins; outs = outs; code = line 0x100 (Out 5) ∷ line 0x102 Ret ∷ [] }

-- IN 5 and RET, where these ports are listed, and A as changed
abbrev pub take : List ℕ → List ℕ → Routine
take ins outs = record plain {
  changes = record { locs = loc.A ∷ []; areas = [] };
  ins = ins;
  outs = outs;
  code = line 0x100 (In 5) ∷ line 0x102 Ret ∷ [];
}

-- MVI A,5 and RET, where some registers and flags are listed as read and some as changed, with these postconditions,
-- and these assertions at the RET
abbrev pub load : List Loc → List Loc → List Note → List Note → Routine
load reads locs post asserts = record plain {
  post = post;
  reads = record { locs = reads; areas = [] };
  changes = record { locs = locs; areas = [] };
  code = line 0x100 (Mvi (arg.Reg reg.A) 5) ∷ record { address = 0x102; instr = Ret; asserts = asserts } ∷ [];
}

-- PUSH B, POP B and RET, with this many bytes of stack and these assertions at the POP
abbrev pub push : ℕ → List Note → Routine
push depth asserts = record plain {
  depth = depth;
  code = line 0x100 (Push stack.B) ∷ record { address = 0x101; instr = Pop stack.B; asserts = asserts } ∷ line 0x102 Ret ∷ [];
}

-- STA w and HLT, as a start routine or as another, with this many bytes of stack
abbrev pub write : Bool → ℕ → ℕ → Routine
write start depth w = record plain { start = start; depth = depth; code = line 0x100 (Sta w) ∷ line 0x103 Hlt ∷ [] }

-- RET, with these preconditions and postconditions
abbrev pub guard : List Note → List Note → Routine
guard pre post = record plain { pre = pre; post = post; code = line 0x100 Ret ∷ [] }

-- one instruction
abbrev pub only : Instr → Routine
only i = record plain { code = line 0x100 i ∷ [] }

-- the state in which it begins, with SP 2380H
abbrev pub given : Instr → State
given i = entered (only i) 0x2380

-- what is claimed of t is true of the run of the instruction from s
abbrev pub IsGoodOf : Instr → State → State → Type 0
IsGoodOf i s t = IsGoodAt (alone (only i)) (only i) s t

-- the next step from t returns, for a run of the instruction that began in the given state
abbrev pub ReturnsAt : Instr → State → Type 0
ReturnsAt i t = IsReturnStep (alone (only i)) (only i) (given i) t

-- one instruction, as a start routine
abbrev pub begin : Instr → Routine
begin i = record (only i) { start = true }

-- RET, after which A is 9, where A and the cells 2000H and 2380H are listed as changed and port 5 for outputs, with two
-- bytes of stack
abbrev pub finish : Routine
finish = record (only Ret) {
  post = a_is 9 ∷ [];
  changes = record { locs = loc.A ∷ []; areas = one_cell 0x2000 ∷ one_cell 0x2380 ∷ [] };
  outs = 5 ∷ [];
  depth = 2;
}

-- t is what its return may leave, where s is the entry
abbrev pub MayLeave : State → State → Type 0
MayLeave s t = HasReturned (alone finish) finish s t

-- RET, where mem[w] = 0 is asserted
abbrev pub watch : ℕ → Routine
watch w = record plain { code = record { address = 0x100; instr = Ret; asserts = cell_is_zero w ∷ [] } ∷ [] }

-- JMP w
abbrev pub hop : ℕ → Routine
hop w = only (Jmp w)

-- RET at 110H, with these assertions
abbrev pub landing : List Note → Routine
landing asserts = record plain { address = 0x110; code = record { address = 0x110; instr = Ret; asserts = asserts } ∷ [] }

-- a program of both
abbrev pub hopping : ℕ → List Note → Unit
hopping w asserts = unit_of (hop w ∷ landing asserts ∷ [])

-- LXI B,w, PUSH B, RET and RET: the first RET goes on at w
abbrev pub far : ℕ → Routine
far w = record plain {
  changes = record { locs = loc.B ∷ loc.C ∷ []; areas = [] };
  depth = 2;
  code = line 0x100 (Lxi pair.B w) ∷ line 0x103 (Push stack.B) ∷ line 0x104 Ret ∷ line 0x105 Ret ∷ [];
}

-- NOP and these instructions
abbrev pub run_on : List Stmt → Routine
run_on rest = record plain { code = line 0x100 Nop ∷ rest }

-- LXI SP,2400H, CALL 100H and HLT at 110H, as a start routine with this many bytes of stack
abbrev pub caller : ℕ → Routine
caller depth = record plain {
  address = 0x110;
  start = true;
  depth = depth;
  code = line 0x110 (Lxi pair.Sp 0x2400) ∷ line 0x113 (Call 0x100) ∷ line 0x116 Hlt ∷ [];
}

-- a program of it, and of the routine at 100H that it calls
abbrev pub calling : ℕ → Unit
calling depth = unit_of (push 2 [] ∷ caller depth ∷ [])
