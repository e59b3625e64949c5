-- Where instructions go on, by example (this project's own).
use Rattle.std.specs.Prelude.{◌≡◌, ℕ, false, List, [], ◌∷◌, None, Some, codes}
use Rattle.sp_base.specs.Locs.{none}
use Rattle.sp_graph.specs.Successors.{place_of, routine_at, successors, first_before, AreBefore}
use Rattle.sp_isa.specs.declared.instr.Cond.TheVariants as when
use Rattle.sp_isa.specs.declared.instr.Instr.{Instr}
use Rattle.sp_isa.specs.declared.instr.Instr.TheVariants.{Jmp, Jcc, Call, Ccc, Ret, Rcc, Rst, Pchl, Nop, Hlt}
use Rattle.sp_prog.specs.declared.routine.Lists.{Lists}
use Rattle.sp_prog.specs.declared.routine.Noted.{Noted}
use Rattle.sp_prog.specs.declared.routine.Routine.{Routine}
use Rattle.sp_prog.specs.declared.routine.Stmt.{Stmt}

-- an instruction at an address, with these assertions
abbrev pub stmt : ℕ → Instr → List Noted → Stmt
stmt address i asserts = record { line = record { 0 = 6 }; addr = address; instr = i; asserts = asserts }

-- an instruction at 0, in the room of three bytes, then NOP at 3 and RET at 4
abbrev pub code : Instr → List Noted → List Stmt
code i asserts = stmt 0 i asserts ∷ stmt 3 Nop [] ∷ stmt 4 Ret [] ∷ []

abbrev pub lists : Lists
lists = record { locs = none; areas = [] }

-- a routine with these preconditions and instructions
abbrev pub routine : List Noted → List Stmt → Routine
routine pre stmts = record {
  name = codes "R";
  line = record { 0 = 2 };
  start = false;
  pre = pre;
  post = [];
  reads = lists;
  changes = lists;
  ins = [];
  outs = [];
  depth = 2;
  code = stmts;
}

-- one routine at 0 and one at 8
abbrev pub routines : Instr → List Noted → List Noted → List Routine
routines i asserts pre = routine [] (code i asserts) ∷ routine pre (stmt 8 Ret [] ∷ []) ∷ []

-- a jump goes to its target, one with a condition to the next instruction too; calls and returns with a condition go on at the
-- next one, RET and HLT nowhere; what no instruction of the routine begins at isn't listed
pub record SuccessorsByExample : Type 0 where
  pub next : successors (code Nop []) 0 ≡ 1 ∷ []
  pub jump : successors (code (Jmp 4) []) 0 ≡ 2 ∷ []
  pub jump_to_itself : successors (code (Jmp 0) []) 0 ≡ 0 ∷ []
  pub jump_out : successors (code (Jmp 2) []) 0 ≡ []
  pub jump_if : successors (code (Jcc when.Z 4) []) 0 ≡ 1 ∷ 2 ∷ []
  pub jump_back_if : successors (code (Jcc when.Z 0) []) 0 ≡ 1 ∷ 0 ∷ []
  pub jump_on_if : successors (code (Jcc when.Z 3) []) 0 ≡ 1 ∷ 1 ∷ []
  pub jump_out_if : successors (code (Jcc when.Z 5) []) 0 ≡ 1 ∷ []
  pub call : successors (code (Call 4) []) 0 ≡ 1 ∷ []
  pub call_if : successors (code (Ccc when.Z 4) []) 0 ≡ 1 ∷ []
  pub restart : successors (code (Rst 0) []) 0 ≡ 1 ∷ []
  pub return_if : successors (code (Rcc when.Z) []) 0 ≡ 1 ∷ []
  pub computed : successors (code Pchl []) 0 ≡ 1 ∷ []
  pub return : successors (code Ret []) 0 ≡ []
  pub halt : successors (code Hlt []) 0 ≡ []
  pub second : successors (code Nop []) 1 ≡ 2 ∷ []
  pub last : successors (stmt 0 Nop [] ∷ []) 0 ≡ []
  pub last_if : successors (stmt 0 (Jcc when.Z 0) [] ∷ []) 0 ≡ 0 ∷ []
  pub past : successors (code Nop []) 3 ≡ []

-- which instruction stands at an address, and which routine begins there
pub record PlacesByExample : Type 0 where
  pub first : place_of (code Nop []) 0 ≡ Some 0
  pub third : place_of (code Nop []) 4 ≡ Some 2
  pub inside : place_of (code Nop []) 1 ≡ None
  pub past : place_of (code Nop []) 5 ≡ None
  pub own : routine_at (routines Nop [] []) 0 ≡ Some 0
  pub other : routine_at (routines Nop [] []) 8 ≡ Some 1
  pub within : routine_at (routines Nop [] []) 3 ≡ None

-- the instructions before each one stand in rising order, each once
pub record BeforeByExample : Type 0 where
  pub none_before : first_before (code (Jcc when.Z 4) []) 3 0 ≡ []
  pub one_before : first_before (code (Jcc when.Z 4) []) 3 1 ≡ 0 ∷ []
  pub two_before : first_before (code (Jcc when.Z 4) []) 3 2 ≡ 0 ∷ 1 ∷ []
  pub once : first_before (code (Jcc when.Z 3) []) 3 1 ≡ 0 ∷ []
  pub itself : first_before (code (Jmp 0) []) 3 0 ≡ 0 ∷ []
  pub among_the_first : first_before (code (Jcc when.Z 4) []) 1 2 ≡ 0 ∷ []

-- the lists of the instructions before each one are one
pub record BeforeIsOne : Type 0 where
  pub one : (stmts : List Stmt) (x y : List (List ℕ)) → AreBefore stmts x → AreBefore stmts y → x ≡ y
