-- Conditions by example: what differs in one thing has another condition.
use Rattle.std.specs.Prelude.{◌≡◌, ℕ, true, false, List, [], ◌∷◌, codes, Option, Some, None}
use Rattle.std.specs.FinMap as maps
use Rattle.sp_base.specs.declared.line.Line.{Line}
use Rattle.sp_base.specs.declared.location.Loc.{Loc}
use Rattle.sp_base.specs.declared.location.Loc.TheVariants as loc
use Rattle.sp_base.specs.declared.location.Reg.TheVariants as reg
use Rattle.sp_base.specs.declared.locs.Locs.{Locs}
use Rattle.sp_base.specs.declared.pair.Pair.TheVariants as pair
use Rattle.sp_base.specs.Locs.{none, only}
use Rattle.sp_graph.specs.declared.graph.End.{End}
use Rattle.sp_graph.specs.declared.graph.End.TheVariants as end
use Rattle.sp_graph.specs.declared.walk.Step.{Step}
use Rattle.sp_graph.specs.declared.walk.Walk.{Walk}
use Rattle.sp_isa.specs.declared.instr.Arg.TheVariants as arg
use Rattle.sp_isa.specs.declared.instr.Cond.TheVariants as when
use Rattle.sp_isa.specs.declared.instr.Instr.{Instr}
use Rattle.sp_isa.specs.declared.instr.Instr.TheVariants.{Mov, Mvi, Dcr, Sta, Lda, Stax, Ldax, In, Jmp, Jcc, Call, Ccc, Ret, Rcc, Rst, Nop}
use Rattle.sp_logic.specs.declared.note.Comparison.TheVariants as comparison
use Rattle.sp_logic.specs.declared.note.Moment.TheVariants as moment
use Rattle.sp_logic.specs.declared.note.Note.TheVariants as note
use Rattle.sp_logic.specs.declared.note.Quantity.TheVariants as quantity
use Rattle.sp_prog.specs.declared.area.Area.{Area}
use Rattle.sp_prog.specs.declared.area.AreaKind.TheVariants as kind
use Rattle.sp_prog.specs.declared.routine.Lists.{Lists}
use Rattle.sp_prog.specs.declared.routine.Noted.{Noted}
use Rattle.sp_prog.specs.declared.routine.Routine.{Routine}
use Rattle.sp_prog.specs.declared.routine.Stmt.{Stmt}
use Rattle.sp_prog.specs.Program.{Program}
use Rattle.sp_term.specs.declared.var.Var.TheVariants as var
use Rattle.sp_term.specs.Admissible.{Condition}
use Rattle.sp_term.specs.Tree.{Tree, Truth, Variable, Equal, LessOrEqual, And, Or}
use Rattle.sp_trans.specs.Symbolic.{Word, Symbolic, number, pair_term}
use Rattle.sp_cond.specs.Start.{Setting, entry_state, start_state}
use Rattle.sp_cond.specs.Execution.{Execution, choice, executed}
use Rattle.sp_cond.specs.Conclusions.{in_areas, access_goals}
use Rattle.sp_cond.specs.WalkConditions.{condition_in}

-- ---- programs

abbrev pub at : ℕ → Line
at line = record { 0 = line }

abbrev pub entry : Loc → Tree
entry x = Variable (var.Entry x)

abbrev pub start : Loc → Tree
start x = Variable (var.Now x)

-- an annotation that compares a location with a number
abbrev pub is : Loc → ℕ → Noted
is x n = record { line = at 1; note = note.Compare comparison.Equal (quantity.Location moment.Now x) (quantity.Literal n) }

abbrev pub stmt : ℕ → Instr → List Noted → Stmt
stmt addr i asserts = record { line = at addr; addr = addr; instr = i; asserts = asserts }

abbrev pub lists : Locs → List ℕ → Lists
lists locs areas = record { locs = locs; areas = areas }

-- a routine with a precondition A = 1 and a postcondition A = 2
abbrev pub routine : Locs → List ℕ → List ℕ → List Stmt → Routine
routine changed read written code = record {
  name = codes "MAIN";
  line = at 1;
  start = false;
  pre = is loc.A 1 ∷ [];
  post = is loc.A 2 ∷ [];
  reads = lists none read;
  changes = lists changed written;
  ins = [];
  outs = [];
  depth = 8;
  code = code;
}

-- all locations but CY
abbrev pub all_but_carry : Locs
all_but_carry = record { 0 = 2047 }

-- a callee at 100, with the precondition A = 1 and the postcondition A = 2
abbrev pub callee : Locs → List ℕ → Routine
callee changed written = routine changed [] written (stmt 100 Ret [] ∷ [])

abbrev pub area : ℕ → ℕ → Area
area addr len = record { name = codes "AREA"; kind = kind.Bytes; addr = addr; len = len }

-- areas at 2000, 2100 and 2200 hexadecimal
abbrev pub areas : List Area
areas = area 0x2000 16 ∷ area 0x2100 1 ∷ area 0x2200 2 ∷ []

-- the setting of a routine beside that callee, with a depth of 4 at its second instruction
abbrev pub setting : Routine → Routine → Setting
setting called r = record {
  unit = record { image = maps.empty; first = 0x2300; last = 0x23FF; areas = areas; routines = r ∷ called ∷ [] };
  routine = r;
  depths = 0 ∷ 4 ∷ 0 ∷ 0 ∷ [];
}

abbrev pub step : ℕ → Step
step place = record { at = place; taken = false }

abbrev pub step_taken : ℕ → Step
step_taken place = record { at = place; taken = true }

abbrev pub walk : Option ℕ → List Step → End → ℕ → Walk
walk from steps e place = record { from = from; steps = steps; end = e; at = place }

-- ---- choices

-- each condition is one on its flag, and on the other value where it isn't taken; other instructions make no choice
pub record ChoicesAreFormulas (g : Symbolic) : Type 0 where
  pub nz : choice (Jcc when.Nz 5) true g ≡ Equal g.z (number 0) ∷ []
  pub z : choice (Jcc when.Z 5) true g ≡ Equal g.z (number 1) ∷ []
  pub not_z : choice (Jcc when.Z 5) false g ≡ Equal g.z (number 0) ∷ []
  pub nc : choice (Ccc when.Nc 5) true g ≡ Equal g.cy (number 0) ∷ []
  pub c : choice (Ccc when.C 5) true g ≡ Equal g.cy (number 1) ∷ []
  pub not_nc : choice (Ccc when.Nc 5) false g ≡ Equal g.cy (number 1) ∷ []
  pub po : choice (Rcc when.Po) true g ≡ Equal g.p (number 0) ∷ []
  pub pe : choice (Rcc when.Pe) true g ≡ Equal g.p (number 1) ∷ []
  pub plus : choice (Rcc when.P) true g ≡ Equal g.s (number 0) ∷ []
  pub minus : choice (Rcc when.M) true g ≡ Equal g.s (number 1) ∷ []
  pub jump : choice (Jmp 5) true g ≡ []
  pub call : choice (Call 5) true g ≡ []

-- ---- starts

-- code whose second instruction is asserted
abbrev pub asserted : Instr → Routine
asserted i = routine all_but_carry (1 ∷ []) (0 ∷ []) (stmt 0 i [] ∷ stmt 3 Nop (is loc.B 3 ∷ []) ∷ stmt 4 Ret [] ∷ [])

abbrev pub from_assertion : Instr → Symbolic
from_assertion i = start_state (setting (callee (only loc.C) (2 ∷ [])) (asserted i)) (Some 1)

abbrev pub word : ℕ → Word
word k = record { high = Variable (var.SlotHigh k); low = Variable (var.SlotLow k) }

-- From an assertion what an instruction sets is fresh, what it stores, and what a routine lists that is called, or would be;
-- a word on the stack stands for two bytes of depth. From the entry nothing is fresh.
pub record StartsAreFresh : Type 0 where
  pub set : (from_assertion (Mvi (arg.Reg reg.B) 5)).b ≡ start loc.B
  pub unset : (from_assertion (Mvi (arg.Reg reg.B) 5)).c ≡ entry loc.C
  pub stored : (from_assertion (Sta 0x2000)).memory ≡ Variable var.Mem
  pub loaded : (from_assertion (Lda 0x2000)).memory ≡ Variable var.MemEntry
  pub called : (from_assertion (Ccc when.Z 100)).c ≡ start loc.C
  pub called_stores : (from_assertion (Call 100)).memory ≡ Variable var.Mem
  pub called_leaves : (from_assertion (Call 100)).b ≡ entry loc.B
  pub no_routine : (from_assertion (Call 101)).c ≡ entry loc.C
  pub words : (from_assertion Nop).slots ≡ word 2 ∷ word 1 ∷ []
  pub entry : start_state (setting (callee (only loc.C) []) (asserted (Mvi (arg.Reg reg.B) 5))) None ≡ entry_state

-- ---- walks

-- after MVI A,5 and RET the postcondition and what isn't listed are owed; of RNZ and RZ the choice is a hypothesis
abbrev pub five : Instr → Routine
five i = routine all_but_carry [] [] (stmt 0 (Mvi (arg.Reg reg.A) 5) [] ∷ stmt 2 i [] ∷ [])

abbrev pub returned : Instr → Condition
returned i = condition_in (setting (callee none []) (five i)) (walk None (step 0 ∷ []) end.Return 1)

abbrev pub five_goals : List Tree
five_goals = Equal (number 5) (number 2) ∷ Equal (entry loc.Cy) (entry loc.Cy) ∷ []

pub record ReturnsOwe : Type 0 where
  pub plain : returned Ret ≡ record { hypotheses = Equal (entry loc.A) (number 1) ∷ []; goals = five_goals; changes = [] }
  pub conditional : returned (Rcc when.Nz) ≡ record {
    hypotheses = Equal (entry loc.A) (number 1) ∷ Equal (entry loc.Z) (number 0) ∷ [];
    goals = five_goals;
    changes = [];
  }

-- at an assertion its clauses are owed and no more
pub record AssertionsOwe : Type 0 where
  pub clauses : condition_in (setting (callee none []) (asserted Nop)) (walk None (step 0 ∷ []) end.Assert 1)
      ≡ record { hypotheses = Equal (entry loc.A) (number 1) ∷ []; goals = Equal (entry loc.B) (number 3) ∷ []; changes = [] }
  pub from_there : (condition_in (setting (callee none []) (asserted (Dcr (arg.Reg reg.B)))) (walk (Some 1) (step 1 ∷ []) end.Return 2)).hypotheses
      ≡ Equal (entry loc.A) (number 1) ∷ Equal (start loc.B) (number 3) ∷ []
  pub memory : (condition_in (setting (callee none []) (asserted (Sta 0x2000))) (walk (Some 1) (step 1 ∷ []) end.Return 2)).changes
      ≡ record { variable = var.Mem; earlier = Variable var.MemEntry; areas = (0x2000, 0x200F) ∷ [] } ∷ []
  pub no_store : (condition_in (setting (callee none []) (asserted (Lda 0x2000))) (walk (Some 1) (step 1 ∷ []) end.Return 2)).changes ≡ []

-- ---- calls

-- a routine that calls the callee on its first two instructions, the second time where CY is 1
abbrev pub calling : Routine
calling = routine all_but_carry [] (0 ∷ []) (stmt 0 (Call 100) [] ∷ stmt 3 (Ccc when.C 100) [] ∷ stmt 6 Ret [] ∷ [])

abbrev pub called_once : Routine → Execution
called_once q = executed (setting q calling) None (step 0 ∷ [])

abbrev pub called_twice : Routine → Execution
called_twice q = executed (setting q calling) None (step_taken 1 ∷ step 0 ∷ [])

-- a call that isn't taken
abbrev pub passed : Routine → Execution
passed q = executed (setting q calling) None (step 1 ∷ step 0 ∷ [])

-- After a call what the callee lists is fresh, with the number of the call, and its postcondition holds. What it doesn't list
-- stays.
pub record CallsAreFresh : Type 0 where
  pub listed : (called_once (callee (only loc.A) [])).state.a ≡ Variable (var.After loc.A 1)
  pub unlisted : (called_once (callee (only loc.A) [])).state.b ≡ entry loc.B
  pub memory : (called_once (callee (only loc.A) [])).state.memory ≡ Variable var.MemEntry
  pub area : (called_once (callee (only loc.A) (2 ∷ []))).state.memory ≡ Variable (var.MemAfter 1)
  pub post : (called_once (callee (only loc.A) [])).hypotheses ≡ Equal (entry loc.A) (number 1) ∷ Equal (Variable (var.After loc.A 1)) (number 2) ∷ []
  pub change : (called_once (callee none (2 ∷ 1 ∷ []))).changes
      ≡ record { variable = var.MemAfter 1; earlier = Variable var.MemEntry; areas = (0x2200, 0x2201) ∷ (0x2100, 0x2100) ∷ [] } ∷ []
  pub no_area : (called_once (callee (only loc.A) [])).changes ≡ []
  pub second : (called_twice (callee (only loc.A) [])).state.a ≡ Variable (var.After loc.A 2)
  pub choice : (called_twice (callee (only loc.A) [])).hypotheses ≡ Equal (entry loc.A) (number 1)
      ∷ Equal (Variable (var.After loc.A 1)) (number 2) ∷ Equal (entry loc.Cy) (number 1) ∷ Equal (Variable (var.After loc.A 2)) (number 2) ∷ []
  pub not_taken : (passed (callee (only loc.A) [])).hypotheses
      ≡ Equal (entry loc.A) (number 1) ∷ Equal (Variable (var.After loc.A 1)) (number 2) ∷ Equal (entry loc.Cy) (number 0) ∷ []
  pub not_taken_state : (passed (callee (only loc.A) [])).state.a ≡ Variable (var.After loc.A 1)
  pub owed : condition_in (setting (callee (only loc.A) []) calling) (walk None (step 0 ∷ []) end.Call 1) ≡ record {
    hypotheses = Equal (entry loc.A) (number 1) ∷ Equal (Variable (var.After loc.A 1)) (number 2) ∷ Equal (entry loc.Cy) (number 1) ∷ [];
    goals = Equal (Variable (var.After loc.A 1)) (number 1) ∷ [];
    changes = [];
  }
  pub calls : (called_twice (callee (only loc.A) [])).calls
      ≡ record { callee = 1; before = (called_once (callee (only loc.A) [])).state } ∷ record { callee = 1; before = entry_state } ∷ []

-- ---- inputs

abbrev pub reading : Routine
reading = routine all_but_carry [] [] (stmt 0 (In 1) [] ∷ stmt 2 (Mov (arg.Reg reg.B) (arg.Reg reg.A)) [] ∷ stmt 3 (In 1) [] ∷ [])

-- each IN has a number of its own
pub record InputsAreNumbered : Type 0 where
  pub first : (executed (setting (callee none []) reading) None (step 1 ∷ step 0 ∷ [])).state.b ≡ Variable (var.In 1)
  pub second : (executed (setting (callee none []) reading) None (step 2 ∷ step 1 ∷ step 0 ∷ [])).state.a ≡ Variable (var.In 2)
  pub earlier : (executed (setting (callee none []) reading) None (step 2 ∷ step 1 ∷ step 0 ∷ [])).state.b ≡ Variable (var.In 1)

-- ---- accesses

-- the address lies in an area
abbrev pub between : Tree → ℕ → ℕ → Tree
between t first last = And (LessOrEqual (number first) t) (LessOrEqual t (number last))

-- a load may touch what is read and what is changed, each area once; a store what is changed; without areas nothing is allowed
abbrev pub owed : List ℕ → List ℕ → Instr → Symbolic → List Tree
owed read written i g = access_goals (setting (callee none []) (routine none read written [])) i g

pub record AccessesOwe (g : Symbolic) (t : Tree) : Type 0 where
  pub load : owed (1 ∷ []) (0 ∷ []) (Mov (arg.Reg reg.A) arg.M) g ≡ in_areas (pair_term pair.H g) (area 0x2100 1 ∷ area 0x2000 16 ∷ []) ∷ []
  pub once : owed (1 ∷ 0 ∷ []) (0 ∷ 1 ∷ []) (Ldax pair.B) g ≡ in_areas (pair_term pair.B g) (area 0x2100 1 ∷ area 0x2000 16 ∷ []) ∷ []
  pub store : owed (1 ∷ []) (0 ∷ []) (Mov arg.M (arg.Reg reg.A)) g ≡ in_areas (pair_term pair.H g) (area 0x2000 16 ∷ []) ∷ []
  pub both : owed (1 ∷ []) (0 ∷ []) (Dcr arg.M) g ≡ in_areas (pair_term pair.H g) (area 0x2000 16 ∷ []) ∷ []
  pub at_pair : owed [] (0 ∷ []) (Stax pair.D) g ≡ in_areas (pair_term pair.D g) (area 0x2000 16 ∷ []) ∷ []
  pub none : in_areas t [] ≡ Truth false
  pub one : in_areas t (area 0x2000 16 ∷ []) ≡ between t 0x2000 0x200F
  pub three : in_areas t areas ≡ Or (between t 0x2000 0x200F) (Or (between t 0x2100 0x2100) (between t 0x2200 0x2201))

pub record ConditionsByExample : Type 0 where
  pub choices : (g : Symbolic) → ChoicesAreFormulas g
  pub starts : StartsAreFresh
  pub returns : ReturnsOwe
  pub assertions : AssertionsOwe
  pub calls : CallsAreFresh
  pub inputs : InputsAreNumbered
  pub accesses : (g : Symbolic) (t : Tree) → AccessesOwe g t
