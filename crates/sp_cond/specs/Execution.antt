-- The symbolic execution of a walk (this project's own).
use Rattle.std.specs.Prelude.{ℕ, ◌+◌, ◌-◌, Bool, true, false, List, [], ◌∷◌, ◌++◌, map, length, Option, None, Some, slice_get, if◌then◌else◌}
use Rattle.sp_base.specs.declared.location.Loc.{Loc}
use Rattle.sp_base.specs.declared.location.Loc.TheVariants as loc
use Rattle.sp_graph.specs.Routines.{callee_at}
use Rattle.sp_graph.specs.declared.walk.Step.{Step}
use Rattle.sp_isa.specs.declared.instr.Cond.{Cond}
use Rattle.sp_isa.specs.declared.instr.Cond.TheVariants as when
use Rattle.sp_isa.specs.declared.instr.Instr.{Instr}
use Rattle.sp_isa.specs.declared.instr.Instr.TheVariants.{Jcc, Ccc, Rcc, In}
use Rattle.sp_logic.specs.View.{note_of}
use Rattle.sp_prog.specs.declared.area.Area.{Area}
use Rattle.sp_prog.specs.declared.routine.Noted.{Noted}
use Rattle.sp_prog.specs.declared.routine.Routine.{Routine}
use Rattle.sp_prog.specs.declared.routine.Stmt.{Stmt}
use Rattle.sp_prog.specs.View.{listed_areas}
use Rattle.sp_term.specs.declared.var.Var.{Var}
use Rattle.sp_term.specs.declared.var.Var.TheVariants as var
use Rattle.sp_term.specs.Admissible.{Change}
use Rattle.sp_term.specs.Tree.{Tree, Variable, Equal}
use Rattle.sp_trans.specs.Formulas.{formula_of}
use Rattle.sp_trans.specs.Symbolic.{Symbolic, term_at, number}
use Rattle.sp_trans.specs.Translation.{applied}
use Rattle.sp_cond.specs.Calls.{called_place, after_call}
use Rattle.sp_cond.specs.Start.{Setting, entry_state, start_state, has_store}

-- ---- formulas

-- annotations as formulas over the entry's state and the present one
abbrev pub formulas_of : Symbolic → Symbolic → List Noted → List Tree
formulas_of entry now = map (λ (n : Noted). formula_of entry now (note_of n.note))

-- the condition of Jcc, Ccc and Rcc
abbrev pub condition_in : Instr → Option Cond
condition_in (Jcc when w) = Some when
condition_in (Ccc when w) = Some when
condition_in (Rcc when) = Some when
condition_in _ = None

-- the flag of a condition (8080 manual, "Jump instructions")
abbrev pub flag_of : Cond → Loc
flag_of when.Nz = loc.Z
flag_of when.Z = loc.Z
flag_of when.Nc = loc.Cy
flag_of when.C = loc.Cy
flag_of when.Po = loc.P
flag_of when.Pe = loc.P
flag_of when.P = loc.S
flag_of when.M = loc.S

-- whether the condition holds where its flag is 1, or where it is 0
abbrev pub asks_one : Cond → Bool
asks_one when.Nz = false
asks_one when.Z = true
asks_one when.Nc = false
asks_one when.C = true
asks_one when.Po = false
asks_one when.Pe = true
asks_one when.P = false
asks_one when.M = true

-- what the flag has where the choice is made so
abbrev pub flag_value : Cond → Bool → ℕ
flag_value when true = if asks_one when then 1 else 0
flag_value when false = if asks_one when then 0 else 1

-- the choice at an instruction as a formula, where it has one
abbrev pub choice_by : Option Cond → Bool → Symbolic → List Tree
choice_by None taken g = []
choice_by (Some when) taken g = Equal (term_at (flag_of when) g) (number (flag_value when taken)) ∷ []

abbrev pub choice : Instr → Bool → Symbolic → List Tree
choice i taken g = choice_by (condition_in i) taken g

-- ---- memories

-- the first and the last address of an area
abbrev pub span : Area → ℕ × ℕ
span area = (area.addr, area.addr + area.len - 1)

-- a memory variable that differs from an earlier memory in the listed areas alone
abbrev pub change : List Area → Var → Tree → List ℕ → Change
change areas variable earlier places = record { variable = variable; earlier = earlier; areas = map span (listed_areas areas places) }

-- a call changes memory where the callee lists an area
abbrev pub call_change : List Area → List ℕ → ℕ → Tree → List Change
call_change areas [] j earlier = []
call_change areas (place ∷ places) j earlier = change areas (var.MemAfter j) earlier (place ∷ places) ∷ []

-- ---- execution

-- a call on a walk: the place of the routine that was called, and the state before it
pub record Called : Type 0 where
  pub callee : ℕ
  pub before : Symbolic

-- What executing a walk so far gives: the state, the hypotheses in order, how the memory variables are related, the calls,
-- the newest first, and how many bytes were taken by IN.
pub record Execution : Type 0 where
  pub state : Symbolic
  pub hypotheses : List Tree
  pub changes : List Change
  pub calls : List Called
  pub inputs : ℕ

abbrev pub asserts_in : Option Stmt → List Noted
asserts_in None = []
asserts_in (Some s) = s.asserts

-- what is asserted where a walk starts
abbrev pub start_asserts : Setting → Option ℕ → List Noted
start_asserts u None = []
start_asserts u (Some at) = asserts_in (slice_get u.routine.code at)

-- from an assertion, memory may differ from that at the entry in the areas that the routine lists in `changes`
abbrev pub start_changes : Setting → Option ℕ → List Change
start_changes u None = []
start_changes u (Some at) =
    if has_store u then change u.unit.areas var.Mem (Variable var.MemEntry) u.routine.changes.areas ∷ [] else []

-- The start of a walk: the routine's preconditions hold on its entry, and what is asserted holds.
abbrev pub begun : Setting → Option ℕ → Execution
begun u from = record {
  state = start_state u from;
  hypotheses = formulas_of entry_state entry_state u.routine.pre ++ formulas_of entry_state (start_state u from) (start_asserts u from);
  changes = start_changes u from;
  calls = [];
  inputs = 0;
}

abbrev pub bytes_taken : Instr → ℕ
bytes_taken (In port) = 1
bytes_taken _ = 0

-- an instruction that calls nothing
abbrev pub gone_on : Instr → Bool → Execution → Execution
gone_on i taken x = record {
  state = applied i (x.inputs + 1) x.state;
  hypotheses = x.hypotheses ++ choice i taken x.state;
  changes = x.changes;
  calls = x.calls;
  inputs = x.inputs + bytes_taken i;
}

-- A whole call of a routine: its postconditions hold, with the state before the call as its entry.
abbrev pub called : Setting → Instr → Bool → ℕ → Routine → Execution → Execution
called u i taken place callee x =
    let j = length x.calls + 1 in
    record {
      state = after_call callee j x.state;
      hypotheses = (x.hypotheses ++ choice i taken x.state) ++ formulas_of x.state (after_call callee j x.state) callee.post;
      changes = x.changes ++ call_change u.unit.areas callee.changes.areas j x.state.memory;
      calls = record { callee = place; before = x.state } ∷ x.calls;
      inputs = x.inputs;
    }

abbrev pub gone_by : Setting → Instr → Bool → Option ℕ → Option Routine → Execution → Execution
gone_by u i taken (Some place) (Some callee) x = called u i taken place callee x
gone_by u i taken place callee x = gone_on i taken x

-- an instruction by a choice
abbrev pub gone : Setting → Instr → Bool → Execution → Execution
gone u i taken x =
    let place = called_place u.unit.routines i taken in
    gone_by u i taken place (callee_at u.unit.routines place) x

-- a step of the routine's code
abbrev pub stepped_by : Setting → Option Stmt → Bool → Execution → Execution
stepped_by u None taken x = x
stepped_by u (Some s) taken x = gone u s.instr taken x

abbrev pub stepped : Setting → Step → Execution → Execution
stepped u step x = stepped_by u (slice_get u.routine.code step.at) step.taken x

-- The execution of the steps of a walk from a cut point, the last step first.
abbrev pub executed : Setting → Option ℕ → List Step → Execution
executed u from [] = begun u from
executed u from (step ∷ steps) = stepped u step (executed u from steps)
