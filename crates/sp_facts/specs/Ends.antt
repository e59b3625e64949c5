-- What a condition that is true in all admissible environments gives of a run, by the end of its walk.
use Rattle.std.specs.Prelude.{◌≡◌, ℕ, ◌+◌, ◌-◌, ◌≤◌, Bool, true, false, All, List, length, Contains, Some, ⊤}
use Rattle.sp_base.specs.declared.location.Loc.{Loc}
use Rattle.sp_base.specs.Image.{ImageMap}
use Rattle.sp_base.specs.Locs.{has}
use Rattle.sp_graph.specs.declared.graph.End.{End}
use Rattle.sp_graph.specs.declared.graph.End.TheVariants as end
use Rattle.sp_isa.specs.Core.{Core, at}
use Rattle.sp_isa.specs.declared.instr.Instr.{Instr}
use Rattle.sp_logic.specs.View.{note_of}
use Rattle.sp_model.specs.Note.{Frame, Holds, IsClosed}
use Rattle.sp_model.specs.State.{State, IsState}
use Rattle.sp_prog.specs.declared.area.Area.{Area}
use Rattle.sp_prog.specs.declared.routine.Noted.{Noted}
use Rattle.sp_prog.specs.declared.routine.Stmt.{Stmt}
use Rattle.sp_prog.specs.View.{listed_areas}
use Rattle.sp_term.specs.Admissible.{IsValid}
use Rattle.sp_trans.specs.Formulas.{NoteFits}
use Rattle.sp_trans.specs.Meaning.{Gives}
use Rattle.sp_cond.specs.Calls.{callee_of}
use Rattle.sp_cond.specs.Conclusions.{accessed, permitted, pre_of}
use Rattle.sp_cond.specs.Execution.{Execution}
use Rattle.sp_cond.specs.Start.{Setting}
use Rattle.sp_cond.specs.WalkConditions.{concluded, ends_taken}
use Rattle.sp_facts.specs.Executions.{IsExecutionOf, IsChoice}
use Rattle.sp_facts.specs.Histories.{History, env_of}
use Rattle.sp_facts.specs.Theorems.{IsHistory, HasImageApart, region}

-- where a walk ends at a call or a return, the flags take it
abbrev pub IsTakenBy : Bool → Instr → Core → Type 0
IsTakenBy true i core = IsChoice i true core
IsTakenBy false i core = ⊤

-- A run has come to an instruction along a walk, the walk ends there, and its condition is true in all admissible environments.
pub record IsAtEnd (image : ImageMap) (u : Setting) (f : Frame) (h : History) (now : State) (x : Execution) (ends : End) (s : Stmt) : Type 0 where
  pub history_is : IsHistory h
  pub image_is : HasImageApart image f h.entry
  pub state : IsState now
  pub execution : IsExecutionOf image f h now x
  pub chosen : IsTakenBy (ends_taken ends) s.instr now.core
  pub valid : IsValid image (region f) (concluded u ends (Some s) x)

-- annotations that formulas can stand for, with so many words on the stack
abbrev pub FitNotes : ℕ → List Noted → Type 0
FitNotes words notes = All (λ n. IsClosed (note_of n.note) × NoteFits words (note_of n.note)) notes

-- annotations are true between two states
abbrev pub HoldAll : Frame → List Noted → State → State → Type 0
HoldAll f notes s t = All (λ n. Holds f (note_of n.note) s t) notes

-- at an assertion its clauses are true
abbrev pub AssertionsHold : Type 0
AssertionsHold =
    (image : ImageMap) (u : Setting) (f : Frame) (h : History) (now : State) (x : Execution) (s : Stmt)
    → IsAtEnd image u f h now x end.Assert s → FitNotes (length x.state.slots) s.asserts → HoldAll f s.asserts h.entry now

-- before a call that is taken the callee's preconditions are true
abbrev pub CalleesAreEntered : Type 0
CalleesAreEntered =
    (image : ImageMap) (u : Setting) (f : Frame) (h : History) (now : State) (x : Execution) (s : Stmt)
    → IsAtEnd image u f h now x end.Call s → FitNotes (length x.state.slots) (pre_of (callee_of u.unit.routines s.instr))
    → HoldAll f (pre_of (callee_of u.unit.routines s.instr)) now now

-- at a return the postconditions are true, and what the routine doesn't list is as at the entry
pub record HasKeptItsWord (u : Setting) (f : Frame) (entry now : State) : Type 0 where
  pub post : HoldAll f u.routine.post entry now
  pub unlisted : (x : Loc) → has x u.routine.changes.locs ≡ false → at x now.core ≡ at x entry.core

abbrev pub ReturnsKeepTheirWord : Type 0
ReturnsKeepTheirWord =
    (image : ImageMap) (u : Setting) (f : Frame) (h : History) (now : State) (x : Execution) (s : Stmt)
    → IsAtEnd image u f h now x end.Return s → FitNotes (length x.state.slots) u.routine.post → HasKeptItsWord u f h.entry now

-- an address in an area
abbrev pub IsInArea : ℕ → Area → Type 0
IsInArea a area = (area.addr ≤ a) × (a ≤ area.addr + area.len - 1)

-- at an access the address lies in an area that the routine permits
abbrev pub AccessesArePermitted : Type 0
AccessesArePermitted =
    (image : ImageMap) (u : Setting) (f : Frame) (h : History) (now : State) (x : Execution) (s : Stmt) (a : ℕ)
    → IsAtEnd image u f h now x end.Access s → Gives (env_of f h) (accessed s.instr x.state) a
    → (area : Area) × Contains (listed_areas u.unit.areas (permitted u.routine s.instr)) area × IsInArea a area
