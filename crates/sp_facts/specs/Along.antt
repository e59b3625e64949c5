-- A run beside the steps of a walk (this project's own).
use Rattle.std.specs.Prelude.{◌≡◌, ◌⊎◌, ℕ, Bool, false, All, List, [], ◌∷◌, length, slice_get, Option, None, Some}
use Rattle.sp_base.specs.Image.{ImageMap}
use Rattle.sp_graph.specs.Routines.{callee_at}
use Rattle.sp_graph.specs.declared.walk.Step.{Step}
use Rattle.sp_isa.specs.declared.instr.Instr.{Instr}
use Rattle.sp_model.specs.Note.{Frame}
use Rattle.sp_model.specs.State.{State, IsState, next_instr, step}
use Rattle.sp_prog.specs.declared.routine.Routine.{Routine}
use Rattle.sp_prog.specs.declared.routine.Stmt.{Stmt}
use Rattle.sp_trans.specs.Meaning.{Asks}
use Rattle.sp_cond.specs.Calls.{called_place}
use Rattle.sp_cond.specs.Execution.{Execution, begun, executed}
use Rattle.sp_cond.specs.Start.{Setting}
use Rattle.sp_facts.specs.Executions.{IsExecutionOf, IsChoice, bytes_of}
use Rattle.sp_facts.specs.Histories.{History, with_call, with_bytes}
use Rattle.sp_facts.specs.Theorems.{HasLeft, IsTrueBetween, MayPass}

-- the run has taken a step of an instruction that calls nothing: what translation asks is met, or it is a call or a return
-- that isn't taken
pub record HasTakenStep (f : Frame) (i : Instr) (taken : Bool) (x : Execution) (h : History) (s : State) (after : History) (now : State) : Type 0 where
  pub state : IsState s
  pub running : s.core.halted ≡ false
  pub size : ℕ
  pub next : next_instr s.core ≡ Some (i, size)
  pub asks : Asks f i x.state s.core ⊎ (MayPass i × (taken ≡ false))
  pub choice : IsChoice i taken s.core
  pub after_is : after ≡ with_bytes (bytes_of i s) h
  pub now_is : now ≡ step s

-- the run has come through a whole call
pub record HasCalled (image : ImageMap) (u : Setting) (f : Frame) (i : Instr) (taken : Bool) (callee : Routine) (x : Execution) (h : History) (s : State) (after : History) (now : State) : Type 0 where
  pub state : IsState s
  pub choice : IsChoice i taken s.core
  pub left : HasLeft image u f callee (length x.state.slots) s now
  pub post : All (IsTrueBetween f (length x.state.slots) s now) callee.post
  pub after_is : after ≡ with_call now h

-- the one where the instruction calls a routine by the choice, else the other
abbrev pub HasGoneBy : ImageMap → Setting → Frame → Instr → Bool → Option ℕ → Option Routine → Execution → History → State → History → State → Type 0
HasGoneBy image u f i taken (Some place) (Some callee) x h s after now = HasCalled image u f i taken callee x h s after now
HasGoneBy image u f i taken place callee x h s after now = HasTakenStep f i taken x h s after now

abbrev pub HasGone : ImageMap → Setting → Frame → Option Stmt → Bool → Execution → History → State → History → State → Type 0
HasGone image u f None taken x h s after now = ⊥
HasGone image u f (Some st) taken x h s after now =
    let place = called_place u.unit.routines st.instr taken in
    HasGoneBy image u f st.instr taken place (callee_at u.unit.routines place) x h s after now

-- The run has come from where the walk starts along these steps of it, the last step first.
abbrev pub HasComeAlong : ImageMap → Setting → Frame → Option ℕ → History → State → List Step → History → State → Type 0
HasComeAlong image u f from h0 s0 [] h now = (h ≡ h0) × (now ≡ s0)
HasComeAlong image u f from h0 s0 (one ∷ steps) h now =
    (before : History) × (s : State) × HasComeAlong image u f from h0 s0 steps before s
    × HasGone image u f (slice_get u.routine.code one.at) one.taken (executed u from steps) before s h now

-- where the empty walk is executed, each walk is along which the run comes
abbrev pub RunsAreExecuted : Type 0
RunsAreExecuted =
    (image : ImageMap) (u : Setting) (f : Frame) (from : Option ℕ) (h0 : History) (s0 : State) (steps : List Step) (h : History) (now : State)
    → IsExecutionOf image f h0 s0 (begun u from) → HasComeAlong image u f from h0 s0 steps h now
    → IsExecutionOf image f h now (executed u from steps)
