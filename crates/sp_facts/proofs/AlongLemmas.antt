-- A run that comes along a walk is executed on it.
use Rattle.std.proofs.Common.{◌≡◌, ◌⊎◌, inl, inr, ap, append-nil, ℕ, Bool, false, [], ◌∷◌, slice_get, Option, Some, None, subst, sym}
use Rattle.sp_base.specs.Image.{ImageMap}
use Rattle.sp_graph.specs.Routines.{callee_at}
use Rattle.sp_isa.specs.declared.instr.Instr.{Instr}
use Rattle.sp_isa.specs.declared.instr.Instr.TheVariants.{Ccc, Rcc}
use Rattle.sp_model.specs.Note.{Frame}
use Rattle.sp_model.specs.State.{State, step}
use Rattle.sp_prog.specs.declared.routine.Routine.{Routine}
use Rattle.sp_prog.specs.declared.routine.Stmt.{Stmt}
use Rattle.sp_trans.specs.Meaning.{Asks}
use Rattle.sp_cond.specs.Calls.{called_place}
use Rattle.sp_cond.specs.Execution.{Execution, called, gone_on, gone_by, stepped_by, executed}
use Rattle.sp_cond.specs.Start.{Setting}
use Rattle.sp_facts.specs.Along.{HasTakenStep, HasCalled, HasGoneBy, HasGone, RunsAreExecuted}
use Rattle.sp_facts.specs.Executions.{IsChoice, IsExecutionOf, bytes_of}
use Rattle.sp_facts.specs.Histories.{History, history, with_bytes}
use Rattle.sp_facts.specs.Theorems.{MayPass}
use Rattle.sp_facts.proofs.CallLemmas.{calls_go_on}
use Rattle.sp_facts.proofs.PassLemmas.{passes_go_on}
use Rattle.sp_facts.proofs.StepLemmas.{steps_go_on}

-- what is passed takes no byte
no_bytes : (i : Instr) (s : State) (h : History) → MayPass i → h ≡ with_bytes (bytes_of i s) h
no_bytes (Ccc w a) s h may = ap (λ taken. history h.entry h.start h.calls taken) (sym (append-nil h.taken))
no_bytes (Rcc w) s h may = ap (λ taken. history h.entry h.start h.calls taken) (sym (append-nil h.taken))
no_bytes _ s h may = absurd may

step_so :
    (image : ImageMap) (f : Frame) (i : Instr) (taken : Bool) (x : Execution) (h : History) (s : State) (after : History) (now : State)
    → HasTakenStep f i taken x h s after now → Asks f i x.state s.core ⊎ (MayPass i × (taken ≡ false)) → IsExecutionOf image f h s x
    → IsExecutionOf image f (with_bytes (bytes_of i s) h) (step s) (gone_on i taken x)
step_so image f i taken x h s after now w (inl asks) ex = steps_go_on image f h s x i w.size taken w.state w.running w.next asks w.choice ex
step_so image f i taken x h s after now w (inr passes) ex =
    let choice = subst (λ b. IsChoice i b s.core) passes.1 w.choice in
    subst (λ b. IsExecutionOf image f (with_bytes (bytes_of i s) h) (step s) (gone_on i b x)) (sym passes.1)
    (subst (λ k. IsExecutionOf image f k (step s) (gone_on i false x)) (no_bytes i s h passes.0)
    (passes_go_on.executed image f h s x i w.size w.state w.running w.next passes.0 choice ex))

one_step :
    (image : ImageMap) (f : Frame) (i : Instr) (taken : Bool) (x : Execution) (h : History) (s : State) (after : History) (now : State)
    → HasTakenStep f i taken x h s after now → IsExecutionOf image f h s x → IsExecutionOf image f after now (gone_on i taken x)
one_step image f i taken x h s after now w ex =
    subst (λ a. IsExecutionOf image f a now (gone_on i taken x)) (sym w.after_is)
    (subst (λ t. IsExecutionOf image f (with_bytes (bytes_of i s) h) t (gone_on i taken x)) (sym w.now_is)
    (step_so image f i taken x h s after now w w.asks ex))

one_call :
    (image : ImageMap) (u : Setting) (f : Frame) (i : Instr) (taken : Bool) (place : ℕ) (q : Routine) (x : Execution) (h : History) (s : State) (after : History) (now : State)
    → HasCalled image u f i taken q x h s after now → IsExecutionOf image f h s x → IsExecutionOf image f after now (called u i taken place q x)
one_call image u f i taken place q x h s after now w ex =
    subst (λ a. IsExecutionOf image f a now (called u i taken place q x)) (sym w.after_is)
    (calls_go_on image u f h s now x i taken place q w.state w.choice w.left w.post ex)

gone_so :
    (image : ImageMap) (u : Setting) (f : Frame) (i : Instr) (taken : Bool) (place : Option ℕ) (callee : Option Routine) (x : Execution) (h : History) (s : State) (after : History) (now : State)
    → HasGoneBy image u f i taken place callee x h s after now → IsExecutionOf image f h s x → IsExecutionOf image f after now (gone_by u i taken place callee x)
gone_so image u f i taken (Some place) (Some q) x h s after now w ex = one_call image u f i taken place q x h s after now w ex
gone_so image u f i taken (Some place) None x h s after now w ex = one_step image f i taken x h s after now w ex
gone_so image u f i taken None q x h s after now w ex = one_step image f i taken x h s after now w ex

one_more :
    (image : ImageMap) (u : Setting) (f : Frame) (o : Option Stmt) (taken : Bool) (x : Execution) (h : History) (s : State) (after : History) (now : State)
    → HasGone image u f o taken x h s after now → IsExecutionOf image f h s x → IsExecutionOf image f after now (stepped_by u o taken x)
one_more image u f None taken x h s after now w ex = absurd w
one_more image u f (Some st) taken x h s after now w ex =
    let place = called_place u.unit.routines st.instr taken in
    gone_so image u f st.instr taken place (callee_at u.unit.routines place) x h s after now w ex

pub runs_are_executed : RunsAreExecuted
runs_are_executed image u f from h0 s0 [] h now ex w =
    subst (λ a. IsExecutionOf image f a now (executed u from [])) (sym w.0)
    (subst (λ t. IsExecutionOf image f h0 t (executed u from [])) (sym w.1) ex)
runs_are_executed image u f from h0 s0 (one ∷ steps) h now ex w =
    one_more image u f (slice_get u.routine.code one.at) one.taken (executed u from steps) w.0 w.1 h now w.3
    (runs_are_executed image u f from h0 s0 steps w.0 w.1 ex w.2)
