-- A call or a return that isn't taken is passed.
use Rattle.std.proofs.Common.{◌≡◌, ℕ, ◌+◌, false, cond, ◌++◌, Option, Some, length, refl, sym, ap, subst, arith}
use Rattle.std.proofs.lemmas.List.{append-nil}
use Rattle.sp_base.specs.Image.{ImageMap}
use Rattle.sp_isa.specs.declared.instr.Cond.{Cond}
use Rattle.sp_isa.specs.declared.instr.Instr.{Instr}
use Rattle.sp_isa.specs.declared.instr.Instr.TheVariants.{Ccc, Rcc}
use Rattle.sp_isa.specs.Code.{code}
use Rattle.sp_isa.specs.Core.{advance}
use Rattle.sp_isa.specs.Effect.{effect}
use Rattle.sp_isa.specs.Stack.{call, ret}
use Rattle.sp_model.specs.Note.{Frame}
use Rattle.sp_model.specs.State.{State, IsState, next_instr, step, executed}
use Rattle.sp_model.proofs.StateLemmas.{steps_execute}
use Rattle.sp_term.specs.Value.{Env, IsTrueIn}
use Rattle.sp_trans.specs.Meaning.{IsValueOf}
use Rattle.sp_trans.specs.Translation.{applied}
use Rattle.sp_trans.proofs.ValueLemmas.{value_advance}
use Rattle.sp_cond.specs.Execution.{Execution, gone_on, choice_by}
use Rattle.sp_facts.specs.Executions.{IsExecutionOf, IsChoice, IsChoiceBy}
use Rattle.sp_facts.specs.Histories.{History}
use Rattle.sp_facts.specs.Theorems.{MayPass, HasPassed, PassesGoOn}
use Rattle.sp_facts.proofs.StepLemmas.{choice_true, all_both}

-- an execution with a choice more
abbrev with_choice : Option Cond → Execution → Execution
with_choice o x = record {
  state = x.state;
  hypotheses = x.hypotheses ++ choice_by o false x.state;
  changes = x.changes;
  calls = x.calls;
  inputs = x.inputs + 0;
}

executed_passes : (i : Instr) (s : State) → MayPass i → IsChoice i false s.core → HasPassed i s (executed i s)
unfolding effect
executed_passes (Ccc w a) s may is = record {
  core = ap (λ b. cond b (call 3 a s.core) (advance 3 s.core)) is;
  inputs = refl;
  outputs = append-nil s.outputs;
}
executed_passes (Rcc w) s may is = record {
  core = ap (λ b. cond b (ret s.core) (advance 1 s.core)) is;
  inputs = refl;
  outputs = append-nil s.outputs;
}
executed_passes _ s may is = absurd may

passed : (s : State) (i : Instr) (n : ℕ) → s.core.halted ≡ false → next_instr s.core ≡ Some (i, n) → MayPass i → IsChoice i false s.core → HasPassed i s (step s)
passed s i n running next may is = subst (HasPassed i s) (sym (steps_execute s i n running next)) (executed_passes i s may is)

-- what doesn't depend on the step is as before it
one_choice :
    (image : ImageMap) (f : Frame) (h : History) (s t : State) (x : Execution) (o : Option Cond) → IsState s → IsChoiceBy o false s.core
    → ((e : Env) → IsValueOf f e x.state s.core → IsValueOf f e x.state t.core) → IsExecutionOf image f h s x → IsExecutionOf image f h t (with_choice o x)
one_choice image f h s t x o state is onward ex = record {
  counted = let same = ex.counted in omega (arith, same);
  called = ex.called;
  symbolic = ex.symbolic;
  value = λ e k. onward e (ex.value e k);
  hypotheses = λ e k. all_both (IsTrueIn e) x.hypotheses (choice_by o false x.state) (ex.hypotheses e k) (choice_true f e x.state s.core state.core (ex.value e k) o false is);
  changed = ex.changed;
}

goes_on :
    (image : ImageMap) (f : Frame) (h : History) (s t : State) (x : Execution) (i : Instr) → IsState s → MayPass i → IsChoice i false s.core
    → ((e : Env) → IsValueOf f e x.state s.core → IsValueOf f e x.state t.core) → IsExecutionOf image f h s x → IsExecutionOf image f h t (gone_on i false x)
unfolding applied
goes_on image f h s t x (Ccc w a) state may is onward ex = one_choice image f h s t x (Some w) state is onward ex
goes_on image f h s t x (Rcc w) state may is onward ex = one_choice image f h s t x (Some w) state is onward ex
goes_on image f h s t x _ state may is onward ex = absurd may

pub passes_go_on : PassesGoOn
passes_go_on = record {
  passed = passed;
  executed = λ image f h s x i n state running next may is ex.
      goes_on image f h s (step s) x i state may is
      (λ e value. subst (IsValueOf f e x.state) (sym (passed s i n running next may is).core) (value_advance f e x.state s.core (length (code i)) value)) ex;
}
