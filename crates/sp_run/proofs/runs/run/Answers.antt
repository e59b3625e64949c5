use Rattle.std.proofs.Common.{◌≡◌, ◌∙◌, ap, ap₂, subst, ℕ, List, [], ◌++◌, rules}
use Rattle.sp_model.specs.State.{State, run}
use Rattle.sp_run.specs.Texts.{output_lines, state_line}
use Rattle.sp_run.specs.Run.{EndsAfter}
use Rattle.sp_run.proofs.runs.run.Goals as goal

pub returns : goal.returns
returns c =
    let start = λ (inputs : List ℕ). let s : State = record { core = c.in_ok-machine.machine; inputs = inputs; outputs = [] } in s in
    let limit = c.args.options.now.steps in
    let steps = c.in_ok-steps.steps in
    let same : c.deref.result.now ≡ c.in_ok-inputs.inputs.items = c.deref.ensures.value in
    let core : c.advance.new.machine ≡ (run (start c.in_ok-inputs.inputs.items) steps).core = subst (λ xs. c.advance.new.machine ≡ (run (start xs) steps).core) same c.in_ok-steps.ensures.core in
    let put : c.in_ok-steps.text.items ≡ output_lines (run (start c.in_ok-inputs.inputs.items) steps).outputs = subst (λ xs. c.in_ok-steps.text.items ≡ output_lines (run (start xs) steps).outputs) same c.in_ok-steps.ensures.text in
    let line : c.deref-2.result.now ≡ state_line limit steps c.advance.new.machine = search rules in
    let whole : c.extend_from_slice.new.self.items ≡ c.in_ok-steps.text.items ++ c.deref-2.result.now = search rules in
    record {
      start = start c.in_ok-inputs.inputs.items;
      steps = steps;
      starts = record { core = c.in_ok-machine.ensures; inputs = search rules; outputs = search rules };
      ends = subst (λ xs. EndsAfter (start xs) limit steps) same c.in_ok-steps.ensures.ends;
      exact = whole ∙ ap₂ (λ (xs ys : List ℕ). xs ++ ys) put (line ∙ ap (state_line limit steps) core);
    }
