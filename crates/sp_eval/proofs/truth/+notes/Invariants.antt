use Rattle.std.proofs.Common.{◌≡◌, ◌+◌, ◌-◌, pos}
use Rattle.std.specs.Prelude.{◌+ℤ◌}
use Rattle.sp_base.specs.Integers.{count_between}
use Rattle.sp_logic.specs.View.{quantifier_of}
use Rattle.sp_eval.specs.Nodes.{count_from, count_through}
use Rattle.sp_eval.specs.code.Truth.{joined, quantifies_from, quantifies}
use Rattle.sp_eval.specs.code.Setting.{truth_of_index, nodes_of_index}
use Rattle.sp_eval.proofs.truth.+notes.Given as goal

-- what was counted and what is left to count are the whole count, and the truth so far joined with the rest is the whole
abbrev pub invariant-truth_over-loop-done : goal.invariant-truth_over-loop-done
invariant-truth_over-loop-done l =
    let nodes = nodes_of_index l.at l.scope l.name l.part in
    let test = truth_of_index l.at l.scope l.name l.part in
    let rest = count_between l.indices.low l.indices.high - l.done in
    record {
      index : l.index ≡ l.indices.low +ℤ pos l.done;
      paid : l.initial.left + count_from nodes l.index rest ≡ l.left + count_through nodes l.indices.low l.indices.high;
      truth : joined (quantifier_of l.indices.quantifier) l.truth (quantifies_from (quantifier_of l.indices.quantifier) test l.index rest) ≡ quantifies (quantifier_of l.indices.quantifier) test l.indices.low l.indices.high;
    }
