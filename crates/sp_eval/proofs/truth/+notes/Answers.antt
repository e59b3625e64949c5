use Rattle.std.proofs.Common.{rules, ◌≡◌, ◌+◌, ◌-◌, ◌<◌, suc, None, Bool, arith, sym, ◌∙◌, ap, subst, to_z, of_z, pos, ◌+ℤ◌, ℤ}
use Rattle.std.specs.Prelude.{Option}
use Rattle.std.specs.Int.{w128}
use Rattle.std.proofs.lemmas.Int.{ints}
use Rattle.sp_base.specs.Integers.{count_between}
use Rattle.sp_logic.specs.View.{quantifier_of}
use Rattle.sp_eval.specs.Nodes.{count_through}
use Rattle.sp_eval.specs.code.Truth.{quantifies}
use Rattle.sp_eval.specs.code.Setting.{IsPaid, nodes_of_index, truth_of_index, note_nodes, note_truth, quantity_nodes}
use Rattle.sp_eval.proofs.SmallLemmas.{truth_counts, index_counts, kept_number, same_count, same_test, paid_more}
use Rattle.sp_eval.proofs.RangeLemmas.{counts_length, paid_goes_on, passes, paid_ends, truth_goes_on, truth_ends}
use Rattle.sp_eval.proofs.truth.+notes.Goals as goal

pub truth_at-returns-then-left-eq0 : goal.truth_at-returns-then-left-eq0
truth_at-returns-then-left-eq0 t c = let some = truth_counts c.args.at.now c.args.scope.now c.args.note.now in omega (arith, c.if-left-eq0.true, some)

pub truth_at-returns-in_ok-high-in-Quantify : goal.truth_at-returns-in_ok-high-in-Quantify
truth_at-returns-in_ok-high-in-Quantify t c =
    let at = c.args.at.now in
    let scope = c.args.scope.now in
    let small = rw c.in-Quantify.is at c.requires.small in
    let first = c.in_ok-low-in-Quantify.ensures {u = tt} in
    let second = c.in_ok-high-in-Quantify.ensures {u = tt} in
    let low = kept_number at scope c.in-Quantify.first c.in_ok-low-in-Quantify.low small.0 first.0 in
    let high = kept_number at scope c.in-Quantify.last c.in_ok-high-in-Quantify.high small.1 second.0 in
    let part : c.deref-in-Quantify.result.now ≡ c.in-Quantify.part.value = search rules in
    let count = same_count at scope c.in-Quantify.name c.deref-in-Quantify.result.now c.in-Quantify.part.value _ _ _ _ part low high in
    let test = same_test at scope c.in-Quantify.name (quantifier_of c.in-Quantify.quantifier) c.deref-in-Quantify.result.now c.in-Quantify.part.value _ _ _ _ part low high in
    let extra = 1 + quantity_nodes at scope c.in-Quantify.first + quantity_nodes at scope c.in-Quantify.last in
    let paid_first = first.1 in
    let paid_second = second.1 in
    paid_more c.truth_over.result c.args.left.now c.number_at-in-Quantify-2.new.left c.truth_over.new.left _ extra (note_nodes at scope c.args.note.now) _ (note_truth at scope c.args.note.now)
    (omega (arith, paid_first, paid_second, c.if-left-eq0.false))
    (ap (note_nodes at scope) c.in-Quantify.is ∙ ap (λ n. extra + n) (sym count))
    (test ∙ sym (ap (note_truth at scope) c.in-Quantify.is))
    c.truth_over.ensures

pub truth_over-returns-then-count-from : goal.truth_over-returns-then-count-from
truth_over-returns-then-count-from t c =
    let long = counts_length (nodes_of_index c.args.at.now c.args.scope.now c.args.name.now c.args.part.now) c.args.indices.low (count_between c.args.indices.low c.args.indices.high) (index_counts c.args.at.now c.args.scope.now c.args.name.now c.args.part.now) in
    let count : c.count_between-count.result ≡ count_between c.args.indices.low c.args.indices.high = search rules in
    omega (arith, long, count, c.if-count-from.true)

pub truth_over-returns-in_err-here : goal.truth_over-returns-in_err-here
truth_over-returns-in_err-here t c =
    let nodes = nodes_of_index c.args.at.now c.args.scope.now c.args.name.now c.args.part.now in
    let test = truth_of_index c.args.at.now c.args.scope.now c.args.name.now c.args.part.now in
    let z : ℤ = to_z w128 c.loop-done.index-bits in
    let whole = count_through nodes c.args.indices.low c.args.indices.high in
    let truth = quantifies (quantifier_of c.args.indices.quantifier) test c.args.indices.low c.args.indices.high in
    let none : c.from_residual.result ≡ None = search rules in
    let over : c.loop-done.left < nodes z = c.in_err-here.ensures {u = tt} in
    let count : c.count_between-count.result ≡ count_between c.args.indices.low c.args.indices.high = search rules in
    subst (λ (r : Option Bool). IsPaid r c.args.left.now c.truth_at.new.left whole truth) (sym none)
    (passes nodes z (count_between c.args.indices.low c.args.indices.high - c.loop-done.done) (count_between c.args.indices.low c.args.indices.high - (c.loop-done.done + 1)) c.args.left.now c.loop-done.left whole (omega (arith, count)) c.loop-done.invariant.paid over)

pub truth_over-loop-done-preserved : goal.truth_over-loop-done-preserved
truth_over-loop-done-preserved t c =
    let nodes = nodes_of_index c.args.at.now c.args.scope.now c.args.name.now c.args.part.now in
    let test = truth_of_index c.args.at.now c.args.scope.now c.args.name.now c.args.part.now in
    let z : ℤ = to_z w128 c.loop-done.index-bits in
    let next : ℤ = to_z w128 (of_z w128 (z +ℤ pos 1)) in
    let q = quantifier_of c.args.indices.quantifier in
    let whole = count_through nodes c.args.indices.low c.args.indices.high in
    let truth = quantifies q test c.args.indices.low c.args.indices.high in
    let paid : c.truth_at.new.left + nodes z ≡ c.loop-done.left = (c.in_ok-here.ensures {u = tt}).1 in
    let here : c.in_ok-here.here ≡ test z = (c.in_ok-here.ensures {u = tt}).0 in
    let at_index : to_z w128 c.loop-done.index-bits ≡ c.args.indices.low +ℤ pos c.loop-done.done = c.loop-done.invariant.index in
    let goes_on : to_z w128 (of_z w128 (to_z w128 c.loop-done.index-bits +ℤ pos 1)) ≡ to_z w128 c.loop-done.index-bits +ℤ pos 1 = omega (arith, ints, at_index) in
    let count : c.count_between-count.result ≡ count_between c.args.indices.low c.args.indices.high = search rules in
    let rest : count_between c.args.indices.low c.args.indices.high - c.loop-done.done ≡ suc (count_between c.args.indices.low c.args.indices.high - (c.loop-done.done + 1)) = omega (arith, count) in
    record {
      index = omega (arith, ints, at_index, goes_on);
      paid = paid_goes_on nodes z next (count_between c.args.indices.low c.args.indices.high - c.loop-done.done) (count_between c.args.indices.low c.args.indices.high - (c.loop-done.done + 1)) c.args.left.now c.loop-done.left c.truth_at.new.left whole rest goes_on paid c.loop-done.invariant.paid;
      truth = truth_goes_on q test z next (count_between c.args.indices.low c.args.indices.high - c.loop-done.done) (count_between c.args.indices.low c.args.indices.high - (c.loop-done.done + 1)) c.loop-done.truth c.in_ok-here.here c.join-truth.result truth rest goes_on here c.join-truth.ensures c.loop-done.invariant.truth;
    }

pub truth_over-returns : goal.truth_over-returns
truth_over-returns t c =
    let nodes = nodes_of_index c.args.at.now c.args.scope.now c.args.name.now c.args.part.now in
    let test = truth_of_index c.args.at.now c.args.scope.now c.args.name.now c.args.part.now in
    let z : ℤ = to_z w128 c.loop-done.index-bits in
    let q = quantifier_of c.args.indices.quantifier in
    let count : c.count_between-count.result ≡ count_between c.args.indices.low c.args.indices.high = search rules in
    let none : count_between c.args.indices.low c.args.indices.high - c.loop-done.done ≡ 0 = omega (arith, count) in (
      truth_ends q test z (count_between c.args.indices.low c.args.indices.high - c.loop-done.done) c.loop-done.truth (quantifies q test c.args.indices.low c.args.indices.high) none c.loop-done.invariant.truth,
      paid_ends nodes z (count_between c.args.indices.low c.args.indices.high - c.loop-done.done) c.args.left.now c.loop-done.left (count_through nodes c.args.indices.low c.args.indices.high) none c.loop-done.invariant.paid,
    )
