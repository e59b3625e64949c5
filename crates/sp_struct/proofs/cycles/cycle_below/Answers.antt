use Rattle.sp_graph.proofs.CycleLemmas.{no_cycle}
use Rattle.sp_struct.proofs.cycles.cycle_below.Goals as goal
use Rattle.sp_struct.proofs.cycles.cycle_below.Goals.{in-Order, in-Cycle}

pub returns-clause-none : goal.returns-clause-none
returns-clause-none c =
    elim c.match-outcome.branch [
      | in-Order w ↦ let h = w.in-Order.is in rw w.result-is (no_cycle c.args.graph.now c.args.limit _ (rw w.in-Order.is at c.in_ok-outcome.ensures))
      | in-Cycle w ↦ rw w.result-is tt
    ]

pub returns-clause-some : goal.returns-clause-some
returns-clause-some c =
    elim c.match-outcome.branch [
      | in-Order w ↦ rw w.result-is tt
      | in-Cycle w ↦ rw w.result-is (rw w.in-Cycle.is at c.in_ok-outcome.ensures)
    ]
