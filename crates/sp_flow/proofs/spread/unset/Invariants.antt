use Rattle.std.proofs.Common.{◌≡◌, ◌<◌, ◌+◌, ◌*◌, ℕ, length, get_or}
use Rattle.sp_flow.specs.Unset.{Has}
use Rattle.sp_flow.specs.code.Spread.{Sound, Settled, missing}
use Rattle.sp_graph.specs.declared.walk.Step.{Step}
use Rattle.sp_flow.proofs.spread.unset.Given as goal

abbrev pub invariant-loop-at : goal.invariant-loop-at
invariant-loop-at l = record {
  size : length l.sets.items ≡ length l.ways;
  entry : (x : ℕ) → x < 16 → Has x (get_or l.sets.items 0 0);
  sound : Sound l.ways l.sets.items;
  settled : (step : Step) → Settled l.ways l.sets.items l.work.items step;
}

abbrev pub decreases-loop-at : goal.decreases-loop-at
decreases-loop-at l = 2 * missing l.sets.items + length l.work.items
