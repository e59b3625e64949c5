use Rattle.std.proofs.Common.{◌-◌, ◌<◌, ◌≤◌, ℕ}
use Rattle.sp_flow.specs.code.Least.{HasEither}
use Rattle.sp_flow.proofs.cells.lowest_free.Given as goal

abbrev pub invariant-cells : goal.invariant-cells
invariant-cells l = record {
  low : l.first ≤ l.cell;
  covered : (c : ℕ) → l.first ≤ c → c < l.cell → HasEither l.areas l.one l.other c;
}

abbrev pub decreases-cells : goal.decreases-cells
decreases-cells l = l.end - l.cell
