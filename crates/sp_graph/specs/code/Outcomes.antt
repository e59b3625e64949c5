-- What sorting answers.
use Rattle.std.specs.Prelude.{ℕ, List}
use Rattle.sp_graph.specs.Cycles.{Reaches, SuccessorsFirst}
use Rattle.sp_graph.specs.declared.graph.Node.{Node}
use Rattle.sp_graph.specs.declared.sorting.Outcome.{Outcome}
use Rattle.sp_graph.specs.declared.sorting.Outcome.TheVariants.{Order, Cycle}

abbrev pub IsOutcome : List Node → ℕ → Outcome → Type 0
IsOutcome graph limit (Order order) = SuccessorsFirst graph limit order.items
IsOutcome graph limit (Cycle at) = Reaches graph limit at at
