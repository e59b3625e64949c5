use Rattle.std.proofs.Common.{◌≡◌, ℕ}
use Rattle.sp_graph.specs.code.Sorting.{Sorting, mark_at, work}
use Rattle.sp_graph.specs.declared.sorting.Mark.TheVariants.{New}
use Rattle.sp_graph.proofs.sorting.Sorter.run.Given as goal

abbrev pub invariant-moves : goal.invariant-moves
invariant-moves l = record {
  sorting : Sorting l.graph l.limit l.self.marks.items l.self.order.items l.self.stack.items;
  kept : (v : ℕ) → mark_at l.self.marks.items v ≡ New → mark_at l.initial.self.marks.items v ≡ New;
}

abbrev pub decreases-moves : goal.decreases-moves
decreases-moves l = work l.self.marks.items l.self.stack.items
