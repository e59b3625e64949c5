use Rattle.std.proofs.Common.{◌≡◌, ◌<◌, ℕ, length}
use Rattle.sp_graph.specs.code.Sorting.{Sorting, mark_at}
use Rattle.sp_graph.specs.declared.sorting.Mark.TheVariants.{New}
use Rattle.sp_graph.proofs.sorting.sort.Given as goal

abbrev pub invariant-roots : goal.invariant-roots
invariant-roots l = record {
  sorting : Sorting l.graph l.limit l.sorter.marks.items l.sorter.order.items l.sorter.stack.items;
  empty : length l.sorter.stack.items ≡ 0;
  done : (v : ℕ) → v < l.root → mark_at l.sorter.marks.items v ≡ New → ⊥;
}
