use Rattle.std.proofs.Common.{◌≡◌, ◌+◌, ◌≤◌, drop}
use Rattle.sp_asm.specs.Assembly.{size_of_items}
use Rattle.sp_asm.proofs.bytes.behind_items.Given as goal

abbrev pub invariant-loop-item : goal.invariant-loop-item
invariant-loop-item l = record {
  within : l.next ≤ 65536;
  so_far : l.next + size_of_items (drop l.item-index l.items) ≡ l.address + size_of_items l.items;
}
