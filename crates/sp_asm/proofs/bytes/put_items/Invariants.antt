use Rattle.std.proofs.Common.{◌≡◌, ◌++◌, drop}
use Rattle.sp_asm.specs.Assembly.{items_bytes}
use Rattle.sp_asm.proofs.bytes.put_items.Given as goal

abbrev pub invariant-loop-i : goal.invariant-loop-i
invariant-loop-i l = l.bytes.items ++ items_bytes (drop l.i l.items) (drop l.i l.values) ≡ items_bytes l.items l.values
