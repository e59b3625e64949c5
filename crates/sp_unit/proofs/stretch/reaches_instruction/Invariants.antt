use Rattle.std.proofs.Common.{◌≡◌, drop}
use Rattle.std.specs.List.{list_any}
use Rattle.sp_unit.specs.Lines.{inside, is_instruction}
use Rattle.sp_unit.specs.code.Entries.{entries_of}
use Rattle.sp_unit.proofs.stretch.reaches_instruction.Given as goal

abbrev pub invariant-loop-e : goal.invariant-loop-e
invariant-loop-e l = list_any is_instruction (inside (entries_of (drop l.e-index l.below))) ≡ list_any is_instruction (inside (entries_of l.below))
