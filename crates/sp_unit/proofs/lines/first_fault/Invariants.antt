use Rattle.std.proofs.Common.{take, drop}
use Rattle.sp_unit.specs.code.Aboves.{IsAbove, HasSeen}
use Rattle.sp_unit.specs.code.Entries.{entries_of}
use Rattle.sp_unit.specs.code.Scopes.{source_of}
use Rattle.sp_unit.proofs.CheckLemmas.{AreRightAbove}
use Rattle.sp_unit.proofs.lines.first_fault.Given as goal

abbrev pub invariant-loop-i : goal.invariant-loop-i
invariant-loop-i l = record {
  above : IsAbove l.above (entries_of (take l.i l.entries)) (entries_of (drop l.i l.entries));
  seen : HasSeen l.seen.entries (source_of l.scope) (entries_of (take l.i l.entries));
  right : AreRightAbove (source_of l.scope) (entries_of (take l.i l.entries)) (entries_of (drop l.i l.entries));
}
