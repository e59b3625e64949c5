use Rattle.sp_rules.proofs.MemoryLemmas.{IsInRest}
use Rattle.sp_rules.proofs.memories.frame_for.Given as goal

abbrev pub invariant-loop-frame : goal.invariant-loop-frame
invariant-loop-frame l = IsInRest l.v l.frames l.frame-index
