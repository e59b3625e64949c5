use Rattle.std.proofs.Common.{take}
use Rattle.sp_linear.specs.Linear.{named}
use Rattle.sp_steps.specs.Next.{AreNamed}
use Rattle.sp_rules.specs.code.Work.{hypotheses_of}
use Rattle.sp_rules.proofs.combination.hypotheses_named.Given as goal

abbrev pub invariant-loop-n : goal.invariant-loop-n
invariant-loop-n l = AreNamed (hypotheses_of l.work) (take l.n-index l.by) (named l.named.items)
