use Rattle.std.proofs.Common.{take}
use Rattle.sp_term.specs.Conditions.{trees}
use Rattle.sp_steps.specs.Subgoals.{some_has}
use Rattle.sp_rules.specs.code.Fresh.{Gains}
use Rattle.sp_rules.proofs.fresh.Used.add_all.Given as goal

abbrev pub invariant-loop-t : goal.invariant-loop-t
invariant-loop-t l = Gains l.initial.self (λ j. some_has j (trees (take l.t-index l.ts))) l.self
