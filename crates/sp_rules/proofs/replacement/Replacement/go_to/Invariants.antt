use Rattle.std.proofs.Common.{◌+◌, ◌-◌, length}
use Rattle.sp_rules.specs.code.Rewritten.{GoesOn}
use Rattle.sp_rules.proofs.replacement.Replacement.go_to.Given as goal

abbrev pub invariant-trees : goal.invariant-trees
invariant-trees l = GoesOn l.initial.self l.self

abbrev pub decreases-trees : goal.decreases-trees
decreases-trees l = l.n.0 + 1 - length l.self.places.items
