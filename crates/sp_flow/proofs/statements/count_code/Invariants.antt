use Rattle.std.proofs.Common.{◌≡◌, ◌⊎◌, Some}
use Rattle.sp_flow.specs.code.Counts.{FaultyUpTo, own_lists}
use Rattle.sp_flow.specs.code.Faults.{IsFirst}
use Rattle.sp_flow.proofs.statements.count_code.Given as goal

abbrev pub invariant-places : goal.invariant-places
invariant-places l =
    IsFirst (λ f. (l.fn.so_far ≡ Some f) ⊎ FaultyUpTo l.areas l.routines (own_lists l.own.locs l.own.reads.now l.own.changes.now l.own.ins.now l.own.outs.now) l.code l.sets l.at f) l.best
