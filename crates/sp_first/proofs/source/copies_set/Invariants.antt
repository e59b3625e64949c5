use Rattle.std.proofs.Common.{◌≡◌, [], reverse, take, drop}
use Rattle.sp_first.specs.Reading.{copies_set}
use Rattle.sp_first.proofs.source.copies_set.Given as goal

abbrev pub invariant-loop-n : goal.invariant-loop-n
invariant-loop-n l = copies_set (reverse (take l.n l.transfers)) (drop l.n l.transfers) ≡ copies_set [] l.transfers
