use Rattle.std.proofs.Common.{◌≡◌, take}
use Rattle.std.specs.List.{enumerate_from}
use Rattle.std.specs.FinMap as maps
use Rattle.sp_first.proofs.image.placed.Given as goal

abbrev pub invariant-loop-n : goal.invariant-loop-n
invariant-loop-n l = l.image ≡ maps.from_entries (enumerate_from 0 (take l.n l.bytes))
