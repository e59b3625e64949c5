use Rattle.std.proofs.Common.{◌-◌}
use Rattle.sp_hex.proofs.LoadLaws.{IsLoadedBelow}
use Rattle.sp_hex.proofs.loading.load.Given as goal

abbrev pub invariant-loop-address : goal.invariant-loop-address
invariant-loop-address l = IsLoadedBelow l.image l.from l.initial.m l.m

abbrev pub decreases-loop-address : goal.decreases-loop-address
decreases-loop-address l = 65536 - l.from
