use Rattle.std.proofs.Common.{◌-◌}
use Rattle.sp_trial.specs.code.Entering.{IsLoadedBelow}
use Rattle.sp_trial.proofs.entry.is_loaded.Given as goal

abbrev pub invariant-loop-address : goal.invariant-loop-address
invariant-loop-address l = IsLoadedBelow l.from l.image l.machine

abbrev pub decreases-loop-address : goal.decreases-loop-address
decreases-loop-address l = 65536 - l.from
