use Rattle.std.proofs.Common.{◌≡◌, take}
use Rattle.sp_run.specs.Start.{with_settings}
use Rattle.sp_run.proofs.start.make_all.Given as goal

abbrev pub invariant-loop-setting : goal.invariant-loop-setting
invariant-loop-setting l = l.machine ≡ with_settings (take l.setting-index l.settings) l.initial.machine
