use Rattle.sp_struct.specs.code.Levels.{AreFirstLevels}
use Rattle.sp_struct.proofs.unit_levels.all_levels.Given as goal

abbrev pub invariant-routines : goal.invariant-routines
invariant-routines l = AreFirstLevels l.unit l.place l.all.items
