use Rattle.sp_struct.specs.code.Kept.{AreSoundFirst}
use Rattle.sp_struct.proofs.depths.sound_of.Given as goal

abbrev pub invariant-routines : goal.invariant-routines
invariant-routines l = AreSoundFirst l.unit l.place l.depths.items
