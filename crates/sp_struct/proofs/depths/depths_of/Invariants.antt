use Rattle.sp_struct.specs.code.Kept.{AreNaturals}
use Rattle.sp_struct.proofs.depths.depths_of.Given as goal

abbrev pub invariant-places : goal.invariant-places
invariant-places l = AreNaturals l.levels.depths.items l.at l.depths.items
