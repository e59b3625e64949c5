use Rattle.std.proofs.Common.{◌≡◌, ◌++◌, drop, map}
use Rattle.sp_prog.specs.View.{listed_areas}
use Rattle.sp_cond.specs.Execution.{span}
use Rattle.sp_conditions.proofs.frames.spans_of.Given as goal

abbrev pub invariant-places : goal.invariant-places
invariant-places l = l.list.items ++ map span (listed_areas l.areas (drop l.place-index l.places)) ≡ map span (listed_areas l.areas l.places)
