use Rattle.std.proofs.Common.{◌≡◌, ◌++◌, drop}
use Rattle.sp_flow.specs.Routes.{ways_from, ways_of_code}
use Rattle.sp_flow.proofs.routes.ways_of_code.Given as goal

abbrev pub invariant-places : goal.invariant-places
invariant-places l = l.ways.items ++ ways_from l.routines l.code l.at (drop l.at l.code) ≡ ways_of_code l.routines l.code
