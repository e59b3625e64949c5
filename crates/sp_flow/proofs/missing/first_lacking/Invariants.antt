use Rattle.std.proofs.Common.{◌<◌}
use Rattle.sp_base.specs.declared.location.Loc.{Loc}
use Rattle.sp_base.specs.Locs.{place}
use Rattle.sp_flow.specs.code.Least.{Lacks}
use Rattle.sp_flow.proofs.missing.first_lacking.Given as goal

abbrev pub invariant-places : goal.invariant-places
invariant-places l = (y : Loc) → place y < l.at → Lacks l.used l.listed l.unset y → ⊥
