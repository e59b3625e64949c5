use Rattle.std.proofs.Common.{nat_le, ap, ◌∙◌}
use Rattle.sp_unit.proofs.RegionLemmas.{meets_some}
use Rattle.sp_unit.proofs.regions.meets.Goals as goal

pub returns-in-Some : goal.returns-in-Some
returns-in-Some c = ap (λ a. nat_le a c.args.last) c.from.ensures ∙ meets_some c.args.image.now c.args.first c.args.last _ c.in-Some.ensures.some
