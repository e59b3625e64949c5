use Rattle.sp_conditions.proofs.PlaceLemmas.{cells_at}
use Rattle.sp_conditions.proofs.frames.spans_of.Goals as goal

pub span-requires : goal.span-requires
span-requires c = cells_at c.args.areas.now _ c.area_at.result c.in-Some.area c.requires c.area_at.ensures c.in-Some.is
