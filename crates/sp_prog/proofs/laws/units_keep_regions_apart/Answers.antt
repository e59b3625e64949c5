use Rattle.sp_prog.proofs.ExampleLemmas.{units_keep_regions_apart}
use Rattle.sp_prog.proofs.laws.units_keep_regions_apart.Goals as goal

pub returns : goal.returns
returns c = units_keep_regions_apart
