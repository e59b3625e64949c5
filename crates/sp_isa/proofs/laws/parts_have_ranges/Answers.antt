use Rattle.sp_isa.proofs.MoveLemmas.{parts_have_ranges}
use Rattle.sp_isa.proofs.laws.parts_have_ranges.Goals as goal

pub returns : goal.returns
returns c = parts_have_ranges
