use Rattle.sp_unit_laws.proofs.OrderLemmas.{lines_are_merged}
use Rattle.sp_unit_laws.proofs.laws.lines_are_merged.Goals as goal

pub returns : goal.returns
returns c = lines_are_merged
