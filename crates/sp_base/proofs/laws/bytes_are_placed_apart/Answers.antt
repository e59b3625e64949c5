use Rattle.sp_base.proofs.CellLaws.{placed_apart, placed_some}
use Rattle.sp_base.proofs.laws.bytes_are_placed_apart.Goals as goal

pub returns-clause-apart : goal.returns-clause-apart
returns-clause-apart c = placed_apart

pub returns-clause-only : goal.returns-clause-only
returns-clause-only c = placed_some
