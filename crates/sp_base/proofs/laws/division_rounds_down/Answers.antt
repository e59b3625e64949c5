use Rattle.sp_base.proofs.IntegerLemmas.{divides}
use Rattle.sp_base.proofs.laws.division_rounds_down.Goals as goal

pub returns-clause-whole : goal.returns-clause-whole
returns-clause-whole c = divides
