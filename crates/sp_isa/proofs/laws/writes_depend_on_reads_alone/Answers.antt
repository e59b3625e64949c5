use Rattle.sp_isa.proofs.LocationLemmas.{depends_only_on_uses}
use Rattle.sp_isa.proofs.laws.writes_depend_on_reads_alone.Goals as goal

pub returns : goal.returns
returns c = depends_only_on_uses
