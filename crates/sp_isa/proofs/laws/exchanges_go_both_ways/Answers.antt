use Rattle.sp_isa.proofs.MoveLemmas.{exchanges}
use Rattle.sp_isa.proofs.laws.exchanges_go_both_ways.Goals as goal

pub returns : goal.returns
returns c = exchanges
