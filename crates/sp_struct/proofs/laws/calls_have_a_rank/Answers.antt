use Rattle.sp_struct.proofs.RankLemmas.{ranked}
use Rattle.sp_struct.proofs.laws.calls_have_a_rank.Goals as goal

pub returns : goal.returns
returns c = record { falls = ranked }
