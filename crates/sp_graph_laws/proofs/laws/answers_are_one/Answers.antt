use Rattle.sp_graph_laws.proofs.CountLemmas.{one}
use Rattle.sp_graph_laws.proofs.laws.answers_are_one.Goals as goal

pub returns : goal.returns
returns c = record { one = one }
