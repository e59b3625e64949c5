use Rattle.sp_simp.proofs.NodeLemmas.{rule_nodes, simple_nodes}
use Rattle.sp_simp.proofs.laws.no_rule_adds_nodes.Goals as goal

pub returns : goal.returns
returns c = record { rule = rule_nodes; form = λ t r f. simple_nodes f }
