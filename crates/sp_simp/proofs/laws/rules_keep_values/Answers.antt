use Rattle.sp_simp.proofs.ValueLemmas.{rule_value}
use Rattle.sp_simp.proofs.laws.rules_keep_values.Goals as goal

pub returns : goal.returns
returns c stack e t s p r h f = rule_value stack e r t p f s h
