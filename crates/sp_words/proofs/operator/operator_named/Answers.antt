use Rattle.sp_words.specs.code.Tables.{operator_named}
use Rattle.sp_words.proofs.NameLemmas.{operator_exact}
use Rattle.sp_words.proofs.operator.operator_named.Goals as goal

pub returns-clause-table : goal.returns-clause-table
unfolding operator_named
returns-clause-table c = c.look_up.ensures

pub returns-clause-manual : goal.returns-clause-manual
unfolding operator_named
returns-clause-manual c m = let e = c.look_up.ensures in rw e (operator_exact c.args.word.now m)
