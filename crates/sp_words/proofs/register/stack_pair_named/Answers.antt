use Rattle.sp_words.specs.code.Tables.{stack_pair_named}
use Rattle.sp_words.proofs.NameLemmas.{stack_pair_exact}
use Rattle.sp_words.proofs.register.stack_pair_named.Goals as goal

pub returns-clause-table : goal.returns-clause-table
unfolding stack_pair_named
returns-clause-table c = c.look_up.ensures

pub returns-clause-manual : goal.returns-clause-manual
unfolding stack_pair_named
returns-clause-manual c m = let e = c.look_up.ensures in rw e (stack_pair_exact c.args.word.now m)
