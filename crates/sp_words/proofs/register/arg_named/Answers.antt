use Rattle.sp_words.specs.code.Tables.{arg_named}
use Rattle.sp_words.proofs.NameLemmas.{arg_exact}
use Rattle.sp_words.proofs.register.arg_named.Goals as goal

pub returns-clause-table : goal.returns-clause-table
unfolding arg_named
returns-clause-table c = c.look_up.ensures

pub returns-clause-manual : goal.returns-clause-manual
unfolding arg_named
returns-clause-manual c m = let e = c.look_up.ensures in rw e (arg_exact c.args.word.now m)
