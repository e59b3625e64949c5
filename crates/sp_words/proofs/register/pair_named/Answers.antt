use Rattle.sp_words.specs.code.Tables.{pair_named}
use Rattle.sp_words.proofs.NameLemmas.{pair_exact}
use Rattle.sp_words.proofs.register.pair_named.Goals as goal

pub returns-clause-table : goal.returns-clause-table
unfolding pair_named
returns-clause-table c = c.look_up.ensures

pub returns-clause-manual : goal.returns-clause-manual
unfolding pair_named
returns-clause-manual c m = let e = c.look_up.ensures in rw e (pair_exact c.args.word.now m)
