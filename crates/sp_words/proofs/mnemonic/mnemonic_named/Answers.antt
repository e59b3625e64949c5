use Rattle.sp_words.specs.code.Tables.{mnemonic_named}
use Rattle.sp_words.proofs.NameLemmas.{mnemonic_exact}
use Rattle.sp_words.proofs.mnemonic.mnemonic_named.Goals as goal

pub returns-clause-table : goal.returns-clause-table
unfolding mnemonic_named
returns-clause-table c = c.look_up.ensures

pub returns-clause-manual : goal.returns-clause-manual
unfolding mnemonic_named
returns-clause-manual c m = let e = c.look_up.ensures in rw e (mnemonic_exact c.args.word.now m)
