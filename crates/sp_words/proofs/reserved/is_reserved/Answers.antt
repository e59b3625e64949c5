use Rattle.sp_words.proofs.ReservedLemmas.{reserved_exact}
use Rattle.sp_words.proofs.reserved.is_reserved.Goals as goal

pub returns-clause-manual : goal.returns-clause-manual
returns-clause-manual c = let e = c.has_meaning.ensures in rw e (reserved_exact c.args.word.now)
