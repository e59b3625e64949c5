use Rattle.sp_words.proofs.ReservedLemmas.{reserved_exact}
use Rattle.sp_words.proofs.laws.reserved_words_have_meanings.Goals as goal

pub returns : goal.returns
returns c = record { exactly = reserved_exact }
