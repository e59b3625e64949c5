use Rattle.sp_facts.proofs.EndLemmas.{returns_keep_their_word}
use Rattle.sp_facts.proofs.laws.returns_keep_their_word.Goals as goal

pub returns : goal.returns
returns c = returns_keep_their_word
