use Rattle.sp_lex.proofs.TokenLemmas.{have_tokens}
use Rattle.sp_lex.proofs.laws.tokens_are_slices_of_their_source.Goals as goal

pub returns : goal.returns
returns c = have_tokens
