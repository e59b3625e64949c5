use Rattle.sp_lex.proofs.TextLemmas.{unquoted-written}
use Rattle.sp_lex.proofs.laws.texts_stand_for_their_characters.Goals as goal

pub returns : goal.returns
returns c = unquoted-written
