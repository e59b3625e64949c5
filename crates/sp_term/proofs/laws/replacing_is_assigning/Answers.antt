use Rattle.sp_term.proofs.ReplaceLemmas.{value-replaced}
use Rattle.sp_term.proofs.laws.replacing_is_assigning.Goals as goal

pub returns : goal.returns
returns c t by v e sort closed = value-replaced t v by sort closed e
