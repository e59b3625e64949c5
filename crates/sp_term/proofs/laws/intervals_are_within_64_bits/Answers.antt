use Rattle.sp_term.proofs.IntervalLemmas.{ends_within}
use Rattle.sp_term.proofs.laws.intervals_are_within_64_bits.Goals as goal

pub returns : goal.returns
returns c = ends_within
