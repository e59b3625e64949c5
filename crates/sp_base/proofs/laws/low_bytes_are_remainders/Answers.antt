use Rattle.std.proofs.Common.{refl}
use Rattle.std.specs.Int.Count.{ones}
use Rattle.sp_base.proofs.IntegerLemmas.{low_byte_is, low_byte_below}
use Rattle.sp_base.proofs.laws.low_bytes_are_remainders.Goals as goal

pub returns-clause-value : goal.returns-clause-value
returns-clause-value c = low_byte_is

pub returns-clause-range : goal.returns-clause-range
returns-clause-range c = low_byte_below

pub returns-clause-even : goal.returns-clause-even
unfolding ones
returns-clause-even c = (refl, refl, refl)

pub returns-clause-odd : goal.returns-clause-odd
unfolding ones
returns-clause-odd c = (refl, refl, refl)
