use Rattle.sp_isa.proofs.SumLemmas.{adds_decimals}
use Rattle.sp_isa.proofs.laws.decimal_adjustment_gives_decimal_sums.Goals as goal

pub returns : goal.returns
returns c = adds_decimals
