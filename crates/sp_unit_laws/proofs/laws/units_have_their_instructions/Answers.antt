use Rattle.sp_unit_laws.proofs.InstructionLemmas.{units_have_their_instructions}
use Rattle.sp_unit_laws.proofs.laws.units_have_their_instructions.Goals as goal

pub returns : goal.returns
returns c = units_have_their_instructions
