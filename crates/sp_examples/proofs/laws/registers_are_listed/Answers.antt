use Rattle.sp_examples.proofs.LoadLemmas.{load_law}
use Rattle.sp_examples.proofs.laws.registers_are_listed.Goals as goal

pub returns : goal.returns
returns c = load_law
