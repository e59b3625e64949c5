use Rattle.sp_examples.proofs.ReturnLemmas.{base_law, start_base_law, condition_law, running, no_return}
use Rattle.sp_examples.proofs.laws.returns_are_at_base.Goals as goal

pub returns : goal.returns
returns c = record { base = base_law; start = start_base_law; condition = condition_law; halted = running; other = no_return }
