use Rattle.sp_examples.proofs.KeepsLemmas.{keeps_itself, keeps_on}
use Rattle.sp_examples.proofs.laws.keeping_composes.Goals as goal

pub returns : goal.returns
returns c = record { itself = keeps_itself; parts = keeps_on }
