use Rattle.sp_model.proofs.NoteLemmas.{stack_words}
use Rattle.sp_model.proofs.laws.notes_read_the_stack.Goals as goal

pub returns : goal.returns
returns c = stack_words
