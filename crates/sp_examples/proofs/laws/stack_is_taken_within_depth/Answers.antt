use Rattle.sp_examples.proofs.PushLemmas.{depth_law, word_good, word_bad}
use Rattle.sp_examples.proofs.laws.stack_is_taken_within_depth.Goals as goal

pub returns : goal.returns
returns c = record { depth = depth_law; word = word_good; other = word_bad }
