use Rattle.sp_note.proofs.ConditionLemmas.{one_meaning}
use Rattle.sp_note.proofs.laws.conditions_are_one.Goals as goal

pub returns : goal.returns
returns c = record {
  meaning = λ source tokens one other h k. (one_meaning source tokens one other h k).0;
  depth = λ source tokens one other h k. (one_meaning source tokens one other h k).1;
}
