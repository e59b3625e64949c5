use Rattle.sp_note.proofs.ConditionLemmas.{reads, breaks, read_right, read_broken}
use Rattle.sp_note.proofs.laws.conditions_follow_the_grammar.Goals as goal

pub returns : goal.returns
returns c = record {
  right = λ source tokens note. (reads source tokens note, read_right source tokens note);
  broken = λ source tokens kind. (breaks source tokens kind, read_broken source tokens kind);
}
