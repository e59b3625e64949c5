use Rattle.sp_note_lines.proofs.RefusedLineLemmas.{says_none, none_says, condition_lines}
use Rattle.sp_note_lines.proofs.laws.lines_are_refused.Goals as goal

pub returns : goal.returns
returns c = record {
  refused = λ source tokens. (none_says source tokens, says_none source tokens);
  conditions = λ source first rest word kind says begins. condition_lines source first rest word kind says begins;
}
