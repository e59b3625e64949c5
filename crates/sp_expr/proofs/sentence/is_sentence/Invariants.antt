use Rattle.std.proofs.Common.{◌≡◌, ◌≤◌, Some, drop}
use Rattle.sp_expr.specs.code.Sentence.{accepts_in, is_sentence_in}
use Rattle.sp_expr.proofs.sentence.is_sentence.Given as goal

abbrev pub invariant-loop-word : goal.invariant-loop-word
invariant-loop-word l = (accepts_in l.setting (drop l.word-index l.words) (Some (l.place, l.opened)) ≡ is_sentence_in l.setting l.words) × (l.opened ≤ l.word-index)
