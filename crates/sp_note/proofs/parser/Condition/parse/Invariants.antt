use Rattle.std.proofs.Common.{◌≡◌, drop}
use Rattle.sp_note.specs.code.Parser.{run, start, state_of}
use Rattle.sp_note.proofs.parser.Condition.parse.Given as goal

abbrev pub invariant-loop-word : goal.invariant-loop-word
invariant-loop-word l = run (state_of l.parser) (drop l.word-index l.words) ≡ run start l.words
