use Rattle.std.proofs.Common.{◌≡◌, drop, is_some}
use Rattle.sp_run.specs.Words.{words_of}
use Rattle.sp_run.specs.Options.{options_of}
use Rattle.sp_run.specs.Form.{admits}
use Rattle.sp_run.proofs.form.is_in_form.Given as goal

abbrev pub invariant-loop-word : goal.invariant-loop-word
invariant-loop-word l = admits l.reader (words_of (drop l.word-index l.words)) ≡ is_some (options_of (words_of l.words))
