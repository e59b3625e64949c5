use Rattle.std.proofs.Common.{◌≡◌, length}
use Rattle.sp_script_text.specs.code.Arguments.{named_of}
use Rattle.sp_script_text.proofs.ListLemmas.{all_in_front}
use Rattle.sp_script_text.proofs.stepping.named.Given as goal

abbrev pub invariant-loop-rest : goal.invariant-loop-rest
invariant-loop-rest l = all_in_front l.named.items (named_of l.rest) ≡ named_of l.text

abbrev pub decreases-loop-rest : goal.decreases-loop-rest
decreases-loop-rest l = length l.rest
