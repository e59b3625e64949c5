use Rattle.sp_cli.proofs.StageLemmas.{refusals_are_one}
use Rattle.sp_cli.proofs.laws.a_command_has_one_refusal.Goals as goal

pub returns : goal.returns
returns c = refusals_are_one
