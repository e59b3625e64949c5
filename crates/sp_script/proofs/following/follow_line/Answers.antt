use Rattle.std.proofs.Common.{subst}
use Rattle.sp_script_text.specs.Steps.{seen}
use Rattle.sp_script_text.specs.StepTexts.{IsStep}
use Rattle.sp_script.proofs.FollowLemmas.{stays}
use Rattle.sp_script.proofs.following.follow_line.Goals as goal

pub returns-in-Err-NoApply : goal.returns-in-Err-NoApply
returns-in-Err-NoApply c =
    let is : IsStep (seen c.in-Ok.step) c.args.written.now.text = subst (IsStep (seen c.in-Ok.step)) c.as_slice.ensures c.in-Ok.ensures.ok in
    stays c.args.place.image.now c.args.goals c.args.written.now c.in-Ok.step c.rule_of.result c.in-Err-NoApply.field-0 is c.in-Err-NoApply.ensures c.in-Err-NoApply.field-0-is c.rule_of.ensures
