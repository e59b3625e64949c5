use Rattle.std.proofs.Common.{sym, subst}
use Rattle.std.specs.List.{AllByRecursion}
use Rattle.sp_script_text.specs.StepTexts.{IsStepLine}
use Rattle.sp_script_text.specs.declared.script.Written.{Written}
use Rattle.sp_script.proofs.checking.followed.Goals as goal

pub follow-requires : goal.follow-requires
follow-requires c = subst (AllByRecursion (λ (w : Written). IsStepLine w.text)) (sym c.as_slice.ensures) c.requires
