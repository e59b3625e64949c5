-- Refusals of terms as those of steps.
use Rattle.sp_fdl.specs.declared.refusal.FdlRefusal.{FdlRefusal}
use Rattle.sp_fdl.specs.declared.refusal.FdlRefusal.TheVariants as fdl
use Rattle.sp_script_text.specs.declared.refusal.StepRefusal.{StepRefusal}
use Rattle.sp_script_text.specs.declared.refusal.StepRefusal.TheVariants as refusal

abbrev pub step_refusal : FdlRefusal → StepRefusal
step_refusal fdl.Syntax = refusal.Syntax
step_refusal fdl.Memory = refusal.Memory
