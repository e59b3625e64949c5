-- Refusals of the crates below as ends of a command.
use Rattle.sp_base.specs.declared.refused.Refused.{Refused}
use Rattle.sp_base.specs.declared.refused.Refused.TheVariants as refused
use Rattle.sp_lex.specs.declared.refusal.TextKind.{TextKind}
use Rattle.sp_asm.specs.declared.refusal.AsmKind.{AsmKind}
use Rattle.sp_hex.specs.declared.refusal.HexKind.{HexKind}
use Rattle.sp_check.specs.declared.refusal.CheckKind.{CheckKind}
use Rattle.sp_first.specs.declared.verifier.Refusal.{Refusal}
use Rattle.sp_first.specs.declared.verifier.Refusal.TheVariants as verifier
use Rattle.sp_cli.specs.Stages.{check_refusal}
use Rattle.sp_cli.specs.declared.refusal.Refusal.TheVariants as refusal
use Rattle.sp_cli.specs.declared.refusal.Stop.{Stop}
use Rattle.sp_cli.specs.declared.refusal.Stop.TheVariants as stop

abbrev pub text_stop : Refused TextKind → Stop
text_stop (refused.At line kind) = stop.Refused (refusal.Text line kind)
text_stop refused.Memory = stop.Memory

abbrev pub asm_stop : Refused AsmKind → Stop
asm_stop (refused.At line kind) = stop.Refused (refusal.Asm line kind)
asm_stop refused.Memory = stop.Memory

abbrev pub check_stop : Refused CheckKind → Stop
check_stop (refused.At line kind) = stop.Refused (check_refusal line kind)
check_stop refused.Memory = stop.Memory

abbrev pub image_stop : Refused HexKind → Stop
image_stop (refused.At line kind) = stop.Refused (refusal.Image line kind)
image_stop refused.Memory = stop.Memory

abbrev pub verifier_stop : Refusal → Stop
verifier_stop verifier.NotBuilt = stop.Refused refusal.NotBuilt
verifier_stop (verifier.Open name number) = stop.Refused (refusal.Open name number)
verifier_stop verifier.Memory = stop.Memory
