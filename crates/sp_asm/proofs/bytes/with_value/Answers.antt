use Rattle.std.proofs.Common.{ap, ◌∙◌}
use Rattle.sp_asm.proofs.DataLaws.{other_value}
use Rattle.sp_asm.proofs.bytes.with_value.Goals as goal

pub returns-in_default : goal.returns-in_default
returns-in_default c = ap (λ r. r.0) c.with_operand.ensures ∙ other_value c.args.found c.args.form c.in_default.not-Rst
