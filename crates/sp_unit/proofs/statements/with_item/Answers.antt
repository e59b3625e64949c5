use Rattle.sp_unit.proofs.CodedLemmas.{with_other, not_instr}
use Rattle.sp_unit.proofs.statements.with_item.Goals as goal

pub returns-in_default : goal.returns-in_default
returns-in_default c s above h = with_other s above c.args.item.now c.args.coding h (not_instr c.args.item.now.kind c.in_default.not-Instr)
