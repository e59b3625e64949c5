use Rattle.sp_asm.specs.Names.{value_in}
use Rattle.sp_asm.proofs.OperandLaws.{values_more}
use Rattle.sp_asm.proofs.values.evaluate.Goals as goal

pub loop-operand-preserved : goal.loop-operand-preserved
loop-operand-preserved c = rw c.in_ok-push.ensures.items
    (values_more (value_in c.args.names.now.entries) c.args.here c.args.operands.now c.loop-operand.operand-index c.loop-operand.values.items c.operand-item.result c.in-Some.found c.loop-operand-test.true c.operand-item.is c.loop-operand.invariant c.in-Some.ensures.some)
