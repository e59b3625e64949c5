use Rattle.std.proofs.Common.{sym, ◌∙◌}
use Rattle.sp_asm.proofs.OperandLaws.{ranges_more, ranges_stop, ranges_all}
use Rattle.sp_asm.proofs.values.are_in_range.Goals as goal

pub returns-then-not-is_in_range : goal.returns-then-not-is_in_range
returns-then-not-is_in_range c = ranges_stop c.args.operands.now c.args.values.now c.loop-i.i c.index-operands-i.result c.requires c.loop-i-test.true c.index-operands-i.is (sym c.is_in_range.ensures ∙ c.if-not-is_in_range.true) ∙ c.loop-i.invariant

pub loop-i-preserved : goal.loop-i-preserved
loop-i-preserved c = ranges_more c.args.operands.now c.args.values.now c.loop-i.i c.index-operands-i.result c.requires c.loop-i-test.true c.index-operands-i.is (sym c.is_in_range.ensures ∙ c.if-not-is_in_range.false) ∙ c.loop-i.invariant

pub returns : goal.returns
returns c = ranges_all c.args.operands.now c.args.values.now c.loop-i.i c.loop-i-test.false ∙ c.loop-i.invariant
