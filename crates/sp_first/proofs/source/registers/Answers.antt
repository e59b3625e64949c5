use Rattle.std.proofs.Common.{sym, ◌∙◌}
use Rattle.sp_first.specs.Words.{words}
use Rattle.sp_first.proofs.ReadLaws.{none_follows, register_follows, next_register_shorter}
use Rattle.sp_first.proofs.source.registers.Goals as goal

pub returns-in_default : goal.returns-in_default
returns-in_default c = none_follows (words c.loop-rest.rest.now) c.loop-rest.regs.items _ (sym c.is_at_end.ensures ∙ c.loop-rest-test.true) (sym c.in_default.ensures) c.loop-rest.invariant

pub loop-rest-smaller : goal.loop-rest-smaller
loop-rest-smaller c = next_register_shorter (words c.loop-rest.rest.now) (c.in-Some.reg, words c.in-Some.behind.now) (sym c.in-Some.ensures)

pub loop-rest-preserved : goal.loop-rest-preserved
loop-rest-preserved c =
    rw c.in_ok-push-2.ensures.items
    (register_follows (words c.loop-rest.rest.now) c.loop-rest.regs.items _ c.in-Some.reg (words c.in-Some.behind.now) (sym c.is_at_end.ensures ∙ c.loop-rest-test.true) (sym c.in-Some.ensures) c.loop-rest.invariant)
