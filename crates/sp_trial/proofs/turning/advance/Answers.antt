use Rattle.std.proofs.Common.{◌≡◌, ◌∙◌, sym, ap, true, false, true≢false, rules}
use Rattle.sp_isa.specs.Core.{Core}
use Rattle.sp_trial.proofs.TurnLemmas.{core_after, halted_turn, is_returns, not_stuck, returned_turn, returns_is, stuck_turn}
use Rattle.sp_trial.proofs.turning.advance.Goals as goal

pub returns-in-Stuck : goal.returns-in-Stuck
returns-in-Stuck c = λ inputs n t lt core next.
    stuck_turn c.args.plan.now c.requires.plan inputs t c.args.machine.now core n c.args.steps c.in-Stuck.byte lt c.in-Stuck.ensures.event

pub returns-then-returns : goal.returns-then-returns
returns-then-returns c = λ inputs n t lt core next.
    let plan = c.args.plan.now in
    returned_turn plan c.requires.plan inputs t c.args.machine.now c.step-event.new.self core
    (core_after t c.args.machine.now c.step-event.new.self c.args.input core next c.step-event.ensures.state) n c.args.steps lt
    (not_stuck plan c.requires.plan inputs t c.args.machine.now core c.step-event.result c.step-event.ensures.event c.in_default.not-Stuck)
    (returns_is plan c.requires.plan inputs t c.args.machine.now core (c.is_return_step-returns.ensures.0 c.if-returns.true)) _ c.finish.result c.finish.ensures

pub returns-then-halted : goal.returns-then-halted
returns-then-halted c = λ inputs n t lt core next.
    let plan = c.args.plan.now in
    let after = core_after t c.args.machine.now c.step-event.new.self c.args.input core next c.step-event.ensures.state in
    let halted : c.step-event.new.self.halted ≡ true = search rules in
    halted_turn plan c.requires.plan inputs t c.args.machine.now core n c.args.steps lt
    (not_stuck plan c.requires.plan inputs t c.args.machine.now core c.step-event.result c.step-event.ensures.event c.in_default.not-Stuck)
    (λ r. true≢false (sym (c.is_return_step-returns.ensures.1 (is_returns plan c.requires.plan inputs t c.args.machine.now core r)) ∙ c.if-returns.false))
    (ap (λ (k : Core). k.halted) after ∙ halted)

pub returns : goal.returns
returns c = λ inputs n t lt core next.
    let plan = c.args.plan.now in
    let after = core_after t c.args.machine.now c.step-event.new.self c.args.input core next c.step-event.ensures.state in
    let running : c.step-event.new.self.halted ≡ false = search rules in (
      (
        record {
          not_stuck = not_stuck plan c.requires.plan inputs t c.args.machine.now core c.step-event.result c.step-event.ensures.event c.in_default.not-Stuck;
          no_return = λ r. true≢false (sym (c.is_return_step-returns.ensures.1 (is_returns plan c.requires.plan inputs t c.args.machine.now core r)) ∙ c.if-returns.false);
          no_halt = ap (λ (k : Core). k.halted) after ∙ running;
        },
        sym after,
      ),
      c.step-event.ensures.event,
    )
