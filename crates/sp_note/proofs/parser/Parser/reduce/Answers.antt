use Rattle.std.proofs.Common.{◌≡◌, Some, sym, ap, ◌∙◌}
use Rattle.sp_note.specs.code.Frames.{frame_of, stack_of, reduced, completed}
use Rattle.sp_note.specs.code.Operands.{Known, known_of}
use Rattle.sp_note.specs.code.Parser.{State, state_of}
use Rattle.sp_note.proofs.ParserLemmas.{reduced-yields, reduced-stays, some_known}
use Rattle.sp_note.proofs.parser.Parser.reduce.Goals as goal

pub returns-in_default : goal.returns-in_default
returns-in_default c =
    let same = c.in_default.ensures.0 in
    let x = known_of c.loop-frame.operand in (
      sym c.loop-frame.invariant.0 ∙ reduced-stays c.args.rank (stack_of c.loop-frame.self.frames.items) x c.in_default.ensures.1 ∙ ap (λ (s : State). (s.stack, x)) (sym same),
      ap (λ (s : State). s.place) same ∙ c.loop-frame.invariant.1,
      ap (λ (s : State). s.most) same ∙ c.loop-frame.invariant.2,
    )

pub loop-frame-preserved : goal.loop-frame-preserved
loop-frame-preserved c =
    let popped = c.in-Some.ensures.0 in
    let x = known_of c.loop-frame.operand in
    let done = some_known (completed (frame_of c.in-Some.frame) x) (known_of c.in_ok-operand.operand) c.in_ok-operand.ensures in (
      ap (reduced c.args.rank (stack_of c.pop_within.new.self.frames.items)) (sym done)
          ∙ sym (reduced-yields c.args.rank (stack_of c.loop-frame.self.frames.items) (frame_of c.in-Some.frame) (stack_of c.pop_within.new.self.frames.items) x popped.top c.in-Some.ensures.1)
          ∙ c.loop-frame.invariant.0,
      popped.place ∙ c.loop-frame.invariant.1,
      popped.most ∙ c.loop-frame.invariant.2,
    )
