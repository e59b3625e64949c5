use Rattle.std.proofs.Common.{◌≡◌, [], true, false, sym, ap, ◌∙◌}
use Rattle.sp_note.specs.code.Frames.{stack_of}
use Rattle.sp_note.specs.code.Heads.{place_of}
use Rattle.sp_note.specs.code.Operands.{known_of}
use Rattle.sp_note.specs.code.Parser.{state_of}
use Rattle.sp_note.proofs.ParserLemmas.{whole_ends, part_ends}
use Rattle.sp_note.proofs.StackLemmas.{empty_stack, full_stack}
use Rattle.sp_note.proofs.parser.Parser.finish.Goals as goal

pub returns-then-is_empty : goal.returns-then-is_empty
returns-then-is_empty c =
    whole_ends (state_of c.args.self) (known_of c.in-After.operand) (known_of c.in_ok-operand.operand) c.in-After.field-1 (stack_of c.reduce.new.self.frames.items) (ap place_of c.in-After.is) c.in_ok-operand.ensures.0
    (empty_stack c.reduce.new.self.frames (sym c.is_empty.ensures ∙ c.if-is_empty.true))

pub returns : goal.returns
returns c =
    let some = full_stack c.reduce.new.self.frames (sym c.is_empty.ensures ∙ c.if-is_empty.false) in
    part_ends (state_of c.args.self) (known_of c.in-After.operand) (known_of c.in_ok-operand.operand) c.in-After.field-1 some.0 some.1 (stack_of c.reduce.new.self.frames.items) (ap place_of c.in-After.is) c.in_ok-operand.ensures.0 some.2
