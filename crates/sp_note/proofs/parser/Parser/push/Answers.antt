use Rattle.std.proofs.Common.{◌≡◌, ◌+◌, max, sym, ap, ◌∙◌, arith}
use Rattle.sp_note.specs.code.Frames.{frame_of, weight, open_in, stack_of}
use Rattle.sp_note.specs.code.Parser.{state_of}
use Rattle.sp_note.proofs.ParserLemmas.{pushed_state}
use Rattle.sp_note.proofs.StackLemmas.{open_on, open_within, popped}
use Rattle.sp_note.proofs.parser.Parser.push.Goals as goal

pub overflow_add-nested : goal.overflow_add-nested
overflow_add-nested c =
    let few = open_within c.args.self.frames.items in
    omega (arith, few, c.args.self.counted, c.args.self.frames.ok.0, c.weight-weight.ensures.small, c.in_ok-push.ensures.len, c.len-len.ensures, c.len-len.type_inv)

pub invariant_of-result : goal.invariant_of-result
invariant_of-result c =
    let on = open_on (frame_of c.args.frame) (stack_of c.args.self.frames.items) in
    let seen = ap open_in (popped c.push.new.self.items c.args.self.frames.items c.args.frame c.in_ok-push.ensures.items) in
    record { counted = omega (arith, on, seen, c.args.self.counted, c.weight-weight.ensures.value) }

pub returns : goal.returns
returns c =
    let stack = popped c.push.new.self.items c.args.self.frames.items c.args.frame c.in_ok-push.ensures.items in
    let on = open_on (frame_of c.args.frame) (stack_of c.args.self.frames.items) in
    let nested : c.args.self.nested + c.weight-weight.result ≡ open_in (stack_of c.push.new.self.items) = omega (arith, on, ap open_in stack, c.args.self.counted, c.weight-weight.ensures.value) in
    pushed_state (state_of c.args.self) (frame_of c.args.frame) (stack_of c.push.new.self.items) c.max.result stack (c.max.ensures ∙ ap (max c.args.self.most) nested)
