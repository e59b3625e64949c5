use Rattle.std.proofs.Common.{◌+◌, arith}
use Rattle.sp_note.proofs.StackLemmas.{open_within}
use Rattle.sp_note.proofs.parser.Parser.measured.Goals as goal

pub overflow_add-self : goal.overflow_add-self
overflow_add-self c =
    let few = open_within c.args.self.frames.items in
    omega (arith, few, c.args.self.counted, c.as_slice-frames.ensures, c.as_slice-frames.type_inv)
