use Rattle.std.proofs.Common.{◌≡◌, length}
use Rattle.sp_note.specs.code.Frames.{reduced}
use Rattle.sp_note.specs.code.Operands.{known_of}
use Rattle.sp_note.specs.code.Parser.{state_of}
use Rattle.sp_note.proofs.parser.Parser.reduce.Given as goal

abbrev pub invariant-loop-frame : goal.invariant-loop-frame
invariant-loop-frame l =
    (reduced l.rank (state_of l.self).stack (known_of l.operand) ≡ reduced l.rank (state_of l.initial.self).stack (known_of l.fn.operand))
    × ((state_of l.self).place ≡ (state_of l.initial.self).place) × ((state_of l.self).most ≡ (state_of l.initial.self).most)

abbrev pub decreases-loop-frame : goal.decreases-loop-frame
decreases-loop-frame l = length (state_of l.self).stack
