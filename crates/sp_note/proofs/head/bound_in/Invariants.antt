use Rattle.std.proofs.Common.{◌≡◌, take}
use Rattle.sp_note.specs.Bounds.{bound_of_name}
use Rattle.sp_note.specs.code.Frames.{bounds_in, stack_of}
use Rattle.sp_note.proofs.head.bound_in.Given as goal

abbrev pub invariant-loop-frame : goal.invariant-loop-frame
invariant-loop-frame l = l.bound ≡ bound_of_name (bounds_in (stack_of (take l.frame-index l.frames))) l.name
