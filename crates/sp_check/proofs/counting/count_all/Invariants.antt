use Rattle.std.proofs.Common.{◌≡◌, length, take, sum_by}
use Rattle.sp_prog.specs.declared.routine.Routine.{Routine}
use Rattle.sp_check.proofs.counting.count_all.Given as goal

abbrev pub invariant-loop-routine : goal.invariant-loop-routine
invariant-loop-routine l = l.count ≡ sum_by (λ (r : Routine). length r.code) (take l.routine-index l.routines)
