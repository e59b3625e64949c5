use Rattle.std.proofs.Common.{◌≤◌, length, sum_by, sym, subst, List, arith}
use Rattle.sp_prog.specs.declared.routine.Routine.{Routine}
use Rattle.sp_prog.specs.Program.{program}
use Rattle.sp_check.proofs.CountLemmas.{few_instructions}
use Rattle.sp_check.proofs.counting.instruction_count.Goals as goal

pub count_all-requires : goal.count_all-requires
count_all-requires c =
    let u = c.unit.inside in
    let few = few_instructions (program u.image u.first u.last u.areas u.routines) c.unit.invariant in
    let all = subst (λ (rs : List Routine). sum_by (λ (r : Routine). length r.code) rs ≤ 67108864) (sym c.as_slice.ensures) few in
    omega (arith, all)
