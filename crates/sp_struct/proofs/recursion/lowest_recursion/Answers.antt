use Rattle.std.proofs.Common.{◌≡◌, ap, arith, length}
use Rattle.std.proofs.lemmas.Option.{slice_get_within}
use Rattle.sp_prog.specs.declared.routine.Routine.{Routine}
use Rattle.sp_prog.specs.Program.{Program}
use Rattle.sp_struct.specs.code.Calls.{RecursHere}
use Rattle.sp_struct.proofs.LowestLemmas.{all_done}
use Rattle.sp_struct.proofs.RecursionLemmas.{recursion_told}
use Rattle.sp_struct.proofs.recursion.lowest_recursion.Goals as goal

pub returns : goal.returns
returns c =
    let p = c.args.unit.now in
    let as_many : length c.unit.inside.routines ≡ length p.routines = ap (λ (q : Program). length q.routines) c.unit.view_is in
    let seen = ap (length {A = Routine}) c.as_slice-place-end.ensures in
    recursion_told p c.routines.best (all_done (RecursHere p) c.routines.place 0 c.routines.best c.routines.invariant
    (λ i j line h. let l = slice_get_within p.routines i h.0 h.2.among in let past = c.routines-test.false in omega (arith, l, as_many, seen, past)))
