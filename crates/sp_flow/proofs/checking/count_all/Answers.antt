use Rattle.std.proofs.Common.{◌≡◌, ap, arith, length}
use Rattle.sp_flow.proofs.BrokenLemmas.{none_broken, routine_more, routines_all}
use Rattle.sp_prog.specs.Program.{Program}
use Rattle.sp_prog.specs.declared.routine.Routine.{Routine}
use Rattle.sp_flow.proofs.checking.count_all.Goals as goal

pub routines-init : goal.routines-init
routines-init c = none_broken c.args.unit.now

pub returns : goal.returns
returns c =
    let p = c.args.unit.now in
    let as_many : length c.unit.inside.routines ≡ length p.routines = ap (λ (q : Program). length q.routines) c.unit.view_is in
    let seen = ap (length {A = Routine}) c.as_slice-place-end.ensures in
    routines_all p c.routines.place c.routines.best (let past = c.routines-test.false in omega (arith, as_many, seen, past)) c.routines.invariant

pub routines-preserved : goal.routines-preserved
routines-preserved c = routine_more c.args.unit.now c.routines.place c.routines.best c.in_ok-next.next c.routines.invariant c.in_ok-next.ensures
