use Rattle.std.proofs.Common.{◌≡◌, ap, arith, length}
use Rattle.sp_prog.specs.declared.routine.Routine.{Routine}
use Rattle.sp_prog.specs.Program.{Program}
use Rattle.sp_struct.specs.code.Lowest.{Breaks}
use Rattle.sp_struct.proofs.LowestLemmas.{all_done, within_unit}
use Rattle.sp_struct.proofs.RuleLemmas.{lowest_line}
use Rattle.sp_struct.proofs.finding.lowest.Goals as goal

pub returns : goal.returns
returns c =
    let p = c.args.unit.now in
    let as_many : length c.unit.inside.routines ≡ length p.routines = ap (λ (q : Program). length q.routines) c.unit.view_is in
    let seen = ap (length {A = Routine}) c.as_slice-place-end.ensures in
    lowest_line p c.args.all.now c.requires c.args.rule c.routines.best (all_done (Breaks p c.args.all.now c.args.rule) c.routines.place 0 c.routines.best c.routines.invariant
    (λ i j line h. let l = within_unit p c.args.all.now c.args.rule i j line h in let past = c.routines-test.false in omega (arith, l, as_many, seen, past)))
