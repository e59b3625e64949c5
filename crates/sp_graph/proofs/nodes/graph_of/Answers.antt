use Rattle.std.proofs.Common.{◌≡◌, ◌<◌, List, ap, arith, length, get_or}
use Rattle.sp_prog.specs.declared.routine.Routine.{Routine}
use Rattle.sp_prog.specs.declared.routine.Stmt.{Stmt}
use Rattle.sp_prog.specs.Program.{Program}
use Rattle.sp_graph.proofs.nodes.graph_of.Goals as goal

pub returns-clause-some : goal.returns-clause-some
returns-clause-some c =
    let as_many : length c.unit.inside.routines ≡ length c.args.unit.now.routines = ap (λ (p : Program). length p.routines) c.unit.view_is in
    let within : c.args.routine < length c.unit.inside.routines = let l = c.requires in omega (arith, as_many, l) in
    let some = (c.unit.invariant.routines c.args.routine c.index-routines-routine.result within).some in
    let code = ap (λ (r : Routine). length r.code) c.index-routines-routine.is in
    let same = ap (λ (rs : List Routine). length (get_or rs c.args.routine c.index-routines-routine.result).code) c.as_slice-routines.ensures in
    omega (arith, c.in_ok-graph.ensures.size, some, code, same, ap (length {A = Stmt}) c.as_slice.ensures)
