use Rattle.sp_graph.specs.Structure.{TakesTooMuch, PassesRegion}
use Rattle.sp_struct.proofs.HeaderLemmas.{lower_of_both, lower_of_one}
use Rattle.sp_struct.proofs.headers.lowest_over_depth.Goals as goal

pub returns-in-Some : goal.returns-in-Some
returns-in-Some c =
    let p = c.args.unit.now in
    rw c.lower.ensures (lower_of_both (TakesTooMuch p) (PassesRegion p) c.lowest-inside.result c.in-Some.line c.lowest-inside.ensures c.in-Some.ensures)

pub returns-in-None : goal.returns-in-None
returns-in-None c =
    let p = c.args.unit.now in
    lower_of_one (TakesTooMuch p) (PassesRegion p) c.lowest-inside.result c.lowest-inside.ensures c.in-None.ensures
