use Rattle.sp_flow.proofs.CellLemmas.{other_covered}
use Rattle.sp_flow.proofs.cells.covered_by.Goals as goal

pub returns-in-None : goal.returns-in-None
returns-in-None c =
    other_covered c.args.areas.now c.args.one.now c.args.other.now c.args.cell c.covered_until-in-None.result c.in-None.ensures
    c.covered_until-in-None.ensures
