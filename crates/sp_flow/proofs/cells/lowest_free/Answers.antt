use Rattle.std.proofs.Common.{arith}
use Rattle.sp_flow.proofs.CellLemmas.{more_covered}
use Rattle.sp_flow.proofs.cells.lowest_free.Goals as goal

pub cells-preserved : goal.cells-preserved
cells-preserved c =
    let more = c.in-Some.ensures in
    record {
      low = (let l = c.cells.invariant.low in let m = more.0 in omega (arith, l, m));
      covered =
          more_covered c.args.areas.now c.args.one.now c.args.other.now c.args.first c.cells.cell c.in-Some.next c.cells.invariant.covered more.1;
    }

pub returns : goal.returns
returns c d l m = c.cells.invariant.covered d l (let past = c.cells-test.false in omega (arith, m, past))
