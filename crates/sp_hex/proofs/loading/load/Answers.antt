use Rattle.std.proofs.Common.{arith}
use Rattle.sp_hex.proofs.LoadLaws.{nothing_below, one_more_loaded, all_loaded}
use Rattle.sp_hex.proofs.loading.load.Goals as goal

pub loop-address-init : goal.loop-address-init
loop-address-init c = nothing_below c.args.image.now c.args.m.now

pub loop-address-preserved : goal.loop-address-preserved
loop-address-preserved c =
    let h = rw c.in-Some.is at c.next.type_inv in
    rw (c.from-from.ensures, c.set_cell.ensures)
    (one_more_loaded c.args.image.now c.loop-address.from (c.in-Some.address, c.in-Some.byte) c.args.m.now c.loop-address.m
    c.in-Some.ensures.some (omega arith) c.reg-b.ensures.core.memory c.loop-address.invariant)

pub returns : goal.returns
returns c = all_loaded c.args.image.now c.loop-address.from c.args.m.now c.loop-address.m c.in_default.ensures.none c.loop-address.invariant
