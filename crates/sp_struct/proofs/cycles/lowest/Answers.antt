use Rattle.std.proofs.Common.{◌<◌, arith, length}
use Rattle.sp_graph.proofs.CycleLemmas.{none_below_zero, found_highest, no_highest, has_room}
use Rattle.sp_struct.proofs.cycles.lowest.Goals as goal

pub halves-init : goal.halves-init
halves-init c = record {
  apart = has_room c.args.graph.now (length c.args.graph.now) c.args.on_it c.requires;
  within = omega arith;
  none = none_below_zero c.args.graph.now;
  some = c.requires;
}

pub returns-clause-highest : goal.returns-clause-highest
returns-clause-highest c =
    let a : c.halves.low < c.halves.high = c.halves.invariant.apart in
    found_highest c.args.graph.now c.halves.low c.halves.high (omega arith) c.halves.invariant.none c.halves.on_cycle c.halves.invariant.some

pub returns-clause-lowest : goal.returns-clause-lowest
returns-clause-lowest c = no_highest c.args.graph.now c.halves.low c.halves.invariant.none
