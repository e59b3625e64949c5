use Rattle.std.proofs.Common.{arith}
use Rattle.sp_flow.proofs.PortLemmas.{ports_more, ports_all}
use Rattle.sp_flow.proofs.ports.lowest_port.Goals as goal

pub ports-preserved : goal.ports-preserved
ports-preserved c =
    ports_more c.args.so_far c.args.ports.now c.args.own.now c.ports.at c.ports.best c.lower_unless-best.result c.ports-test.true c.ports.invariant
    c.lower_unless-best.ensures

pub returns : goal.returns
returns c = ports_all c.args.so_far c.args.ports.now c.args.own.now c.ports.at c.ports.best (let past = c.ports-test.false in let end = c.ports.auto.at-end in omega (arith, past, end)) c.ports.invariant
