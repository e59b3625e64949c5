use Rattle.std.specs.Prelude.{Contains}
use Rattle.sp_flow.specs.Flow.{ports_in}
use Rattle.sp_flow.proofs.OwnLemmas.{few_in, least_of_one}
use Rattle.sp_flow.proofs.own.taken_port.Goals as goal

pub returns : goal.returns
returns c =
    least_of_one (ports_in c.args.instr.now) (λ n. Contains c.args.own.now n → ⊥) (few_in c.args.instr.now) c.port_in-port.result c.unless_listed-left.result
    c.port_in-port.ensures c.unless_listed-left.ensures
