use Rattle.std.specs.Prelude.{Contains}
use Rattle.sp_flow.specs.Flow.{ports_out}
use Rattle.sp_flow.proofs.OwnLemmas.{few_out, least_of_one}
use Rattle.sp_flow.proofs.own.put_port.Goals as goal

pub returns : goal.returns
returns c =
    least_of_one (ports_out c.args.instr.now) (λ n. Contains c.args.own.now n → ⊥) (few_out c.args.instr.now) c.port_out-port.result c.unless_listed-left.result
    c.port_out-port.ensures c.unless_listed-left.ensures
