use Rattle.std.proofs.Common.{Option, subst}
use Rattle.sp_flow.specs.Flow.{IsBroken}
use Rattle.sp_flow.specs.code.Faults.{IsFirst}
use Rattle.sp_flow.specs.declared.fault.Fault.{Fault}
use Rattle.sp_flow.proofs.BrokenLemmas.{flowing, refused}
use Rattle.sp_flow.proofs.checking.answer.Goals as goal

pub returns-in-Some : goal.returns-in-Some
returns-in-Some c =
    refused c.args.unit.now c.in-Some.fault
    (subst (λ (o : Option Fault). IsFirst (λ f. IsBroken c.args.unit.now f.line.0 f.kind) o) c.in-Some.is c.requires)

pub returns-in-None : goal.returns-in-None
returns-in-None c =
    flowing c.args.unit.now (subst (λ (o : Option Fault). IsFirst (λ f. IsBroken c.args.unit.now f.line.0 f.kind) o) c.in-None.is c.requires)
