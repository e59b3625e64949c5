use Rattle.std.proofs.Common.{subst}
use Rattle.sp_prog.specs.Program.{Program}
use Rattle.sp_prog.specs.Rules.{IsUnit}
use Rattle.sp_struct.proofs.OneLemmas.{one_answer}
use Rattle.sp_struct.proofs.checking.check.Goals as goal

pub returns-clause-complete : goal.returns-clause-complete
returns-clause-complete c =
    one_answer c.args.unit.now (subst (λ (p : Program). IsUnit p) c.unit.view_is c.unit.invariant) c.checked-told.result c.checked-told.ensures
