use Rattle.std.proofs.Common.{Option, subst}
use Rattle.sp_base.specs.declared.line.Line.{Line}
use Rattle.sp_struct.specs.Kinds.{IsLowestLine}
use Rattle.sp_struct.specs.Refusals.{BreaksRule}
use Rattle.sp_struct.proofs.KeptLemmas.{refused, kept_more}
use Rattle.sp_struct.proofs.checking.refuse.Goals as goal

pub returns-in-Some : goal.returns-in-Some
returns-in-Some c =
    refused c.args.unit.now c.args.kind c.requires.plain c.requires.kept c.args.best c.requires.lowest c.in-Some.line c.in-Some.is

pub returns-in-None : goal.returns-in-None
returns-in-None c =
    let p = c.args.unit.now in
    kept_more p c.args.kind c.requires.plain c.requires.kept
    (subst (λ (o : Option Line). IsLowestLine (BreaksRule p c.args.kind) o) c.in-None.is c.requires.lowest)
