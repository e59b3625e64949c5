use Rattle.std.proofs.Common.{Option, subst}
use Rattle.sp_struct.specs.Kinds.{IsLowestDifference}
use Rattle.sp_struct.specs.declared.differences.Difference.{Difference}
use Rattle.sp_struct.proofs.KeptLemmas.{refused_depth, kept_depth}
use Rattle.sp_struct.proofs.checking.refuse_difference.Goals as goal

pub returns-in-Some : goal.returns-in-Some
returns-in-Some c =
    rw c.depth_kind.ensures (refused_depth c.args.unit.now c.requires.kept c.args.best c.requires.lowest c.in-Some.found c.in-Some.is)

pub returns-in-None : goal.returns-in-None
returns-in-None c =
    let p = c.args.unit.now in
    kept_depth p c.requires.kept (subst (λ (o : Option Difference). IsLowestDifference p o) c.in-None.is c.requires.lowest)
