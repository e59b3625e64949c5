use Rattle.std.proofs.Common.{rules, w64, FitsSigned, sym, subst}
use Rattle.std.proofs.lemmas.Int.{to_z-of_z}
use Rattle.sp_steps.specs.Steps as steps
use Rattle.sp_steps.specs.Next.{Applies}
use Rattle.sp_script_text.specs.Steps.{seen}
use Rattle.sp_script_meaning.specs.Checking.{rule_step}
use Rattle.sp_script.proofs.performing.perform.Goals as goal

pub returns-in-Close : goal.returns-in-Close
returns-in-Close c = subst (λ s. Applies (rule_step c.args.place.image.now (seen s)) c.args.goals c.close.result) (sym c.in-Close.is) c.close.ensures

pub returns-in-Simp : goal.returns-in-Simp
returns-in-Simp c = subst (λ s. Applies (rule_step c.args.place.image.now (seen s)) c.args.goals c.simp.result) (sym c.in-Simp.is) c.simp.ensures

pub returns-in-Split : goal.returns-in-Split
returns-in-Split c = subst (λ s. Applies (rule_step c.args.place.image.now (seen s)) c.args.goals c.split.result) (sym c.in-Split.is) c.split.ensures

pub returns-in-Intro : goal.returns-in-Intro
returns-in-Intro c = subst (λ s. Applies (rule_step c.args.place.image.now (seen s)) c.args.goals c.intro.result) (sym c.in-Intro.is) c.intro.ensures

pub returns-in-SideLeft : goal.returns-in-SideLeft
returns-in-SideLeft c = subst (λ s. Applies (rule_step c.args.place.image.now (seen s)) c.args.goals c.side.result) (sym c.in-SideLeft.is) c.side.ensures

pub returns-in-SideRight : goal.returns-in-SideRight
returns-in-SideRight c = subst (λ s. Applies (rule_step c.args.place.image.now (seen s)) c.args.goals c.side-in-SideRight.result) (sym c.in-SideRight.is) c.side-in-SideRight.ensures

pub returns-in-Unpack : goal.returns-in-Unpack
returns-in-Unpack c = subst (λ s. Applies (rule_step c.args.place.image.now (seen s)) c.args.goals c.unpack.result) (sym c.in-Unpack.is) c.unpack.ensures

pub returns-in-UseBoth : goal.returns-in-UseBoth
returns-in-UseBoth c = subst (λ s. Applies (rule_step c.args.place.image.now (seen s)) c.args.goals c.use_both.result) (sym c.in-UseBoth.is) c.use_both.ensures

pub returns-in-CasesOf : goal.returns-in-CasesOf
returns-in-CasesOf c = subst (λ s. Applies (rule_step c.args.place.image.now (seen s)) c.args.goals c.cases.result) (sym c.in-CasesOf.is) c.cases.ensures

pub returns-in-CasesBy : goal.returns-in-CasesBy
returns-in-CasesBy c = subst (λ s. Applies (rule_step c.args.place.image.now (seen s)) c.args.goals c.cases-in-CasesBy.result) (sym c.in-CasesBy.is) c.cases-in-CasesBy.ensures

pub returns-in-Cut : goal.returns-in-Cut
returns-in-Cut c = subst (λ s. Applies (rule_step c.args.place.image.now (seen s)) c.args.goals c.cut.result) (sym c.in-Cut.is) c.cut.ensures

pub returns-in-Fix : goal.returns-in-Fix
returns-in-Fix c = subst (λ s. Applies (rule_step c.args.place.image.now (seen s)) c.args.goals c.fix.result) (sym c.in-Fix.is) c.fix.ensures

pub returns-in-At : goal.returns-in-At
returns-in-At c = subst (λ s. Applies (rule_step c.args.place.image.now (seen s)) c.args.goals c.at.result) (sym c.in-At.is) c.at.ensures

pub returns-in-Give : goal.returns-in-Give
returns-in-Give c = subst (λ s. Applies (rule_step c.args.place.image.now (seen s)) c.args.goals c.give.result) (sym c.in-Give.is) c.give.ensures

pub returns-in-Pick : goal.returns-in-Pick
returns-in-Pick c = subst (λ s. Applies (rule_step c.args.place.image.now (seen s)) c.args.goals c.pick.result) (sym c.in-Pick.is) c.pick.ensures

pub returns-in-Induct : goal.returns-in-Induct
returns-in-Induct c = subst (λ s. Applies (rule_step c.args.place.image.now (seen s)) c.args.goals c.induct.result) (sym c.in-Induct.is) c.induct.ensures

pub returns-in-Rewrite : goal.returns-in-Rewrite
returns-in-Rewrite c = subst (λ s. Applies (rule_step c.args.place.image.now (seen s)) c.args.goals c.rewrite.result) (sym c.in-Rewrite.is) c.rewrite.ensures

pub returns-in-Linear : goal.returns-in-Linear
returns-in-Linear c =
    let fits : FitsSigned w64 c.in-Linear.n = search rules in
    subst (λ s. Applies (rule_step c.args.place.image.now (seen s)) c.args.goals c.linear.result) (sym c.in-Linear.is)
    (subst (λ z. Applies (steps.Linear z c.in-Linear.by.now) c.args.goals c.linear.result) (to_z-of_z w64 c.in-Linear.n fits) c.linear.ensures)

pub returns-in-DivMod : goal.returns-in-DivMod
returns-in-DivMod c =
    let fits : FitsSigned w64 c.in-DivMod.c = search rules in
    subst (λ s. Applies (rule_step c.args.place.image.now (seen s)) c.args.goals c.divmod.result) (sym c.in-DivMod.is)
    (subst (λ z. Applies (steps.DivMod c.in-DivMod.x.now z) c.args.goals c.divmod.result) (to_z-of_z w64 c.in-DivMod.c fits) c.divmod.ensures)

pub returns-in-Range : goal.returns-in-Range
returns-in-Range c = subst (λ s. Applies (rule_step c.args.place.image.now (seen s)) c.args.goals c.range.result) (sym c.in-Range.is) c.range.ensures

pub returns-in-Read : goal.returns-in-Read
returns-in-Read c = subst (λ s. Applies (rule_step c.args.place.image.now (seen s)) c.args.goals c.read.result) (sym c.in-Read.is) c.read.ensures

pub returns-in-Rom : goal.returns-in-Rom
returns-in-Rom c =
    let fits : FitsSigned w64 c.in-Rom.c = search rules in
    subst (λ s. Applies (rule_step c.args.place.image.now (seen s)) c.args.goals c.rom.result) (sym c.in-Rom.is)
    (subst (λ z. Applies (steps.Rom c.in-Rom.m.now z c.args.place.image.now) c.args.goals c.rom.result) (to_z-of_z w64 c.in-Rom.c fits) c.rom.ensures)

pub returns-in-Frame : goal.returns-in-Frame
returns-in-Frame c = subst (λ s. Applies (rule_step c.args.place.image.now (seen s)) c.args.goals c.frame.result) (sym c.in-Frame.is) c.frame.ensures

pub returns-in-Bits : goal.returns-in-Bits
returns-in-Bits c = subst (λ s. Applies (rule_step c.args.place.image.now (seen s)) c.args.goals c.bits.result) (sym c.in-Bits.is) c.bits.ensures

pub returns-in-BitOf : goal.returns-in-BitOf
returns-in-BitOf c =
    let fits : FitsSigned w64 c.in-BitOf.k = search rules in
    subst (λ s. Applies (rule_step c.args.place.image.now (seen s)) c.args.goals c.bitof.result) (sym c.in-BitOf.is)
    (subst (λ z. Applies (steps.BitOf z c.in-BitOf.x.now) c.args.goals c.bitof.result) (to_z-of_z w64 c.in-BitOf.k fits) c.bitof.ensures)

pub returns-in-Choose : goal.returns-in-Choose
returns-in-Choose c = subst (λ s. Applies (rule_step c.args.place.image.now (seen s)) c.args.goals c.choose.result) (sym c.in-Choose.is) c.choose.ensures

pub returns-in-Empty : goal.returns-in-Empty
returns-in-Empty c = subst (λ s. Applies (rule_step c.args.place.image.now (seen s)) c.args.goals c.empty.result) (sym c.in-Empty.is) c.empty.ensures

pub returns-in-Last : goal.returns-in-Last
returns-in-Last c = subst (λ s. Applies (rule_step c.args.place.image.now (seen s)) c.args.goals c.last.result) (sym c.in-Last.is) c.last.ensures

pub returns-in-Over : goal.returns-in-Over
returns-in-Over c = subst (λ s. Applies (rule_step c.args.place.image.now (seen s)) c.args.goals c.over.result) (sym c.in-Over.is) c.over.ensures
