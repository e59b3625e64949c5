use Rattle.std.proofs.Common.{rules, ◌+◌, ℤ, pos, w64, FitsSigned, ◌++◌, ◌∷◌, [], sym, subst, take, get_or}
use Rattle.std.proofs.lemmas.Int.{to_z-of_z}
use Rattle.sp_linear.specs.Linear.{named}
use Rattle.sp_steps.specs.Next.{AreNamed}
use Rattle.sp_rules.specs.code.Work.{hypotheses_of}
use Rattle.sp_rules.proofs.NamedLemmas.{none_named, named_more}
use Rattle.sp_rules.proofs.combination.hypotheses_named.Goals as goal

pub returns-in_default : goal.returns-in_default
returns-in_default c = none_named (hypotheses_of c.args.work.now) c.args.by.now c.loop-n.n-index _ c.loop-n-test.true (sym c.in_default.ensures)

pub loop-n-preserved : goal.loop-n-preserved
loop-n-preserved c =
    let hs = hypotheses_of c.args.work.now in
    let i = c.loop-n.n-index in
    let numbers = take (i + 1) c.args.by.now in
    let number : ℤ = (get_or c.args.by.now i (pos 0, 0)).0 in
    let fits : FitsSigned w64 number = search rules in
    subst (λ l. AreNamed hs numbers (named l)) (sym c.in-Ok.ensures.items)
    (subst (λ z. AreNamed hs numbers (named (c.loop-n.named.items ++ (z, c.in-Some.h) ∷ []))) (sym (to_z-of_z w64 number fits))
    (named_more hs c.args.by.now i (pos 0, 0) c.loop-n.named.items c.in-Some.h c.loop-n-test.true c.loop-n.invariant (sym c.in-Some.ensures)))
