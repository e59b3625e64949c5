use Rattle.std.proofs.Common.{rules, ◌≡◌, sym, subst, w64, ℤ, Option, Some, IfOk}
use Rattle.std.proofs.lemmas.Int.{to_z-of_z}
use Rattle.sp_term.specs.Tree.{Tree}
use Rattle.sp_term.specs.Pools.{tree_at}
use Rattle.sp_linear.specs.Linear.{named}
use Rattle.sp_linear.specs.code.Tests.{concludes}
use Rattle.sp_linear.proofs.PlaceLemmas.{step_size, place_is}
use Rattle.sp_linear.proofs.step.conclusion.Goals as goal

pub applies-requires-clause-size : goal.applies-requires-clause-size
applies-requires-clause-size c =
    step_size _ _ c.args.goal.now _ c.args.n0 _ c.in-Some.sum (to_z-of_z w64 c.args.n0 (search rules)) c.requires c.in_ok-sum.ensures.sum c.in-Some.is

pub returns-in-Some : goal.returns-in-Some
returns-in-Some c =
    subst (λ (o : Option Tree). IfOk c.applies.result (λ b. b ≡ concludes c.args.n0 (named c.args.by.now) c.args.goal.now o))
    (sym (place_is _ _ _ c.in-Some.sum c.in_ok-sum.ensures.sum c.in-Some.is).1)
    (subst (λ (z : ℤ). IfOk c.applies.result (λ b. b ≡ concludes z (named c.args.by.now) c.args.goal.now (Some (tree_at c.sum_term.new.pool c.in-Some.sum.0))))
    (to_z-of_z w64 c.args.n0 (search rules)) c.applies.ensures)
