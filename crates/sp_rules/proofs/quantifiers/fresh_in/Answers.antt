use Rattle.std.proofs.Common.{subst, IfOk}
use Rattle.sp_steps.specs.Subgoals.{subgoal, IsFresh}
use Rattle.sp_rules.proofs.quantifiers.fresh_in.Goals as goal

pub returns : goal.returns
returns c = subst (λ hs. IfOk c.fresh.result (λ j. IsFresh (subgoal hs c.args.goal.now) j)) c.hypotheses.ensures c.fresh.ensures
