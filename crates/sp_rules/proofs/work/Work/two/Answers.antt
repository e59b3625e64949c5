use Rattle.std.proofs.Common.{arith}
use Rattle.sp_term.specs.Conditions.{trees}
use Rattle.sp_rules.proofs.WorkLemmas.{two_many, two_work}
use Rattle.sp_rules.proofs.work.Work.two.Goals as goal

pub returns-then-len-gt-MOST_SUBGOALS : goal.returns-then-len-gt-MOST_SUBGOALS
returns-then-len-gt-MOST_SUBGOALS c =
    two_many c.args.self (trees c.args.one_added.list.now) (trees c.args.added.list.now) c.args.one_goal.now c.args.goal.now
    (let long = c.if-len-gt-MOST_SUBGOALS.true in let len = c.len.ensures in omega (arith, long, len))

pub returns : goal.returns
returns c =
    two_work c.args.self c.push.new.self c.push-2.new.self (trees c.args.one_added.list.now) (trees c.args.added.list.now) c.args.one_goal.now c.args.goal.now
    c.in_ok-push.ensures.pushed.0 c.in_ok-push.ensures.pushed.1 c.in_ok-push-2.ensures.pushed.0 c.in_ok-push-2.ensures.pushed.1
    c.push.ensures.hypotheses c.push.ensures.frames c.push-2.ensures.frames
    (let few = c.if-len-gt-MOST_SUBGOALS.false in let len = c.len.ensures in omega (arith, few, len))
