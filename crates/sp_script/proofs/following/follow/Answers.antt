use Rattle.std.proofs.Common.{subst}
use Rattle.sp_script.specs.code.Following.{AnswersLine}
use Rattle.sp_script.proofs.FollowLemmas.{leads_more, leads_all, refused_line}
use Rattle.sp_script.proofs.following.follow.Goals as goal

pub returns-in-Err : goal.returns-in-Err
returns-in-Err c =
    refused_line c.args.place.image.now c.args.steps.now c.args.goals c.loop-written.goals c.loop-written.written-index c.written-item.result c.in-Err.refusal c.loop-written.invariant c.loop-written-test.true c.written-item.is
    (subst (AnswersLine c.args.place.image.now c.loop-written.goals c.written-item.result) c.in-Err.is c.follow_line.ensures)

pub loop-written-preserved : goal.loop-written-preserved
loop-written-preserved c =
    leads_more c.args.place.image.now c.args.steps.now c.args.goals c.loop-written.goals c.in-Ok.next c.loop-written.written-index c.written-item.result c.loop-written.invariant c.loop-written-test.true c.written-item.is
    (subst (AnswersLine c.args.place.image.now c.loop-written.goals c.written-item.result) c.in-Ok.is c.follow_line.ensures)

pub returns : goal.returns
returns c = leads_all c.args.place.image.now c.args.steps.now c.args.goals c.loop-written.goals c.loop-written.written-index c.loop-written.invariant c.loop-written-test.false
