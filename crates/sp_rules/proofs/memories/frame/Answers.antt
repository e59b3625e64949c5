use Rattle.std.proofs.Common.{◌≡◌, sym, subst}
use Rattle.sp_steps.specs.Steps.{Frame}
use Rattle.sp_steps.specs.Rows.{unchanged, change_of_memory}
use Rattle.sp_rules.specs.code.Work.{changes_of}
use Rattle.sp_rules.specs.code.Outcome.{Becomes, carried}
use Rattle.sp_rules.proofs.ApplyLemmas.{applies_at}
use Rattle.sp_rules.proofs.memories.frame.Goals as goal

pub returns : goal.returns
returns c =
    let work = c.in_ok-work.work in
    let aim = c.in_ok-work.goal.now in
    let same : c.args.goals.changes ≡ changes_of work = c.in_ok-work.ensures.entered.1 in
    applies_at (Frame c.args.m.now c.args.x.now) c.args.goals work aim (unchanged c.args.m.now (change_of_memory c.args.m.now c.args.goals.changes) c.args.x.now aim) c.frame_at.result
    (record { subgoals = c.in_ok-work.ensures.entered.0; changes = c.in_ok-work.ensures.entered.1 }) (record { holds = λ made e. e; only = λ made e. e })
    (subst (λ cs. Becomes c.frame_at.result (carried (unchanged c.args.m.now (change_of_memory c.args.m.now cs) c.args.x.now aim) work)) (sym same) c.frame_at.ensures)
