use Rattle.std.proofs.Common.{◌≡◌, true, ap, sym, ◌∙◌, length}
use Rattle.std.proofs.lemmas.Bool.{eqb-true}
use Rattle.sp_term.specs.Conditions.{trees}
use Rattle.sp_rules.specs.code.Work.{hypotheses_of}
use Rattle.sp_rules.specs.code.Outcome.{may_be_longer}
use Rattle.sp_rules.specs.declared.work.Waiting.{Waiting}
use Rattle.sp_rules.proofs.WorkLemmas.{push_works, push_stacks, longer_nothing, longer_within}
use Rattle.sp_rules.proofs.work.Work.push.Goals.{else-not-is_empty-via-then-not-is_empty+else-kept-added-gt-MOST_HYPOTHESES, else-not-is_empty-via-else-not-is_empty}
use Rattle.sp_rules.proofs.work.Work.push.Goals as goal

pub returns-clause-work : goal.returns-clause-work
returns-clause-work c =
    let s : Waiting = record { kept = c.len-kept.result; added = c.args.added.list; goal = c.args.goal } in
    push_works c.args.self.now.hypotheses.items c.wait.new.self.hypotheses.items c.args.self.now.waiting.items c.wait.new.self.waiting.items s c.requires
    c.in_ok-wait.ensures.waiting (ap (λ v. v.items) c.wait.ensures.hypotheses) (c.len-kept.ensures ∙ c.args.self.now.hypotheses.ok.0)

pub returns-clause-pushed : goal.returns-clause-pushed
returns-clause-pushed c =
    let s : Waiting = record { kept = c.len-kept.result; added = c.args.added.list; goal = c.args.goal } in
    let long : may_be_longer (length (hypotheses_of c.args.self.now)) (trees c.args.added.list.now) ≡ true = elim c.else-not-is_empty.branch [
      | else-not-is_empty-via-then-not-is_empty+else-kept-added-gt-MOST_HYPOTHESES w ↦ longer_within c.args.self.now.hypotheses.items c.args.added.list.now c.len-kept.result (c.len-kept.ensures ∙ c.args.self.now.hypotheses.ok.0) w.if-kept-added-gt-MOST_HYPOTHESES.false
      | else-not-is_empty-via-else-not-is_empty w ↦ longer_nothing _ c.args.added.list.now (eqb-true (length c.args.added.list.now) 0 (sym w.if-not-is_empty.ensures))
    ] in (
      long,
      push_stacks c.args.self.now.hypotheses.items c.wait.new.self.hypotheses.items c.args.self.now.waiting.items c.wait.new.self.waiting.items s
          c.in_ok-wait.ensures.waiting (ap (λ v. v.items) c.wait.ensures.hypotheses) (c.len-kept.ensures ∙ c.args.self.now.hypotheses.ok.0),
    )
