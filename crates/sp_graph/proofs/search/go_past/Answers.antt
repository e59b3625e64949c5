use Rattle.std.proofs.Common.{sym, ◌∙◌}
use Rattle.sp_graph.proofs.SearchLemmas.{past_on, past_none}
use Rattle.sp_graph.proofs.search.go_past.Goals as goal

pub returns-in_ok-push-in-Some-clause-ok : goal.returns-in_ok-push-in-Some-clause-ok
returns-in_ok-push-in-Some-clause-ok c =
    rw c.in_ok-push-in-Some.ensures.ok
    (past_on c.args.graph.now c.args.from c.requires.short c.args.steps.now c.requires.trail c.args.step c.in-Some.to
    (sym c.way_at.ensures ∙ c.in-Some.is) c.requires.inside)

pub returns-in-None-clause-ok : goal.returns-in-None-clause-ok
returns-in-None-clause-ok c =
    rw c.turn.ensures
    (past_none c.args.graph.now c.args.from c.requires.short c.args.steps.now c.requires.trail c.args.step
    (sym c.way_at.ensures ∙ c.in-None.is) c.requires.inside)
