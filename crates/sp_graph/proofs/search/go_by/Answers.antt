use Rattle.std.proofs.Common.{sym, ◌∙◌}
use Rattle.sp_graph.proofs.SearchLemmas.{by_some, by_none}
use Rattle.sp_graph.proofs.search.go_by.Goals as goal

pub returns-in_ok-found-in-Some : goal.returns-in_ok-found-in-Some
returns-in_ok-found-in-Some c =
    rw c.in_ok-found-in-Some.ensures
    (by_some c.args.graph.now c.args.from c.requires.short c.args.steps.now c.requires.trail c.args.step c.in-Some.branch
    (sym c.branch_at.ensures ∙ c.in-Some.is) c.requires.inside)

pub returns-in-None : goal.returns-in-None
returns-in-None c =
    rw c.turn.ensures
    (by_none c.args.graph.now c.args.from c.requires.short c.args.steps.now c.requires.trail c.args.step
    (sym c.branch_at.ensures ∙ c.in-None.is) c.requires.inside)
