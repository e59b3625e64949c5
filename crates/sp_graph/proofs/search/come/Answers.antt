use Rattle.std.proofs.Common.{sym, ◌∙◌}
use Rattle.sp_graph.proofs.SearchLemmas.{come_asserted, come_on}
use Rattle.sp_graph.proofs.search.come.Goals as goal

pub returns-in_ok-found : goal.returns-in_ok-found
returns-in_ok-found c =
    rw c.in_ok-found.ensures
    (come_asserted c.args.graph.now c.args.from c.requires.short c.args.steps.now c.requires.trail c.args.at
    (sym c.has_assertion.ensures ∙ c.if-has_assertion.true))

pub returns-else-has_assertion : goal.returns-else-has_assertion
returns-else-has_assertion c =
    come_on c.args.graph.now c.args.from c.requires.short c.args.steps.now c.requires.trail c.args.at
    (sym c.has_assertion.ensures ∙ c.if-has_assertion.false) c.requires.reached
