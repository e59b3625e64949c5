use Rattle.sp_graph.proofs.SearchLemmas.{go_on}
use Rattle.sp_graph.proofs.search.go_on.Goals as goal

pub returns : goal.returns
returns c =
    rw (c.in_ok-found.ensures, c.access_at.ensures)
    (go_on c.args.graph.now c.args.from c.requires.short c.args.steps.now c.requires.trail c.args.at c.requires.inside)
