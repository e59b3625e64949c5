use Rattle.sp_graph.proofs.SearchLemmas.{go_back}
use Rattle.sp_graph.proofs.search.go_back.Goals as goal

pub returns-in-Some : goal.returns-in-Some
returns-in-Some c =
    rw (c.turn.ensures, c.in-Some.ensures)
    (go_back c.args.graph.now c.args.from c.pop.new.self c.in-Some.step (rw c.in-Some.ensures at c.requires.trail))
