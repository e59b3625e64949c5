use Rattle.std.proofs.Common.{◌∙◌, sym, arith}
use Rattle.sp_graph.proofs.NodeLemmas.{in_graph, length_graph, node_added, no_node_left, stmt_at}
use Rattle.sp_graph.proofs.nodes.graph_of_code.Goals as goal

pub places-preserved : goal.places-preserved
places-preserved c =
    let s = stmt_at c.args.code.now c.places.at c.places-test.true in
    rw (c.in_ok-push.ensures.items, c.node_of.ensures s.0 s.1)
    (node_added c.args.routines.now c.args.code.now c.places.graph.items c.places.at s.0 s.1 ∙ c.places.invariant)

pub returns-clause-graph : goal.returns-clause-graph
returns-clause-graph c =
    sym (no_node_left c.args.routines.now c.args.code.now c.places.graph.items c.places.at (omega (arith, c.places-test.false))) ∙ c.places.invariant

pub returns-clause-whole : goal.returns-clause-whole
returns-clause-whole c =
    let graph = sym (no_node_left c.args.routines.now c.args.code.now c.places.graph.items c.places.at (omega (arith, c.places-test.false))) ∙ c.places.invariant in
    rw graph (in_graph c.args.routines.now c.args.code.now)

pub returns-clause-size : goal.returns-clause-size
returns-clause-size c =
    let graph = sym (no_node_left c.args.routines.now c.args.code.now c.places.graph.items c.places.at (omega (arith, c.places-test.false))) ∙ c.places.invariant in
    rw graph (length_graph c.args.routines.now c.args.code.now)
