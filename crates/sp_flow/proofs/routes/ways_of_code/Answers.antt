use Rattle.std.proofs.Common.{◌≡◌, ◌<◌, length, sym, ◌∙◌, arith, ap}
use Rattle.sp_graph.proofs.NodeLemmas.{length_graph}
use Rattle.sp_graph.specs.declared.graph.Node.{Node}
use Rattle.sp_flow.proofs.RouteLemmas.{length_ways, no_ways_left, ways_read, ways_within}
use Rattle.sp_flow.proofs.routes.ways_of_code.Goals as goal

pub node_at-requires : goal.node_at-requires
node_at-requires c =
    let l : c.places.at < length c.args.code.now = c.places-test.true in
    let size : length c.args.graph.now ≡ length c.args.code.now = ap (length {A = Node}) c.requires.graph ∙ length_graph c.args.routines.now c.args.code.now in
    omega (arith, l, size)

pub places-preserved : goal.places-preserved
places-preserved c =
    rw c.in_ok-push.ensures.items
    (ways_read c.args.routines.now c.args.code.now c.places.ways.items c.args.graph.now c.places.at c.index-code-at.result c.node_at.result
    c.ways_by.result c.places-test.true (sym c.index-code-at.is) c.node_at.ensures c.requires.graph c.ways_by.ensures
    ∙ c.places.invariant)

pub returns-clause-ways : goal.returns-clause-ways
returns-clause-ways c =
    sym (no_ways_left c.args.routines.now c.args.code.now c.places.ways.items c.places.at (omega (arith, c.places-test.false))) ∙ c.places.invariant

pub returns-clause-whole : goal.returns-clause-whole
returns-clause-whole c =
    let ways = sym (no_ways_left c.args.routines.now c.args.code.now c.places.ways.items c.places.at (omega (arith, c.places-test.false))) ∙ c.places.invariant in
    rw ways (ways_within c.args.routines.now c.args.code.now)

pub returns-clause-size : goal.returns-clause-size
returns-clause-size c =
    let ways = sym (no_ways_left c.args.routines.now c.args.code.now c.places.ways.items c.places.at (omega (arith, c.places-test.false))) ∙ c.places.invariant in
    rw ways (length_ways c.args.routines.now c.args.code.now)
