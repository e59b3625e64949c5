use Rattle.std.proofs.Common.{◌++◌, arith}
use Rattle.sp_term.specs.Conditions.{trees}
use Rattle.sp_conditions.proofs.LimitLemmas.{deepest_within, nodes_of_both, depth_of_both}
use Rattle.sp_conditions.proofs.limits.within_limits.Goals as goal

pub returns-then-deepest-gt-DEEPEST : goal.returns-then-deepest-gt-DEEPEST
returns-then-deepest-gt-DEEPEST c =
    let hs = trees c.args.hypotheses.now in
    let gs = trees c.args.goals.now in
    let few = c.if-count-gt-MOST_NODES.false in
    let deep = c.if-deepest-gt-DEEPEST.true in
    let count = nodes_of_both 18446744073709551615 hs gs _ _ c.nodes_with.ensures c.nodes_with-count.ensures in
    let depth = depth_of_both 4294967295 hs gs _ _ c.depth_with.ensures c.depth_with-deepest.ensures in
    let low = deepest_within 0 (hs ++ gs) in
    (omega (arith, few, count), omega (arith, few, deep, count, depth, low), omega (arith, few, count, depth, low))

pub returns : goal.returns
returns c =
    let hs = trees c.args.hypotheses.now in
    let gs = trees c.args.goals.now in
    let few = c.if-count-gt-MOST_NODES.false in
    let flat = c.if-deepest-gt-DEEPEST.false in
    let count = nodes_of_both 18446744073709551615 hs gs _ _ c.nodes_with.ensures c.nodes_with-count.ensures in
    let depth = depth_of_both 4294967295 hs gs _ _ c.depth_with.ensures c.depth_with-deepest.ensures in
    (omega (arith, few, count), omega (arith, flat, depth))
