use Rattle.std.proofs.Common.{◌+◌, ◌*◌}
use Rattle.sp_term.specs.Terms.{tree_of}
use Rattle.sp_term.specs.Tree.{nodes}
use Rattle.sp_term.proofs.pool.Pool.+take.Given as goal

abbrev pub decreases-take : goal.decreases-take
decreases-take l = 6 * nodes l.t.now + 1

abbrev pub decreases-take_parts : goal.decreases-take_parts
decreases-take_parts l = 6 * nodes (tree_of l.kind.now)

abbrev pub decreases-take_two : goal.decreases-take_two
decreases-take_two l = 6 * (nodes l.x.now + nodes l.y.now) + 2

abbrev pub decreases-take_three : goal.decreases-take_three
decreases-take_three l = 6 * (nodes l.x.now + nodes l.y.now + nodes l.z.now) + 3

abbrev pub decreases-take_five : goal.decreases-take_five
decreases-take_five l = 6 * (nodes l.s.now + nodes l.z.now + nodes l.ac.now + nodes l.p.now + nodes l.cy.now) + 5
