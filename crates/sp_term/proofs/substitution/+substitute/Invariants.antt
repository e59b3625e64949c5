use Rattle.std.proofs.Common.{◌+◌, ◌*◌}
use Rattle.sp_term.specs.Terms.{tree_of}
use Rattle.sp_term.specs.Tree.{nodes}
use Rattle.sp_term.proofs.substitution.+substitute.Given as goal

abbrev pub decreases-substitute : goal.decreases-substitute
decreases-substitute l = 6 * nodes l.t.now + 1

abbrev pub decreases-substitute_parts : goal.decreases-substitute_parts
decreases-substitute_parts l = 6 * nodes (tree_of l.kind.now)

abbrev pub decreases-substitute_two : goal.decreases-substitute_two
decreases-substitute_two l = 6 * (nodes l.x.now + nodes l.y.now) + 2

abbrev pub decreases-substitute_three : goal.decreases-substitute_three
decreases-substitute_three l = 6 * (nodes l.x.now + nodes l.y.now + nodes l.z.now) + 3

abbrev pub decreases-substitute_five : goal.decreases-substitute_five
decreases-substitute_five l = 6 * (nodes l.s.now + nodes l.z.now + nodes l.ac.now + nodes l.p.now + nodes l.cy.now) + 5

abbrev pub decreases-substitute_within : goal.decreases-substitute_within
decreases-substitute_within l = 6 * nodes l.p.now + 2
