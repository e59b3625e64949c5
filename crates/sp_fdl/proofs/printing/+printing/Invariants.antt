use Rattle.std.proofs.Common.{◌+◌, ◌*◌}
use Rattle.sp_term.specs.Tree.{nodes}
use Rattle.sp_term.specs.Terms.{tree_of}
use Rattle.sp_fdl.proofs.printing.+printing.Given as goal

-- the nodes to print, and how far a function stands above the one that goes to them
abbrev pub decreases-push_bit : goal.decreases-push_bit
decreases-push_bit l = 4 * nodes l.x.now + 2

abbrev pub decreases-push_flags : goal.decreases-push_flags
decreases-push_flags l = 4 * (nodes l.s.now + nodes l.z.now + nodes l.ac.now + nodes l.p.now + nodes l.cy.now) + 3

abbrev pub decreases-push_infix : goal.decreases-push_infix
decreases-push_infix l = 4 * (nodes l.x.now + nodes l.y.now) + 3

abbrev pub decreases-push_kind : goal.decreases-push_kind
decreases-push_kind l = 4 * nodes (tree_of l.kind.now)

abbrev pub decreases-push_part : goal.decreases-push_part
decreases-push_part l = 4 * nodes l.part.now + 1

abbrev pub decreases-push_quantifier : goal.decreases-push_quantifier
decreases-push_quantifier l = 4 * (nodes l.first.now + nodes l.last.now + nodes l.part.now) + 3

abbrev pub decreases-push_two : goal.decreases-push_two
decreases-push_two l = 4 * (nodes l.x.now + nodes l.y.now) + 2
