use Rattle.std.proofs.Common.{◌+◌, ◌*◌}
use Rattle.sp_term.specs.Tree.{nodes}
use Rattle.sp_rules.proofs.fresh.Used.+add.Given as goal

abbrev pub decreases-add : goal.decreases-add
decreases-add l = 6 * nodes l.t.now + 1

abbrev pub decreases-add_two : goal.decreases-add_two
decreases-add_two l = 6 * (nodes l.x.now + nodes l.y.now) + 2

abbrev pub decreases-add_three : goal.decreases-add_three
decreases-add_three l = 6 * (nodes l.x.now + nodes l.y.now + nodes l.z.now) + 3

abbrev pub decreases-add_five : goal.decreases-add_five
decreases-add_five l = 6 * (nodes l.s.now + nodes l.z.now + nodes l.ac.now + nodes l.p.now + nodes l.cy.now) + 5
