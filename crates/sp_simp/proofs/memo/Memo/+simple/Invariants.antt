use Rattle.std.proofs.Common.{◌+◌, ◌*◌, max}
use Rattle.sp_simp.proofs.memo.Memo.+simple.Given as goal

abbrev pub decreases-fresh : goal.decreases-fresh
decreases-fresh l = 5 * l.n.0 + 1

abbrev pub decreases-simple : goal.decreases-simple
decreases-simple l = 5 * l.n.0 + 2

abbrev pub decreases-two : goal.decreases-two
decreases-two l = 5 * max l.x.0 l.y.0 + 3

abbrev pub decreases-three : goal.decreases-three
decreases-three l = 5 * max (max l.x.0 l.y.0) l.z.0 + 4

abbrev pub decreases-five : goal.decreases-five
decreases-five l = 5 * max (max (max l.x.0 l.y.0) l.z.0) (max l.u.0 l.w.0) + 5
