use Rattle.std.proofs.Common.{◌<◌, length}
use Rattle.sp_simp_tests.proofs.tests.shared_parts_are_simplified_once.Given as goal

abbrev pub invariant-loop : goal.invariant-loop
invariant-loop g l = l.n.0 < length l.pool
