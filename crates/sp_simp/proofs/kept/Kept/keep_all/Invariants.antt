use Rattle.std.proofs.Common.{◌≡◌, take}
use Rattle.sp_simp.specs.Simplified.{all_conjuncts}
use Rattle.sp_simp.specs.code.Marks.{kept_with, left, trees_at, IsKept}
use Rattle.sp_simp.proofs.kept.Kept.keep_all.Given as goal

abbrev pub invariant-loop-n : goal.invariant-loop-n
invariant-loop-n l = record {
  left : left l.self ≡ kept_with (left l.initial.self) (all_conjuncts (trees_at l.pool (take l.n-index l.ns)));
  kept : IsKept l.pool l.self;
}
