use Rattle.std.proofs.Common.{take}
use Rattle.sp_term.specs.Pools.{Grows}
use Rattle.sp_term.specs.Conditions.{trees}
use Rattle.sp_simp.specs.Memos.{AreRight}
use Rattle.sp_simp.specs.code.Marks.{AreSimpleAt}
use Rattle.sp_simp.proofs.conditions.simple_places.Given as goal

abbrev pub invariant-loop-t : goal.invariant-loop-t
invariant-loop-t l = record {
  grows : Grows l.initial.pool l.pool;
  right : AreRight l.pool l.memo;
  forms : AreSimpleAt (take l.t-index (trees l.ts)) l.pool l.places.items;
}
