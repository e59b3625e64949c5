use Rattle.sp_simp.specs.code.Marks.{left}
use Rattle.sp_simp.proofs.MarkLemmas.{kept_first, kept_more}
use Rattle.sp_simp.proofs.kept.Kept.keep_all.Goals as goal

pub loop-n-init : goal.loop-n-init
loop-n-init c = record { left = kept_first (left c.args.self.now) c.args.pool.now c.args.ns.now; kept = c.requires.kept }

pub loop-n-preserved : goal.loop-n-preserved
loop-n-preserved c = record {
  left = rw (c.in_ok-keep.ensures.left, c.loop-n.invariant.left) (kept_more (left c.args.self.now) c.args.pool.now c.args.ns.now c.loop-n.n-index _ c.loop-n-test.true);
  kept = c.in_ok-keep.ensures.kept;
}
