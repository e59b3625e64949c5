use Rattle.std.proofs.Common.{rules, w64}
use Rattle.std.proofs.lemmas.Int.{to_z-of_z}
use Rattle.sp_linear.proofs.PlaceLemmas.{multiple_size}
use Rattle.sp_linear.proofs.step.is_multiple.Goals as goal

pub is_nothing_at-requires-clause-size : goal.is_nothing_at-requires-clause-size
is_nothing_at-requires-clause-size c =
    multiple_size c.args.pool.now _ _ _ c.args.x.now c.args.y.now _ c.args.n0 c.in_ok-d.d c.in_ok-m.m c.in_ok-n.n c.args.sum (to_z-of_z w64 c.args.n0 (search rules)) c.requires.place c.requires.size c.in_ok-d.ensures.grows c.in_ok-m.ensures.grows c.in_ok-d.ensures.place c.in_ok-m.ensures.place c.in_ok-n.ensures.place
