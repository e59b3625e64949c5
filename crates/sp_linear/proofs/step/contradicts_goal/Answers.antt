use Rattle.std.proofs.Common.{rules, w64}
use Rattle.std.proofs.lemmas.Int.{to_z-of_z}
use Rattle.sp_linear.proofs.PlaceLemmas.{against_size}
use Rattle.sp_linear.proofs.step.contradicts_goal.Goals as goal

pub is_negative_at-requires-clause-size : goal.is_negative_at-requires-clause-size
is_negative_at-requires-clause-size c =
    against_size c.args.pool.now _ _ c.args.goal.now _ c.in-Some.against c.in_ok-n.n c.args.sum _ c.args.n0 (to_z-of_z w64 c.args.n0 (search rules)) c.in-Some.is c.in_ok-against.ensures.form c.in_ok-against.ensures.grows c.requires.place c.requires.size c.in_ok-n.ensures.place
