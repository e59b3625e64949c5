use Rattle.std.proofs.Common.{refl, ap, ◌||◌}
use Rattle.sp_simp.proofs.MarkLemmas.{kept_added}
use Rattle.sp_simp.proofs.kept.Kept.add.Goals as goal

pub returns-clause-kept : goal.returns-clause-kept
returns-clause-kept c =
    kept_added _ c.args.self.now _ c.args.n.0 _ c.requires.distinct c.requires.place c.requires.kept c.in_ok-push.ensures.items c.term.ensures refl
    (ap (λ b. c.args.self.now.contradiction || b) c.is_false.ensures)
