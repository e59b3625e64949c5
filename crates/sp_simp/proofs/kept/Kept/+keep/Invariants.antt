use Rattle.sp_simp.proofs.kept.Kept.+keep.Given as goal

abbrev pub decreases-keep : goal.decreases-keep
decreases-keep l = l.n.0
