use Rattle.sp_linear.proofs.expand.+expand.Given as goal

abbrev pub decreases-expand : goal.decreases-expand
decreases-expand l = l.n.0
