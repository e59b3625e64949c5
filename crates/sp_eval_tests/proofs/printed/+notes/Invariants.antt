use Rattle.sp_eval_tests.proofs.printed.+notes.Given as goal

abbrev pub decreases-quantified : goal.decreases-quantified
decreases-quantified l = l.depth

abbrev pub decreases-note : goal.decreases-note
decreases-note l = l.depth
