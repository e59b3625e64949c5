use Rattle.sp_eval_tests.proofs.printed.+quantities.Given as goal

abbrev pub decreases-two : goal.decreases-two
decreases-two l = l.depth

abbrev pub decreases-function : goal.decreases-function
decreases-function l = l.depth

abbrev pub decreases-quantity : goal.decreases-quantity
decreases-quantity l = l.depth
