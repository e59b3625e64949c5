use Rattle.std.proofs.Common.{◌≡◌, [], drop}
use Rattle.sp_expr.specs.code.Nesting.{nests, nest, nests_within}
use Rattle.sp_expr.specs.code.States.{nests_of}
use Rattle.sp_expr.proofs.nesting.nests_within.Given as goal

abbrev pub invariant-loop-word : goal.invariant-loop-word
invariant-loop-word l = nests_within (nests_of l.nesting) (drop l.word-index l.words) ≡ nests_within (nests (nest 0 0) []) l.words
