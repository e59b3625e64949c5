use Rattle.std.proofs.Common.{◌≡◌, drop}
use Rattle.std.specs.Prelude.{nat_eq}
use Rattle.std.specs.Cmp.Lexicographic.{pointwise}
use Rattle.indexmap.specs.IndexMap.{get}
use Rattle.sp_expr.specs.Undefined.{first_undefined}
use Rattle.sp_expr.proofs.evaluation.first_undefined.Given as goal

abbrev pub invariant-loop-word : goal.invariant-loop-word
invariant-loop-word l = first_undefined (λ name. get (pointwise nat_eq) l.names name) (drop l.word-index l.words) ≡ first_undefined (λ name. get (pointwise nat_eq) l.names name) l.words
