use Rattle.std.proofs.Common.{◌≡◌, true, length, drop}
use Rattle.std.specs.Prelude.{nat_eq}
use Rattle.std.specs.Cmp.Lexicographic.{pointwise}
use Rattle.indexmap.specs.IndexMap.{get}
use Rattle.sp_expr.specs.code.Evaluation.{run, start, fits}
use Rattle.sp_expr.specs.code.States.{view}
use Rattle.sp_expr.proofs.evaluation.evaluate.Given as goal

abbrev pub invariant-loop-word : goal.invariant-loop-word
invariant-loop-word l =
    (run (λ name. get (pointwise nat_eq) l.names name) l.here (view l.evaluation) (drop l.word-index l.words) ≡ run (λ name. get (pointwise nat_eq) l.names name) l.here start l.words)
    × (fits (length l.evaluation.outer.items) (drop l.word-index l.words) ≡ true)
