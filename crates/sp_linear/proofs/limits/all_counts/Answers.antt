use Rattle.std.proofs.Common.{◌≡◌, ◌∙◌, ap, sym, min, take, get_or, ℤ, Bor}
use Rattle.sp_term.specs.Tree.{Tree}
use Rattle.sp_linear.specs.Polynomials.{count}
use Rattle.sp_linear.specs.Linear.{hypothesis_sides, counts, named}
use Rattle.sp_linear.proofs.LimitLemmas.{counts_more, cap_plus}
use Rattle.sp_linear.proofs.limits.all_counts.Goals as goal

pub loop-h-preserved : goal.loop-h-preserved
loop-h-preserved c =
    let by = c.args.by.now in
    let i = c.loop-h.h-index in
    let one : c.hypothesis_count.result ≡ min (hypothesis_sides (get_or by i c.h-item.result).1.now count) 1025 = c.hypothesis_count.ensures ∙ ap (λ (h : ℤ × Bor Tree). min (hypothesis_sides h.1.now count) 1025) c.h-item.is in
    c.count_sum-total.ensures
    ∙ cap_plus (counts (named (take i by))) (hypothesis_sides (get_or by i c.h-item.result).1.now count) 1025 _ _ c.loop-h.invariant one
    ∙ ap (λ n. min n 1025) (sym (counts_more by i c.h-item.result c.loop-h-test.true))
