use Rattle.std.proofs.Common.{rules, ◌≡◌, ◌∙◌, ◌*◌, ◌^◌, ap, sym, min, max, unsigned_abs, take, get_or, ℤ, Bor, FitsSigned, w64}
use Rattle.std.proofs.lemmas.Int.{to_z-of_z}
use Rattle.sp_term.specs.Tree.{Tree}
use Rattle.sp_linear.specs.Polynomials.{size}
use Rattle.sp_linear.specs.Linear.{hypothesis_sides, sizes, named}
use Rattle.sp_linear.proofs.LimitLemmas.{sizes_more, cap_plus}
use Rattle.sp_linear.proofs.limits.all_sizes.Goals as goal

pub loop-h-preserved : goal.loop-h-preserved
loop-h-preserved c =
    let by = c.args.by.now in
    let i = c.loop-h.h-index in
    let f : FitsSigned w64 c.h-item.result.0 = search rules in
    let one : c.named_size.result ≡ min (hypothesis_sides (get_or by i c.h-item.result).1.now size * max 1 (unsigned_abs (get_or by i c.h-item.result).0)) (2 ^ 120) =
    c.named_size.ensures
    ∙ ap (λ z. min (hypothesis_sides c.h-item.result.1.now size * max 1 (unsigned_abs z)) (2 ^ 120)) (to_z-of_z w64 c.h-item.result.0 f)
    ∙ ap (λ (h : ℤ × Bor Tree). min (hypothesis_sides h.1.now size * max 1 (unsigned_abs h.0)) (2 ^ 120)) c.h-item.is in
    c.size_sum-total.ensures
    ∙ cap_plus (sizes (named (take i by))) (hypothesis_sides (get_or by i c.h-item.result).1.now size * max 1 (unsigned_abs (get_or by i c.h-item.result).0)) (2 ^ 120) _ _ c.loop-h.invariant one
    ∙ ap (λ n. min n (2 ^ 120)) (sym (sizes_more by i c.h-item.result c.loop-h-test.true))
