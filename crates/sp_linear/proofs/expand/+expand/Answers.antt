use Rattle.std.proofs.Common.{◌∙◌, ◌++◌, ap₂, sym, subst, ℕ, List}
use Rattle.sp_linear.specs.Polynomials.{Monomial, times_one}
use Rattle.sp_linear.specs.code.Parts.{IsExpanded}
use Rattle.sp_linear.proofs.ExpandLemmas.{expanded_sum, expanded_difference}
use Rattle.sp_linear.proofs.expand.+expand.Goals as goal

pub returns-in_ok-append-in-Sum : goal.returns-in_ok-append-in-Sum
returns-in_ok-append-in-Sum t c =
    subst (IsExpanded c.args.pool.now c.args.n.0) (sym c.in_ok-append-in-Sum.ensures.items)
    (expanded_sum c.args.pool.now c.args.n.0 c.in-Sum.x c.in-Sum.y _ _ c.in-Sum.ensures c.in_ok-p-in-Sum.ensures c.in_ok-q-in-Sum.ensures)

pub returns-in_ok-add_times-in-Difference : goal.returns-in_ok-add_times-in-Difference
returns-in_ok-add_times-in-Difference t c =
    subst (IsExpanded c.args.pool.now c.args.n.0)
    (sym (c.in_ok-add_times-in-Difference.ensures
    ∙ ap₂ (λ (m : Monomial ℕ) (ns : List (Monomial ℕ)). c.in_ok-p-in-Difference.p.items ++ times_one m ns) c.number-in-Difference.ensures c.as_slice.ensures.value))
    (expanded_difference c.args.pool.now c.args.n.0 c.in-Difference.x c.in-Difference.y _ _ c.in-Difference.ensures c.in_ok-p-in-Difference.ensures c.in_ok-q-in-Difference.ensures)
