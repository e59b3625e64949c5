use Rattle.std.proofs.Common.{◌∙◌, ap, sym, ℤ, Bor}
use Rattle.sp_term.specs.Tree.{Tree}
use Rattle.sp_linear.specs.Linear.{is_equality}
use Rattle.sp_linear.proofs.LimitLemmas.{equations_more, equations_fail}
use Rattle.sp_linear.proofs.step.all_equations.Goals as goal

pub returns-then-not-is_equation : goal.returns-then-not-is_equation
returns-then-not-is_equation c =
    sym (equations_fail c.args.by.now c.loop-h.h-index c.h-item.result c.loop-h-test.true
    (ap (λ (h : ℤ × Bor Tree). is_equality h.1.now) (sym c.h-item.is) ∙ sym c.is_equation.ensures ∙ c.if-not-is_equation.true))

pub loop-h-preserved : goal.loop-h-preserved
loop-h-preserved c =
    equations_more c.args.by.now c.loop-h.h-index c.h-item.result c.loop-h-test.true c.loop-h.invariant
    (ap (λ (h : ℤ × Bor Tree). is_equality h.1.now) (sym c.h-item.is) ∙ sym c.is_equation.ensures ∙ c.if-not-is_equation.false)
