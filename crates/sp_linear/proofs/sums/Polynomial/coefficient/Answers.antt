use Rattle.std.proofs.Common.{rules, ◌∙◌, ap, FitsSigned, nat_eq}
use Rattle.std.specs.Int.{w128}
use Rattle.std.proofs.lemmas.Int.{to_z-of_z}
use Rattle.sp_linear.specs.Polynomials.{coefficient}
use Rattle.sp_linear.proofs.SumLemmas.{sum_found}
use Rattle.sp_linear.proofs.sums.Polynomial.coefficient.Goals as goal

pub returns : goal.returns
returns c =
    let f : FitsSigned w128 c.sum.result = search rules in
    to_z-of_z w128 c.sum.result f ∙ c.sum.ensures ∙ sum_found _ _ c.self.invariant _ _ c.in_ok-p.ensures.sorted c.in_ok-p.ensures.same ∙ ap (coefficient nat_eq c.args.atoms.now.items) c.self.view_is
