use Rattle.std.proofs.Common.{rules, ◌<◌, ◌+◌, ◌^◌, ◌∙◌, ap₂, sym, subst, take, ℕ, List, ℤ, ◌+ℤ◌, FitsSigned}
use Rattle.std.specs.Int.{w128}
use Rattle.std.proofs.lemmas.Int.{to_z-of_z}
use Rattle.sp_linear.specs.Polynomials.{Monomial}
use Rattle.sp_linear.specs.code.Sums.{weight}
use Rattle.sp_linear.specs.code.Table.{AreSums}
use Rattle.sp_linear.proofs.SumLemmas.{plus_fits, sums_inserted}
use Rattle.sp_linear.proofs.sums.Polynomial.new.Goals as goal

pub plus-c-requires : goal.plus-c-requires
plus-c-requires c =
    let f : FitsSigned w128 c.sum.result = search rules in
    let g : FitsSigned w128 c.m.inside.number = search rules in
    let back = sym c.deref-m-items.ensures.value in
    let before = subst (λ (ms : List (Monomial ℕ)). AreSums (take c.loop-m.m-index ms) c.loop-m.sums.entries) back c.loop-m.invariant in
    let small = subst (λ (ms : List (Monomial ℕ)). weight ms < 2 ^ 127) back c.requires in
    subst (FitsSigned w128) (sym (ap₂ (λ (a b : ℤ). a +ℤ b) (to_z-of_z w128 c.sum.result f) (to_z-of_z w128 c.m.inside.number g)))
    (plus_fits c.deref-m-items.result.now c.loop-m.sums.entries c.loop-m.m-index c.m.inside.number c.m.inside.atoms.items c.m-item.result c.in_ok-p.p c.sum.result c.sum.ensures c.m.view_is c.loop-m-test.true c.m-item.is c.in_ok-p.ensures.sorted c.in_ok-p.ensures.same before small)

pub loop-m-preserved : goal.loop-m-preserved
loop-m-preserved c =
    let f : FitsSigned w128 c.sum.result = search rules in
    let g : FitsSigned w128 c.m.inside.number = search rules in
    let back = sym c.deref-m-items.ensures.value in
    let before = subst (λ (ms : List (Monomial ℕ)). AreSums (take c.loop-m.m-index ms) c.loop-m.sums.entries) back c.loop-m.invariant in
    let r : FitsSigned w128 c.plus-c.result = search rules in
    let v = to_z-of_z w128 c.plus-c.result r ∙ c.plus-c.ensures ∙ ap₂ (λ (a b : ℤ). a +ℤ b) (to_z-of_z w128 c.sum.result f ∙ c.sum.ensures) (to_z-of_z w128 c.m.inside.number g) in
    subst (λ (ms : List (Monomial ℕ)). AreSums (take (c.loop-m.m-index + 1) ms) c.insert.new.self.entries) c.deref-m-items.ensures.value
    (sums_inserted c.deref-m-items.result.now c.loop-m.sums.entries _ c.loop-m.m-index c.m.inside.number c.m.inside.atoms.items c.m-item.result c.in_ok-p.p _ c.in_ok-insert.ensures.entries c.m.view_is c.loop-m-test.true c.m-item.is c.in_ok-p.ensures.sorted c.in_ok-p.ensures.same before v)
