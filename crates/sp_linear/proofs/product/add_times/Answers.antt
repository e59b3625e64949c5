use Rattle.std.proofs.Common.{[], ◌∷◌, sym, subst, take, FitsSigned, ◌*ℤ◌, append_assoc}
use Rattle.std.specs.Int.{w128}
use Rattle.sp_linear.specs.Polynomials.{times_one, times_monomial}
use Rattle.sp_linear.proofs.TakeLemmas.{times_one-more, joined_fits}
use Rattle.sp_linear.proofs.product.add_times.Goals as goal

pub joined-requires : goal.joined-requires
joined-requires c =
    subst (λ x. FitsSigned w128 (c.args.m.now.number *ℤ x.number)) (sym c.n-item.is) (joined_fits c.args.m.now c.args.ns.now c.loop-n.n-index c.n-item.result c.loop-n-test.true c.requires)

pub loop-n-preserved : goal.loop-n-preserved
loop-n-preserved c =
    let m = c.args.m.now in
    let ns = c.args.ns.now in
    let i = c.loop-n.n-index in
    let more = times_one-more m ns i c.n-item.result c.loop-n-test.true in
    let item = c.n-item.is in
    let pushed = c.in_ok-push.ensures.items in
    let made = c.in_ok-p.ensures in
    let before = c.loop-n.invariant in
    let regroup = append_assoc c.args.out.now.items (times_one m (take i ns)) (times_monomial m c.n-item.result ∷ []) in
    cc
