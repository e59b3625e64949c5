use Rattle.std.proofs.Common.{◌≡◌, ◌<◌, ◌*◌, ◌^◌, sym, subst, take, unsigned_abs}
use Rattle.sp_linear.specs.Polynomials.{multiply}
use Rattle.sp_linear.specs.code.Sums.{weight}
use Rattle.sp_linear.proofs.TakeLemmas.{multiply-more, part_small}
use Rattle.sp_linear.proofs.product.multiplied.Goals as goal

pub add_times-requires : goal.add_times-requires
add_times-requires c =
    subst (λ x. unsigned_abs x.number * weight c.args.ns.now < 2 ^ 127) (sym c.m-item.is) (part_small c.args.ms.now c.args.ns.now c.loop-m.m-index c.m-item.result c.loop-m-test.true c.requires)

pub loop-m-preserved : goal.loop-m-preserved
loop-m-preserved c =
    let more = multiply-more c.args.ms.now c.args.ns.now c.loop-m.m-index c.m-item.result c.loop-m-test.true in
    let item = c.m-item.is in
    let before : c.loop-m.out.items ≡ multiply (take c.loop-m.m-index c.args.ms.now) c.args.ns.now = c.loop-m.invariant in
    let added = c.in_ok-add_times.ensures in
    cc
