use Rattle.std.proofs.Common.{◌≡◌, Some, arith}
use Rattle.sp_flow.proofs.ListedLemmas.{FreeAt, listed_all, up_to_more}
use Rattle.sp_flow.proofs.listed.lowest_listed.Goals as goal

pub places-preserved : goal.places-preserved
places-preserved c =
    up_to_more (λ n. c.args.so_far ≡ Some n) (FreeAt c.args.areas.now c.args.one.now c.args.other.now c.args.listed.now) c.places.at c.places.best
    c.with_area-best.result c.places.invariant c.with_area-best.ensures

pub returns : goal.returns
returns c =
    listed_all c.args.so_far c.args.areas.now c.args.one.now c.args.other.now c.args.listed.now c.places.at c.places.best
    (let past = c.places-test.false in let end = c.places.auto.at-end in omega (arith, past, end)) c.places.invariant
