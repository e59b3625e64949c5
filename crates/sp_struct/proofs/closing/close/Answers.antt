use Rattle.std.proofs.Common.{◌<◌, arith, length}
use Rattle.sp_struct.proofs.WayLemmas.{closed_more}
use Rattle.sp_struct.proofs.closing.close.Goals as goal

pub pass-requires-clause-rows : goal.pass-requires-clause-rows
pass-requires-clause-rows c = (c.requires.rows.0, c.places.invariant.rows c.requires.rows.0 c.requires.rows.1)

pub places-preserved : goal.places-preserved
places-preserved c =
    let old = c.args.rows.now.items in
    let low : c.places.place < length old = let l = c.places-test.true in let seen = c.len-place-end.ensures in omega (arith, l, seen) in
    closed_more old c.places.place c.places.rows.items c.pass.new.rows.items low c.places.invariant c.in_ok-pass.ensures.size c.in_ok-pass.ensures.rows
    c.in_ok-pass.ensures.ways
