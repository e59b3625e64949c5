use Rattle.std.proofs.Common.{◌≡◌, ◌<◌, ◌≤◌, arith, sym, length, get_or}
use Rattle.std.proofs.lemmas.Int.{ints}
use Rattle.std.proofs.lemmas.List.{get_or_read}
use Rattle.sp_graph.proofs.NodeLemmas.{stmt_at}
use Rattle.sp_struct.proofs.DepthLemmas.{order_within, order_few, depth_fits, tells_entry, tells_by, parent_depth, parent_low, all_told}
use Rattle.sp_struct.proofs.stack.find_levels.Goals as goal

pub places-init : goal.places-init
places-init c = tells_entry _ _ _ _ _ c.in_ok-seen.ensures.grown _ _ (c.in_ok-depths.ensures.items_if_clones_equal (λ y e. e))

pub tell_next-requires-clause-from : goal.tell_next-requires-clause-from
tell_next-requires-clause-from c =
    let order = c.in_ok-seen.field-0.order.items in
    let up = c.in_ok-seen.field-0.up.items in
    let grown = c.in_ok-seen.ensures.grown in
    let inside : c.places.next < length order = omega (arith, c.places-test.true, c.len.ensures) in
    let low : get_or up c.places.next 0 < c.places.next = parent_low _ _ _ _ _ grown _ _ _ c.places.invariant inside in
    let up_is : get_or up c.places.next 0 ≡ c.index.result.now =
    sym (get_or_read up c.places.next c.index.result.now (let s = grown.size in omega (arith, s, inside)) c.index.ensures 0) in
    let within : c.index.result.now < length order = omega (arith, inside, low, up_is) in
    let from_is : get_or order (get_or up c.places.next 0) 0 ≡ c.index-in-places.result.now =
    rw up_is (sym (get_or_read order c.index.result.now c.index-in-places.result.now within c.index-in-places.ensures 0)) in
    let w = order_within _ _ _ _ _ grown (get_or up c.places.next 0) (omega (arith, low, inside)) in
    omega (arith, w, c.requires.size, from_is, up_is)

pub tell_next-requires-clause-low : goal.tell_next-requires-clause-low
tell_next-requires-clause-low c =
    let order = c.in_ok-seen.field-0.order.items in
    let up = c.in_ok-seen.field-0.up.items in
    let grown = c.in_ok-seen.ensures.grown in
    let inside : c.places.next < length order = omega (arith, c.places-test.true, c.len.ensures) in
    let low : get_or up c.places.next 0 < c.places.next = parent_low _ _ _ _ _ grown _ _ _ c.places.invariant inside in
    let up_is : get_or up c.places.next 0 ≡ c.index.result.now =
    sym (get_or_read up c.places.next c.index.result.now (let s = grown.size in omega (arith, s, inside)) c.index.ensures 0) in
    let within : c.index.result.now < length order = omega (arith, inside, low, up_is) in
    let from_is : get_or order (get_or up c.places.next 0) 0 ≡ c.index-in-places.result.now =
    rw up_is (sym (get_or_read order c.index.result.now c.index-in-places.result.now within c.index-in-places.ensures 0)) in
    let fits = depth_fits _ _ _ _ _ grown c.args.code.now (get_or up c.places.next 0) (omega (arith, low, inside)) in
    let depth = parent_depth _ _ _ _ _ grown _ _ _ c.places.invariant inside in
    let many = order_few _ _ _ _ _ grown in
    let size = c.requires.size in
    let few = c.requires.few in
    rw (← from_is, depth) (omega (arith, ints, fits.0, low, inside, many, size, few))

pub tell_next-requires-clause-high : goal.tell_next-requires-clause-high
tell_next-requires-clause-high c =
    let order = c.in_ok-seen.field-0.order.items in
    let up = c.in_ok-seen.field-0.up.items in
    let grown = c.in_ok-seen.ensures.grown in
    let inside : c.places.next < length order = omega (arith, c.places-test.true, c.len.ensures) in
    let low : get_or up c.places.next 0 < c.places.next = parent_low _ _ _ _ _ grown _ _ _ c.places.invariant inside in
    let up_is : get_or up c.places.next 0 ≡ c.index.result.now =
    sym (get_or_read up c.places.next c.index.result.now (let s = grown.size in omega (arith, s, inside)) c.index.ensures 0) in
    let within : c.index.result.now < length order = omega (arith, inside, low, up_is) in
    let from_is : get_or order (get_or up c.places.next 0) 0 ≡ c.index-in-places.result.now =
    rw up_is (sym (get_or_read order c.index.result.now c.index-in-places.result.now within c.index-in-places.ensures 0)) in
    let fits = depth_fits _ _ _ _ _ grown c.args.code.now (get_or up c.places.next 0) (omega (arith, low, inside)) in
    let depth = parent_depth _ _ _ _ _ grown _ _ _ c.places.invariant inside in
    let many = order_few _ _ _ _ _ grown in
    let size = c.requires.size in
    let few = c.requires.few in
    rw (← from_is, depth) (omega (arith, ints, fits.1, low, inside, many, size, few))

pub places-preserved : goal.places-preserved
places-preserved c =
    let order = c.in_ok-seen.field-0.order.items in
    let up = c.in_ok-seen.field-0.up.items in
    let grown = c.in_ok-seen.ensures.grown in
    let inside : c.places.next < length order = omega (arith, c.places-test.true, c.len.ensures) in
    let low : get_or up c.places.next 0 < c.places.next = parent_low _ _ _ _ _ grown _ _ _ c.places.invariant inside in
    let up_is : get_or up c.places.next 0 ≡ c.index.result.now =
    sym (get_or_read up c.places.next c.index.result.now (let s = grown.size in omega (arith, s, inside)) c.index.ensures 0) in
    let within : c.index.result.now < length order = omega (arith, inside, low, up_is) in
    let from_is : get_or order (get_or up c.places.next 0) 0 ≡ c.index-in-places.result.now =
    rw up_is (sym (get_or_read order c.index.result.now c.index-in-places.result.now within c.index-in-places.ensures 0)) in
    let w = order_within _ _ _ _ _ grown (get_or up c.places.next 0) (omega (arith, low, inside)) in
    let s = stmt_at c.args.code.now c.index-in-places.result.now (omega (arith, w, c.requires.size, from_is, up_is)) in
    let to_is : get_or order c.places.next 0 ≡ c.index-in-places-2.result.now =
    sym (get_or_read order c.places.next c.index-in-places-2.result.now inside c.index-in-places-2.ensures 0) in
    tells_by _ _ _ _ _ grown _ _ _ c.places.invariant inside c.index-in-places.result.now c.index-in-places-2.result.now s.0 c.tell_next.new.depths.items
    from_is to_is s.1 (c.tell_next.ensures s.0 s.1)

pub returns : goal.returns
returns c =
    let order = c.in_ok-seen.field-0.order.items in
    let past : length order ≤ c.places.next = omega (arith, c.places-test.false, c.len.ensures) in
    all_told _ _ _ _ _ c.in_ok-seen.ensures.grown _ _ _ c.places.invariant past c.requires.size c.requires.few c.in_ok-seen.ensures.closed c.in_ok-seen.ensures.grown
