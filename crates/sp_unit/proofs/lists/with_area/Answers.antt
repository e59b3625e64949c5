use Rattle.std.proofs.Common.{sym, refl, ◌∙◌}
use Rattle.sp_unit.proofs.ListedLemmas.{with_known_area, with_new_area}
use Rattle.sp_unit.proofs.lists.with_area.Goals as goal

pub returns-then-contains_key : goal.returns-then-contains_key
returns-then-contains_key c areas items places h = with_known_area areas items c.args.m c.args.name.now (sym c.contains_key.ensures ∙ c.if-contains_key.true) h

pub returns : goal.returns
returns c areas items places h =
    with_new_area areas items c.args.m _ c.args.name.now c.in-Some.place.now tt (sym c.contains_key.ensures ∙ c.if-contains_key.false) h
    (places.right c.args.name.now c.in-Some.place.now (sym c.in-Some.ensures.value)) refl c.in_ok-push.ensures.items (λ other. c.in_ok-insert.ensures.updates.0 other)
