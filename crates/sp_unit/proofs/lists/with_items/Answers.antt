use Rattle.std.proofs.Common.{◌≡◌, ◌+◌, ◌++◌, ◌∷◌, [], List, sym, ap, subst, ◌∙◌, take, append_assoc}
use Rattle.std.proofs.lemmas.List.{take_more}
use Rattle.sp_note.specs.declared.part.Listed.{Listed}
use Rattle.sp_unit.specs.code.Building.{IsMentioned, is_placed}
use Rattle.sp_unit.proofs.ScopeLemmas.{take_whole}
use Rattle.sp_unit.proofs.SoundLemmas.{all_read}
use Rattle.sp_unit.proofs.lists.with_items.Goals as goal

pub with_item-requires : goal.with_item-requires
with_item-requires c = all_read (is_placed c.args.places.now.entries) c.args.items.now c.loop-item.item-index c.item-item.result c.loop-item-test.true c.item-item.is c.requires

pub loop-item-preserved : goal.loop-item-preserved
loop-item-preserved c areas above places h =
    let i = c.loop-item.item-index in
    let items = c.args.items.now in
    let more : take (i + 1) items ≡ take i items ++ c.item-item.result ∷ [] =
    take_more items i c.item-item.result c.loop-item-test.true ∙ ap (λ x. take i items ++ x ∷ []) (sym c.item-item.is) in
    subst (λ (l : List Listed). IsMentioned areas l c.in_ok-all.all) (append_assoc above (take i items) (c.item-item.result ∷ []) ∙ ap (λ l. above ++ l) (sym more))
    (c.in_ok-all.ensures areas (above ++ take i items) places (c.loop-item.invariant areas above places h))

pub returns : goal.returns
returns c areas above places h =
    subst (λ (l : List Listed). IsMentioned areas (above ++ l) c.loop-item.all) (take_whole c.args.items.now c.loop-item.item-index c.loop-item-test.false) (c.loop-item.invariant areas above places h)
