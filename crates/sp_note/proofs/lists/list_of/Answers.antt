use Rattle.std.proofs.Common.{◌≡◌, ◌-◌, ◌∷◌, ◌++◌, Some, [], length, take, drop, sym, ap, ◌∙◌, rules}
use Rattle.std.proofs.lemmas.List.Elements.{All-drop, All-same, All-take}
use Rattle.sp_lex.specs.Readers.{IsIn, items_of, items_after}
use Rattle.sp_note.specs.code.Lines.{list_read}
use Rattle.sp_note.proofs.ItemLemmas.{after_items, items_after-comma, list_read-more, list_read-none, list_read-last}
use Rattle.sp_note.proofs.lists.list_of.Goals as goal

pub returns-in_default : goal.returns-in_default
returns-in_default c =
    sym c.loop-read.invariant.0
    ∙ list_read-none c.args.source.now c.loop-read.rest.now c.split_at.result.0.now c.split_at.result.1.now c.item_len.result c.loop-read.items.items c.item_len.ensures.items c.split_at.ensures.front c.split_at.ensures.back
    (sym c.listed_at.ensures ∙ c.in_default.is)

pub returns-in-empty : goal.returns-in-empty
returns-in-empty c =
    let none : c.split_at.result.1.now ≡ [] = search rules in
    sym c.loop-read.invariant.0
    ∙ list_read-more c.args.source.now c.loop-read.rest.now c.split_at.result.0.now c.split_at.result.1.now c.item_len.result c.loop-read.items.items c.in-Some.read c.item_len.ensures.items c.split_at.ensures.front c.split_at.ensures.back
    (sym c.listed_at.ensures ∙ c.in-Some.is)
    ∙ list_read-last c.args.source.now c.split_at.result.1.now (c.loop-read.items.items ++ c.in-Some.read ∷ []) none
    ∙ ap (λ xs. Some xs) (sym c.in_ok-push.ensures.items ∙ sym c.from_vec.ensures)

pub loop-read-preserved : goal.loop-read-preserved
loop-read-preserved c =
    let back = c.split_at.result.1.now in
    let rest = items_after-comma c.args.source.now back c.in-len1-up.len_at_least in
    let more = list_read-more c.args.source.now c.loop-read.rest.now c.split_at.result.0.now back c.item_len.result c.loop-read.items.items c.in-Some.read c.item_len.ensures.items c.split_at.ensures.front c.split_at.ensures.back
    (sym c.listed_at.ensures ∙ c.in-Some.is) in (
      ap (λ xs. after_items xs (list_read c.args.source.now (items_of c.args.source.now (take (length back - 1) (drop 1 back))))) c.in_ok-push.ensures.items
          ∙ ap (λ items. after_items (c.loop-read.items.items ++ c.in-Some.read ∷ []) (list_read c.args.source.now items)) (sym rest)
          ∙ sym more ∙ c.loop-read.invariant.0,
      All-take (IsIn c.args.source.now) (length back - 1) (drop 1 back) (All-drop (IsIn c.args.source.now) 1 back (All-same (IsIn c.args.source.now) back (drop c.item_len.result c.loop-read.rest.now) c.split_at.ensures.back
          (All-drop (IsIn c.args.source.now) c.item_len.result c.loop-read.rest.now c.loop-read.invariant.1))),
    )
