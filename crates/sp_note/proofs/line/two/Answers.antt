use Rattle.std.proofs.Common.{◌-◌, length, take, drop, sym, ◌∙◌}
use Rattle.std.proofs.lemmas.List.Elements.{All-drop, All-same, All-take}
use Rattle.sp_lex.specs.Readers.{IsIn}
use Rattle.sp_note.proofs.ItemLemmas.{two_long}
use Rattle.sp_note.proofs.line.two.Goals as goal

pub returns-then-not-is_empty : goal.returns-then-not-is_empty
returns-then-not-is_empty c =
    two_long (λ x y. (x, y)) c.args.source.now c.args.tokens.now c.split_at.result.1.now c.split_at-2.result.1.now c.item_len.result c.item_len-2.result c.item_len.ensures.items c.split_at.ensures.back c.in-len1-up.len_at_least
    c.item_len-2.ensures.items c.split_at-2.ensures.back (sym c.is_empty.ensures ∙ c.if-not-is_empty.true)

pub expression-other-requires : goal.expression-other-requires
expression-other-requires c =
    let after = c.split_at.result.1.now in
    let rest = take (length after - 1) (drop 1 after) in
    All-same (IsIn c.args.source.now) c.split_at-2.result.0.now (take c.item_len-2.result rest) c.split_at-2.ensures.front
    (All-take (IsIn c.args.source.now) c.item_len-2.result rest (All-take (IsIn c.args.source.now) (length after - 1) (drop 1 after) (All-drop (IsIn c.args.source.now) 1 after
    (All-same (IsIn c.args.source.now) after (drop c.item_len.result c.args.tokens.now) c.split_at.ensures.back (All-drop (IsIn c.args.source.now) c.item_len.result c.args.tokens.now c.requires)))))
