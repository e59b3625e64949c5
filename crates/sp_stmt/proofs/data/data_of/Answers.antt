use Rattle.std.proofs.Common.{◌≡◌, ◌-◌, [], length, drop, sym, ap, ◌∙◌, rules}
use Rattle.std.proofs.lemmas.List.Elements.{All-drop, All-same, All-take}
use Rattle.std.proofs.lemmas.Result.{err_from_is_err_and}
use Rattle.sp_expr.specs.Words.{IsIn}
use Rattle.sp_stmt.specs.code.Data.{items_behind, behind, one_operand, item_of, data_of}
use Rattle.sp_stmt.specs.code.Held.{held}
use Rattle.sp_stmt.proofs.AnswerLaws.{exact}
use Rattle.sp_stmt.proofs.ItemLaws.{data_of-more, data_of-last, items_behind-comma, item_refused}
use Rattle.sp_stmt.proofs.data.data_of.Goals as goal

pub returns-in_err-add : goal.returns-in_err-add
returns-in_err-add c =
    let p = err_from_is_err_and c.from_residual.result c.from_residual.ensures.1 in
    let more = data_of-more c.args.kind c.args.source.now c.loop-items.rest.now c.split_at.result.0.now c.split_at.result.1.now c.item_len.result (held c.loop-items.items) c.item_len.ensures.items c.split_at.ensures.front c.split_at.ensures.back in
    rw (p.1, p.2) (item_refused (Unit {0}) c.in_err-add.field-0.0 (held c.add.new.self) (behind (held c.loop-items.items) (one_operand (item_of c.args.kind c.args.source.now c.split_at.result.0.now)))
    (data_of c.args.kind c.args.source.now (items_behind c.args.source.now c.split_at.result.1.now)) _ c.in_err-add.ensures (sym more ∙ c.loop-items.invariant.0))

pub returns-in-empty : goal.returns-in-empty
returns-in-empty c =
    let more = data_of-more c.args.kind c.args.source.now c.loop-items.rest.now c.split_at.result.0.now c.split_at.result.1.now c.item_len.result (held c.loop-items.items) c.item_len.ensures.items c.split_at.ensures.front c.split_at.ensures.back in
    let none : c.split_at.result.1.now ≡ [] = search rules in
    let last = data_of-last c.args.kind c.args.source.now c.split_at.result.1.now (behind (held c.loop-items.items) (one_operand (item_of c.args.kind c.args.source.now c.split_at.result.0.now))) none in
    exact c.finish.result _ (sym c.loop-items.invariant.0 ∙ more ∙ last ∙ c.in_ok-add.ensures ∙ sym c.finish.ensures)

pub loop-items-preserved : goal.loop-items-preserved
loop-items-preserved c =
    let more = data_of-more c.args.kind c.args.source.now c.loop-items.rest.now c.split_at.result.0.now c.split_at.result.1.now c.item_len.result (held c.loop-items.items) c.item_len.ensures.items c.split_at.ensures.front c.split_at.ensures.back in
    let rest = items_behind-comma c.args.source.now c.split_at.result.1.now c.in-len1-up.len_at_least in
    let back = c.split_at.result.1.now in (
      ap (λ items. behind (held c.add.new.self) (data_of c.args.kind c.args.source.now items)) (sym rest)
          ∙ ap (λ front. behind front (data_of c.args.kind c.args.source.now (items_behind c.args.source.now back))) (sym c.in_ok-add.ensures)
          ∙ sym more ∙ c.loop-items.invariant.0,
      All-take (IsIn c.args.source.now) (length back - 1) (drop 1 back) (All-drop (IsIn c.args.source.now) 1 back (All-same (IsIn c.args.source.now) back (drop c.item_len.result c.loop-items.rest.now) c.split_at.ensures.back
          (All-drop (IsIn c.args.source.now) c.item_len.result c.loop-items.rest.now c.loop-items.invariant.1))),
    )
