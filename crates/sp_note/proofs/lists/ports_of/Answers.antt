use Rattle.std.proofs.Common.{List, ◌≡◌, ◌-◌, [], length, take, drop, sym, ap, ◌∙◌, rules}
use Rattle.std.proofs.lemmas.List.Elements.{All-drop, All-same, All-take}
use Rattle.std.proofs.lemmas.Result.{err_from_is_err_and}
use Rattle.sp_expr.specs.declared.word.Word as expr
use Rattle.sp_lex.specs.Readers.{IsIn, items_of, items_after}
use Rattle.sp_note.specs.code.Found.{held, with_last}
use Rattle.sp_note.specs.code.Lines.{expression_of, ports_read}
use Rattle.sp_note.proofs.AnswerLemmas.{port_answer}
use Rattle.sp_note.proofs.ItemLemmas.{in_front, items_after-comma, ports_read-more, ports_read-last, port_stops}
use Rattle.sp_note.proofs.lists.ports_of.Goals as goal

pub returns-in_err-add : goal.returns-in_err-add
returns-in_err-add c =
    let p = err_from_is_err_and c.from_residual.result c.from_residual.ensures.1 in
    let more = ports_read-more c.args.source.now c.loop-found.rest.now c.split_at.result.0.now c.split_at.result.1.now c.item_len.result (held c.loop-found.found) c.item_len.ensures.items c.split_at.ensures.front c.split_at.ensures.back in
    rw (p.1, p.2) (port_stops (Unit {0}) c.in_err-add.field-0.0 (held c.add.new.self) (with_last (held c.loop-found.found) (expression_of c.args.source.now c.split_at.result.0.now))
    (ports_read c.args.source.now (items_after c.args.source.now c.split_at.result.1.now)) _ c.in_err-add.ensures (sym more ∙ c.loop-found.invariant.0))

pub returns-in-empty : goal.returns-in-empty
returns-in-empty c =
    let more = ports_read-more c.args.source.now c.loop-found.rest.now c.split_at.result.0.now c.split_at.result.1.now c.item_len.result (held c.loop-found.found) c.item_len.ensures.items c.split_at.ensures.front c.split_at.ensures.back in
    let none : c.split_at.result.1.now ≡ [] = search rules in
    let last = ports_read-last c.args.source.now c.split_at.result.1.now (with_last (held c.loop-found.found) (expression_of c.args.source.now c.split_at.result.0.now)) none in
    port_answer (λ (ports : List (List expr.Word)). ports) c.finish.result (held c.add.new.self) _ c.finish.ensures (sym (sym c.loop-found.invariant.0 ∙ more ∙ last ∙ c.in_ok-add.ensures))

pub loop-found-preserved : goal.loop-found-preserved
loop-found-preserved c =
    let more = ports_read-more c.args.source.now c.loop-found.rest.now c.split_at.result.0.now c.split_at.result.1.now c.item_len.result (held c.loop-found.found) c.item_len.ensures.items c.split_at.ensures.front c.split_at.ensures.back in
    let back = c.split_at.result.1.now in
    let rest = items_after-comma c.args.source.now back c.in-len1-up.len_at_least in (
      ap (λ items. in_front (held c.add.new.self) (ports_read c.args.source.now items)) (sym rest)
          ∙ ap (λ front. in_front front (ports_read c.args.source.now (items_after c.args.source.now back))) (sym c.in_ok-add.ensures)
          ∙ sym more ∙ c.loop-found.invariant.0,
      All-take (IsIn c.args.source.now) (length back - 1) (drop 1 back) (All-drop (IsIn c.args.source.now) 1 back (All-same (IsIn c.args.source.now) back (drop c.item_len.result c.loop-found.rest.now) c.split_at.ensures.back
          (All-drop (IsIn c.args.source.now) c.item_len.result c.loop-found.rest.now c.loop-found.invariant.1))),
    )
