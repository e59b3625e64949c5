use Rattle.std.proofs.Common.{◌≡◌, ◌+◌, ◌++◌, ◌∷◌, ◌&&◌, [], List, ℕ, eqb, ltb, true, false, length, sym, ap, ◌∙◌}
use Rattle.sp_hex.specs.Hex.{written_record, data_type}
use Rattle.sp_hex.proofs.RowLaws.{filled, one_joined, one_written}
use Rattle.sp_hex.proofs.writing.take.Goals as goal

pub returns-then-joins-clause-text : goal.returns-then-joins-clause-text
returns-then-joins-clause-text c =
    let some = filled c.args.row.now (sym c.is_empty.ensures ∙ c.if-is_empty.false) in
    let joined : (eqb c.args.a (c.args.address + length c.args.row.now.items) && ltb (length c.args.row.now.items) 16) ≡ true =
    ap (λ (r : List ℕ). eqb c.args.a (c.args.address + length r) && ltb (length r) 16) (sym c.deref.ensures.value) ∙ sym c.joins.ensures ∙ c.if-joins.true in
    λ cells. one_joined c.args.a c.args.address c.args.byte c.args.row.now.items _ c.args.out.now.items cells some joined c.in_ok-push-2.ensures.items

pub returns-clause-text : goal.returns-clause-text
returns-clause-text c =
    let some = filled c.args.row.now (sym c.is_empty.ensures ∙ c.if-is_empty.false) in
    let apart : (eqb c.args.a (c.args.address + length c.args.row.now.items) && ltb (length c.args.row.now.items) 16) ≡ false =
    ap (λ (r : List ℕ). eqb c.args.a (c.args.address + length r) && ltb (length r) 16) (sym c.deref.ensures.value) ∙ sym c.joins.ensures ∙ c.if-joins.false in
    λ cells. one_written c.args.a c.args.address c.args.byte c.args.row.now.items _ c.args.out.now.items _ cells some apart
    (c.in_ok-push-3.ensures.items ∙ ap (λ (r : List ℕ). r ++ c.args.byte ∷ []) c.clear.ensures.items)
    (c.in_ok-put_record.ensures ∙ ap (λ (r : List ℕ). c.args.out.now.items ++ written_record data_type c.args.address r) c.deref-2.ensures.value)
