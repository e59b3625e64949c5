use Rattle.std.proofs.Common.{◌≡◌, ◌++◌, [], List, ℕ, sym, ap, subst, ◌∙◌}
use Rattle.std.specs.FinMap as maps
use Rattle.sp_hex.specs.Hex.{records_of, written_record, data_type, StandsFor}
use Rattle.sp_hex.specs.code.Rows.{data_text, records_with}
use Rattle.sp_hex.proofs.RowLaws.{filled, not_filled, last_written, none_written, write_end}
use Rattle.sp_hex.proofs.WrittenLaws.{text_stands}
use Rattle.sp_hex.proofs.writing.write.Goals as goal
use Rattle.sp_hex.proofs.writing.write.Goals.{then-not-is_empty+in_ok-put_record, else-not-is_empty}

pub returns-clause-text : goal.returns-clause-text
returns-clause-text c =
    let row = c.loop-a.row.items in
    let old = c.loop-a.out.items in
    let so_far : old ++ data_text (records_with c.loop-a.address row []) ≡ data_text (records_of (maps.entries c.args.image.now)) =
    ap (λ (cells : List (ℕ × ℕ)). old ++ data_text (records_with c.loop-a.address row cells)) (sym c.in-None.ensures.steps.0) ∙ c.loop-a.invariant.text in
    let all : c.if-not-is_empty.out.items ≡ data_text (records_of (maps.entries c.args.image.now)) = elim c.if-not-is_empty.branch [
      | then-not-is_empty+in_ok-put_record w ↦
          let some = filled c.loop-a.row (sym c.is_empty.ensures ∙ w.if-not-is_empty.true) in
          let put = w.in_ok-put_record.ensures ∙ ap (λ (r : List ℕ). old ++ written_record data_type c.loop-a.address r) w.deref.ensures.value in
          ap (λ v. v.items) w.out-is ∙ last_written c.args.image.now c.loop-a.address row old _ some put so_far
      | else-not-is_empty w ↦
          let none = not_filled c.loop-a.row (sym c.is_empty.ensures ∙ w.if-not-is_empty.false) in
          ap (λ v. v.items) w.out-is ∙ none_written c.args.image.now c.loop-a.address row old none so_far
    ] in
    write_end c.args.image.now c.if-not-is_empty.out.items _ c.in_ok-put_record-2.ensures all

pub returns-clause-stands : goal.returns-clause-stands
returns-clause-stands c = subst (λ (t : List ℕ). StandsFor t c.args.image.now) (sym (returns-clause-text c)) (text_stands c.args.image.now c.cells-a-items.ensures.in_memory)
