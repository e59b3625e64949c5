use Rattle.std.proofs.Common.{◌≡◌, Ok, Some, None, subst, sym, ap, ◌∙◌, arith, rules}
use Rattle.std.proofs.lemmas.Result.{err_from_is_err_and}
use Rattle.sp_base.specs.Cells.{Data, IsPlaced, placed}
use Rattle.sp_hex.specs.Hex.{line_bytes}
use Rattle.sp_hex.specs.code.Reading.{data_record, end_record, content, record_at, Spells, Fails}
use Rattle.sp_hex.proofs.RecordLaws.{record_within}
use Rattle.sp_hex.proofs.LoopLaws.{split_lines, bytes_fail, held_in, record_fails, data_overlaps, data_on, end_fails, end_done, nothing_left}
use Rattle.sp_hex.proofs.reading.read_lines.Goals as goal

pub returns-then-not-branch : goal.returns-then-not-branch
returns-then-not-branch c =
    let split = split_lines c.loop-rest.rest.now c.line-line.result.now c.split_at.result.1.now _ _ c.first_row-row.ensures.rows c.line-line.ensures c.size-size.ensures c.split_at.ensures.back in
    let none : line_bytes c.line-line.result.now ≡ None = subst (λ b. Spells b c.spell_line.new.bytes.items (line_bytes c.line-line.result.now)) c.if-not-branch.true c.in_ok-spell_line.ensures in
    bytes_fail c.loop-rest.number c.loop-rest.image c.loop-rest.rest.now _ _ _ split c.loop-rest.invariant.so_far none

pub returns-in_err-address : goal.returns-in_err-address
returns-in_err-address c =
    let split = split_lines c.loop-rest.rest.now c.line-line.result.now c.split_at.result.1.now _ _ c.first_row-row.ensures.rows c.line-line.ensures c.size-size.ensures c.split_at.ensures.back in
    let held = held_in c.loop-rest.number c.line-line.result.now _ _ _ c.if-not-branch.false c.in_ok-spell_line.ensures c.deref.ensures.value in
    let p = err_from_is_err_and c.from_residual-in_err-address.result c.from_residual-in_err-address.ensures.1 in
    rw (p.1, p.2) (record_fails c.loop-rest.number c.loop-rest.image c.loop-rest.rest.now _ _ _ split c.loop-rest.invariant.so_far c.in_err-address.field-0.0 (subst (Fails c.in_err-address.field-0.0) (sym held) c.in_err-address.ensures))

pub place-requires : goal.place-requires
place-requires c =
    let d : Data = record { address = c.in-Data.address; bytes = c.in-Data.bytes.now } in
    let held = held_in c.loop-rest.number c.line-line.result.now _ _ _ c.if-not-branch.false c.in_ok-spell_line.ensures c.deref.ensures.value in
    let is : record_at c.loop-rest.number c.line-line.result.now ≡ Ok (data_record d) = held ∙ c.in_ok-address.ensures ∙ ap (λ r. Ok (content r)) c.in-Data.is in
    record_within c.loop-rest.number c.line-line.result.now d is

pub returns-then-not-branch-2 : goal.returns-then-not-branch-2
returns-then-not-branch-2 c =
    let split = split_lines c.loop-rest.rest.now c.line-line.result.now c.split_at.result.1.now _ _ c.first_row-row.ensures.rows c.line-line.ensures c.size-size.ensures c.split_at.ensures.back in
    let d : Data = record { address = c.in-Data.address; bytes = c.in-Data.bytes.now } in
    let held = held_in c.loop-rest.number c.line-line.result.now _ _ _ c.if-not-branch.false c.in_ok-spell_line.ensures c.deref.ensures.value in
    let is : record_at c.loop-rest.number c.line-line.result.now ≡ Ok (data_record d) = held ∙ c.in_ok-address.ensures ∙ ap (λ r. Ok (content r)) c.in-Data.is in
    let none : placed c.in-Data.address c.in-Data.bytes.now c.loop-rest.image ≡ None =
    subst (λ b. IsPlaced b c.place.new.self (placed c.in-Data.address c.in-Data.bytes.now c.loop-rest.image)) c.if-not-branch-2.true c.in_ok-place-in-Data.ensures.placed in
    data_overlaps c.loop-rest.number c.loop-rest.image c.loop-rest.rest.now _ _ _ split c.loop-rest.invariant.so_far d is none

pub returns-in_err-only_empty-in-End : goal.returns-in_err-only_empty-in-End
returns-in_err-only_empty-in-End c =
    let split = split_lines c.loop-rest.rest.now c.line-line.result.now c.split_at.result.1.now _ _ c.first_row-row.ensures.rows c.line-line.ensures c.size-size.ensures c.split_at.ensures.back in
    let held = held_in c.loop-rest.number c.line-line.result.now _ _ _ c.if-not-branch.false c.in_ok-spell_line.ensures c.deref.ensures.value in
    let p = err_from_is_err_and c.from_residual-in_err-only_empty-in-End.result c.from_residual-in_err-only_empty-in-End.ensures.1 in
    let is : record_at c.loop-rest.number c.line-line.result.now ≡ Ok end_record = held ∙ c.in_ok-address.ensures ∙ ap (λ r. Ok (content r)) c.in-End.is in
    rw (p.1, p.2) (end_fails c.loop-rest.number c.loop-rest.image c.loop-rest.rest.now _ _ _ split c.loop-rest.invariant.so_far c.in_err-only_empty-in-End.field-0.0 is c.in_err-only_empty-in-End.ensures)

pub returns-in-End : goal.returns-in-End
returns-in-End c =
    let split = split_lines c.loop-rest.rest.now c.line-line.result.now c.split_at.result.1.now _ _ c.first_row-row.ensures.rows c.line-line.ensures c.size-size.ensures c.split_at.ensures.back in
    let held = held_in c.loop-rest.number c.line-line.result.now _ _ _ c.if-not-branch.false c.in_ok-spell_line.ensures c.deref.ensures.value in
    let is : record_at c.loop-rest.number c.line-line.result.now ≡ Ok end_record = held ∙ c.in_ok-address.ensures ∙ ap (λ r. Ok (content r)) c.in-End.is in
    end_done c.loop-rest.number c.loop-rest.image c.loop-rest.rest.now _ _ _ split c.loop-rest.invariant.so_far is c.in_ok-only_empty-in-End.ensures

pub loop-rest-preserved : goal.loop-rest-preserved
loop-rest-preserved c =
    let split = split_lines c.loop-rest.rest.now c.line-line.result.now c.split_at.result.1.now _ _ c.first_row-row.ensures.rows c.line-line.ensures c.size-size.ensures c.split_at.ensures.back in
    let d : Data = record { address = c.in-Data.address; bytes = c.in-Data.bytes.now } in
    let held = held_in c.loop-rest.number c.line-line.result.now _ _ _ c.if-not-branch.false c.in_ok-spell_line.ensures c.deref.ensures.value in
    let is : record_at c.loop-rest.number c.line-line.result.now ≡ Ok (data_record d) = held ∙ c.in_ok-address.ensures ∙ ap (λ r. Ok (content r)) c.in-Data.is in
    let some : placed c.in-Data.address c.in-Data.bytes.now c.loop-rest.image ≡ Some c.place.new.self =
    subst (λ b. IsPlaced b c.place.new.self (placed c.in-Data.address c.in-Data.bytes.now c.loop-rest.image)) c.if-not-branch-2.false c.in_ok-place-in-Data.ensures.placed in
    record {
      counted = omega (arith, c.first_row-row.ensures.some, c.size-size.ensures, c.split_at.ensures.back_len);
      so_far = data_on c.loop-rest.number c.loop-rest.image c.loop-rest.rest.now _ _ _ split c.loop-rest.invariant.so_far d c.place.new.self is some;
    }

pub returns : goal.returns
returns c = nothing_left c.loop-rest.number c.loop-rest.image c.loop-rest.rest.now _ (search rules) c.loop-rest.invariant.so_far
