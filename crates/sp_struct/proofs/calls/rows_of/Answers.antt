use Rattle.std.proofs.Common.{◌≡◌, ◌∙◌, ℕ, refl, Some, sym, ap, length, slice_get}
use Rattle.std.proofs.lemmas.Option.{slice_get_read}
use Rattle.sp_prog.specs.declared.routine.Routine.{Routine}
use Rattle.sp_prog.specs.Program.{Program}
use Rattle.sp_struct.specs.code.Bits.{has}
use Rattle.sp_struct.specs.code.Calls.{calls, calls_by, calls_first, words_for}
use Rattle.sp_struct.proofs.CallLemmas.{row_more}
use Rattle.sp_struct.proofs.calls.rows_of.Goals as goal

pub routines-preserved : goal.routines-preserved
routines-preserved c =
    let p = c.args.unit.now in
    let place = c.routines.place in
    let routine = c.index-routines-place.result in
    let row = c.in_ok-row.row in
    let routines_are : c.as_slice-routines.result.now ≡ p.routines = c.as_slice-routines.ensures ∙ ap (λ (q : Program). q.routines) c.unit.view_is in
    let among : slice_get p.routines place ≡ Some routine =
    ap (λ rs. slice_get rs place) (sym routines_are)
    ∙ slice_get_read c.as_slice-routines.result.now (length c.as_slice-routines.result.now) place routine refl c.routines-test.true c.index-routines-place.is in
    let code_is : c.as_slice-code.result.now ≡ routine.code = c.as_slice-code.ensures ∙ ap (λ (r : Routine). r.code) (sym c.index-routines-place.is) in
    let told : (k : ℕ) → has row k ≡ calls p place k =
    λ k. c.in_ok-row.ensures.has k
    ∙ (λ i. calls_first (routines_are i) (code_is i) (length (code_is i)) k)
    ∙ sym (ap (λ o. calls_by p.routines o k) among) in
    rw c.in_ok-push.ensures.items (row_more p place c.routines.rows.items row c.routines.invariant (c.in_ok-row.ensures.size ∙ ap words_for routines_are) told)
