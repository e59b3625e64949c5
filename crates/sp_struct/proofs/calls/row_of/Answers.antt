use Rattle.std.proofs.Common.{◌≡◌, ◌∙◌, refl, Some, sym, ap, length, slice_get}
use Rattle.std.specs.Prelude.{◌||◌}
use Rattle.std.proofs.lemmas.Option.{slice_get_read}
use Rattle.sp_struct.specs.code.Calls.{callee_of, is_place}
use Rattle.sp_struct.proofs.CallLemmas.{no_calls_first, calls_next}
use Rattle.sp_struct.proofs.calls.row_of.Goals as goal

pub places-init : goal.places-init
places-init c = (c.in_ok-row.ensures.size, λ k. c.in_ok-row.ensures.none k ∙ sym (no_calls_first c.args.routines.now c.args.code.now k))

pub places-preserved : goal.places-preserved
places-preserved c =
    let routines = c.args.routines.now in
    let code = c.args.code.now in
    let at = c.places.at in
    let s = c.index-code-at.result in
    let here : slice_get code at ≡ Some s = slice_get_read code (length code) at s refl c.places-test.true c.index-code-at.is in (
      c.note_call.ensures.size ∙ c.places.invariant.0,
      λ k. c.note_call.ensures.has k
          ∙ ap (λ b. b || is_place (callee_of routines s.instr) k) (c.places.invariant.1 k)
          ∙ sym (calls_next routines code at k s here),
    )
