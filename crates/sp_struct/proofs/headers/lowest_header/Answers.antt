use Rattle.std.proofs.Common.{◌≡◌, ◌∙◌, refl, Some, sym, ap, arith, length, slice_get}
use Rattle.std.proofs.lemmas.Option.{slice_get_read}
use Rattle.sp_prog.specs.declared.routine.Routine.{Routine}
use Rattle.sp_prog.specs.Program.{Program}
use Rattle.sp_struct.specs.code.Headers.{Header}
use Rattle.sp_struct.proofs.HeaderLemmas.{header_more, header_kept, header_within, headers_told}
use Rattle.sp_struct.proofs.LowestLemmas.{all_done}
use Rattle.sp_struct.proofs.headers.lowest_header.Goals as goal
use Rattle.sp_struct.proofs.headers.lowest_header.Goals.{then-passes_region, else-passes_region}

pub routines-preserved : goal.routines-preserved
routines-preserved c =
    let p = c.args.unit.now in
    let routine = c.index-routines-place.result in
    let among : slice_get p.routines c.routines.place ≡ Some routine =
    ap (λ (q : Program). slice_get q.routines c.routines.place) (sym c.unit.view_is)
    ∙ ap (λ rs. slice_get rs c.routines.place) (sym c.as_slice-routines.ensures)
    ∙ slice_get_read c.as_slice-routines.result.now (length c.as_slice-routines.result.now) c.routines.place routine refl c.routines-test.true c.index-routines-place.is in
    elim c.if-passes_region.branch [
      | then-passes_region w ↦
          rw (w.best-is, w.lower-best.ensures) (header_more p c.routines.place routine among c.routines.best c.routines.invariant (sym c.passes_region.ensures ∙ w.if-passes_region.true))
      | else-passes_region w ↦
          rw w.best-is (header_kept p c.routines.place routine among c.routines.best c.routines.invariant (sym c.passes_region.ensures ∙ w.if-passes_region.false))
    ]

pub returns : goal.returns
returns c =
    let p = c.args.unit.now in
    let as_many : length c.unit.inside.routines ≡ length p.routines = ap (λ (q : Program). length q.routines) c.unit.view_is in
    let seen = ap (length {A = Routine}) c.as_slice-routines.ensures in
    headers_told p c.routines.best (all_done (Header p) c.routines.place 0 c.routines.best c.routines.invariant
    (λ i j line h. let l = header_within p i j line h in let past = c.routines-test.false in omega (arith, l, as_many, seen, past)))
