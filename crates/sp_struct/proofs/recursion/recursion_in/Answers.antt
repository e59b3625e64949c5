use Rattle.std.proofs.Common.{◌≡◌, ◌<◌, ◌∙◌, refl, Some, sym, ap, arith, length, slice_get}
use Rattle.std.proofs.lemmas.Option.{slice_get_read, slice_get_within}
use Rattle.sp_graph.specs.Structure.{IsAt}
use Rattle.sp_prog.specs.declared.routine.Stmt.{Stmt}
use Rattle.sp_prog.specs.Program.{Program}
use Rattle.sp_struct.specs.code.Calls.{RecursHere, callee_of, leads_back}
use Rattle.sp_struct.proofs.LowestLemmas.{routine_done}
use Rattle.sp_struct.proofs.RecursionLemmas.{recurs_here, no_recursion}
use Rattle.sp_struct.proofs.recursion.recursion_in.Goals as goal
use Rattle.sp_struct.proofs.recursion.recursion_in.Goals.{then-leads_back, else-leads_back}

pub places-preserved : goal.places-preserved
places-preserved c =
    let p = c.args.unit.now in
    let rows = c.args.rows.now in
    let routine = c.index-as_slice-place.result in
    let s = c.index-code-at.result in
    let all = c.unit.inside.routines in
    let as_many : length all ≡ length p.routines = ap (λ (q : Program). length q.routines) c.unit.view_is in
    let low : c.args.place < length all = let l = c.requires.place in omega (arith, as_many, l) in
    let among : slice_get p.routines c.args.place ≡ Some routine =
    ap (λ (q : Program). slice_get q.routines c.args.place) (sym c.unit.view_is)
    ∙ ap (λ rs. slice_get rs c.args.place) (sym c.as_slice.ensures)
    ∙ slice_get_read c.as_slice.result.now (length c.as_slice.result.now) c.args.place routine refl (rw c.as_slice.ensures low) c.index-as_slice-place.is in
    let within : slice_get routine.code c.places.at ≡ Some s =
    ap (λ xs. slice_get xs c.places.at) (sym c.as_slice-code.ensures)
    ∙ slice_get_read c.as_slice-code.result.now (length c.as_slice-code.result.now) c.places.at s refl c.places-test.true c.index-code-at.is in
    let at : IsAt p c.args.place c.places.at routine s = record { among = among; within = within } in
    let test = c.leads_back.ensures ∙ ap (λ rs. leads_back rows (callee_of rs s.instr) c.args.place) (c.as_slice-in-places.ensures ∙ ap (λ (q : Program). q.routines) c.unit.view_is) in
    elim c.if-leads_back.branch [
      | then-leads_back w ↦
          rw (w.best-is, w.lower-best.ensures) (recurs_here p rows c.requires.rows c.args.place c.places.at routine s at c.places.best c.places.invariant (sym test ∙ w.if-leads_back.true))
      | else-leads_back w ↦
          rw w.best-is (no_recursion p rows c.requires.rows c.args.place c.places.at routine s at c.places.best c.places.invariant (sym test ∙ w.if-leads_back.false))
    ]

pub returns : goal.returns
returns c =
    let p = c.args.unit.now in
    let routine = c.index-as_slice-place.result in
    let all = c.unit.inside.routines in
    let as_many : length all ≡ length p.routines = ap (λ (q : Program). length q.routines) c.unit.view_is in
    let low : c.args.place < length all = let l = c.requires.place in omega (arith, as_many, l) in
    let among : slice_get p.routines c.args.place ≡ Some routine =
    ap (λ (q : Program). slice_get q.routines c.args.place) (sym c.unit.view_is)
    ∙ ap (λ rs. slice_get rs c.args.place) (sym c.as_slice.ensures)
    ∙ slice_get_read c.as_slice.result.now (length c.as_slice.result.now) c.args.place routine refl (rw c.as_slice.ensures low) c.index-as_slice-place.is in
    let seen = ap (length {A = Stmt}) c.as_slice-code.ensures in
    routine_done (RecursHere p) c.args.place c.places.at c.places.best c.places.invariant
    (λ j line h.
    let same : h.0 ≡ routine = let m = h.2.among in cc (m, among) in
    let l : j < length routine.code = rw (← same) (slice_get_within h.0.code j h.1 h.2.within) in
    let past = c.places-test.false in omega (arith, l, seen, past))
