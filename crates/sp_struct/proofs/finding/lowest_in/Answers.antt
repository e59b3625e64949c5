use Rattle.std.proofs.Common.{◌≡◌, ◌<◌, ◌∙◌, refl, Some, sym, ap, arith, length, slice_get}
use Rattle.std.proofs.lemmas.Option.{slice_get_read}
use Rattle.sp_graph.specs.Structure.{IsAt}
use Rattle.sp_prog.specs.declared.routine.Stmt.{Stmt}
use Rattle.sp_prog.specs.Program.{Program}
use Rattle.sp_struct.proofs.LowestLemmas.{broken_here, kept_here, routine_done, within_routine}
use Rattle.sp_struct.specs.code.Lowest.{Breaks}
use Rattle.sp_struct.proofs.finding.lowest_in.Goals as goal
use Rattle.sp_struct.proofs.finding.lowest_in.Goals.{then-breaks, else-breaks}

pub places-preserved : goal.places-preserved
places-preserved c =
    let p = c.args.unit.now in
    let routine = c.index-as_slice-place.result in
    let s = c.index-code-at.result in
    let all = c.unit.inside.routines in
    let as_many : length all ≡ length p.routines = ap (λ (q : Program). length q.routines) c.unit.view_is in
    let low : c.args.place < length all = let l = c.requires.place in omega (arith, as_many, l) in
    let among : slice_get p.routines c.args.place ≡ Some routine =
    ap (λ (q : Program). slice_get q.routines c.args.place) (sym c.unit.view_is)
    ∙ ap (λ rs. slice_get rs c.args.place) (sym c.as_slice.ensures)
    ∙ slice_get_read c.as_slice.result.now (length c.as_slice.result.now) c.args.place routine refl (rw c.as_slice.ensures low) c.index-as_slice-place.is in
    let within : slice_get routine.code c.places.at ≡ Some s =
    ap (λ xs. slice_get xs c.places.at) (sym c.as_slice-code.ensures)
    ∙ slice_get_read c.as_slice-code.result.now (length c.as_slice-code.result.now) c.places.at s refl c.places-test.true c.index-code-at.is in
    let at : IsAt p c.args.place c.places.at routine s = record { among = among; within = within } in
    let l = c.index-all-place.result in
    let there : slice_get c.args.all.now c.args.place ≡ Some l =
    slice_get_read c.args.all.now (length c.args.all.now) c.args.place l refl (let size = c.requires.levels.size in let low = c.requires.place in omega (arith, size, low)) c.index-all-place.is in
    elim c.if-breaks.branch [
      | then-breaks w ↦
          rw (w.best-is, w.lower-best.ensures) (broken_here p c.args.all.now c.args.rule c.args.place c.places.at routine s l at there c.places.best c.places.invariant (sym c.breaks.ensures ∙ w.if-breaks.true))
      | else-breaks w ↦
          rw w.best-is (kept_here p c.args.all.now c.args.rule c.args.place c.places.at routine s l at there c.places.best c.places.invariant (sym c.breaks.ensures ∙ w.if-breaks.false))
    ]

pub returns : goal.returns
returns c =
    let p = c.args.unit.now in
    let routine = c.index-as_slice-place.result in
    let all = c.unit.inside.routines in
    let as_many : length all ≡ length p.routines = ap (λ (q : Program). length q.routines) c.unit.view_is in
    let low : c.args.place < length all = let l = c.requires.place in omega (arith, as_many, l) in
    let among : slice_get p.routines c.args.place ≡ Some routine =
    ap (λ (q : Program). slice_get q.routines c.args.place) (sym c.unit.view_is)
    ∙ ap (λ rs. slice_get rs c.args.place) (sym c.as_slice.ensures)
    ∙ slice_get_read c.as_slice.result.now (length c.as_slice.result.now) c.args.place routine refl (rw c.as_slice.ensures low) c.index-as_slice-place.is in
    let seen = ap (length {A = Stmt}) c.as_slice-code.ensures in
    routine_done (Breaks p c.args.all.now c.args.rule) c.args.place c.places.at c.places.best c.places.invariant
    (λ j line h. let l = within_routine p c.args.all.now c.args.rule c.args.place routine among j line h in let past = c.places-test.false in omega (arith, l, seen, past))
