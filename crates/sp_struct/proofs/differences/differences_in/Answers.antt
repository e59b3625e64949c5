use Rattle.std.proofs.Common.{◌≡◌, ◌<◌, ◌∙◌, refl, Some, sym, ap, arith, length, slice_get}
use Rattle.std.proofs.lemmas.Option.{slice_get_read, slice_get_within}
use Rattle.sp_graph.specs.Routines.{graph_of}
use Rattle.sp_graph.specs.Structure.{IsAt}
use Rattle.sp_prog.specs.declared.routine.Stmt.{Stmt}
use Rattle.sp_prog.specs.Program.{Program}
use Rattle.sp_struct.specs.code.Gaps.{DiffersHere, line_of}
use Rattle.sp_struct.proofs.GapLemmas.{next_inside, gap_more, gap_none, differs, agrees}
use Rattle.sp_struct.proofs.LowestLemmas.{routine_done}
use Rattle.sp_struct.proofs.differences.differences_in.Goals as goal
use Rattle.sp_struct.proofs.differences.differences_in.Goals.{in-Some, in_default}

pub gap_at-requires-clause-inside : goal.gap_at-requires-clause-inside
gap_at-requires-clause-inside c =
    let p = c.args.unit.now in
    let routine = c.index-as_slice-place.result in
    let all = c.unit.inside.routines in
    let as_many : length all ≡ length p.routines = ap (λ (q : Program). length q.routines) c.unit.view_is in
    let low : c.args.place < length all = let l = c.requires.place in omega (arith, as_many, l) in
    let among : slice_get p.routines c.args.place ≡ Some routine =
    ap (λ (q : Program). slice_get q.routines c.args.place) (sym c.unit.view_is)
    ∙ ap (λ rs. slice_get rs c.args.place) (sym c.as_slice.ensures)
    ∙ slice_get_read c.as_slice.result.now (length c.as_slice.result.now) c.args.place routine refl (rw c.as_slice.ensures low) c.index-as_slice-place.is in
    let l = c.index-all-place.result in
    let there : slice_get c.args.all.now c.args.place ≡ Some l =
    slice_get_read c.args.all.now (length c.args.all.now) c.args.place l refl (let size = c.requires.levels.size in let low = c.requires.place in omega (arith, size, low)) c.index-all-place.is in
    let told = c.requires.levels.each c.args.place routine l among there in
    let is = c.deref.ensures.value ∙ c.in_ok-graph.ensures.graph in
    λ to s. let w = next_inside p c.args.place routine among c.places.at to (rw is at s) in let z = told.size in omega (arith, w, z)

pub gap_at-requires-clause-low : goal.gap_at-requires-clause-low
gap_at-requires-clause-low c =
    let p = c.args.unit.now in
    let routine = c.index-as_slice-place.result in
    let all = c.unit.inside.routines in
    let as_many : length all ≡ length p.routines = ap (λ (q : Program). length q.routines) c.unit.view_is in
    let low : c.args.place < length all = let l = c.requires.place in omega (arith, as_many, l) in
    let among : slice_get p.routines c.args.place ≡ Some routine =
    ap (λ (q : Program). slice_get q.routines c.args.place) (sym c.unit.view_is)
    ∙ ap (λ rs. slice_get rs c.args.place) (sym c.as_slice.ensures)
    ∙ slice_get_read c.as_slice.result.now (length c.as_slice.result.now) c.args.place routine refl (rw c.as_slice.ensures low) c.index-as_slice-place.is in
    let l = c.index-all-place.result in
    let there : slice_get c.args.all.now c.args.place ≡ Some l =
    slice_get_read c.args.all.now (length c.args.all.now) c.args.place l refl (let size = c.requires.levels.size in let low = c.requires.place in omega (arith, size, low)) c.index-all-place.is in
    λ e. ((c.requires.levels.each c.args.place routine l among there).small c.places.at e).0

pub gap_at-requires-clause-high : goal.gap_at-requires-clause-high
gap_at-requires-clause-high c =
    let p = c.args.unit.now in
    let routine = c.index-as_slice-place.result in
    let all = c.unit.inside.routines in
    let as_many : length all ≡ length p.routines = ap (λ (q : Program). length q.routines) c.unit.view_is in
    let low : c.args.place < length all = let l = c.requires.place in omega (arith, as_many, l) in
    let among : slice_get p.routines c.args.place ≡ Some routine =
    ap (λ (q : Program). slice_get q.routines c.args.place) (sym c.unit.view_is)
    ∙ ap (λ rs. slice_get rs c.args.place) (sym c.as_slice.ensures)
    ∙ slice_get_read c.as_slice.result.now (length c.as_slice.result.now) c.args.place routine refl (rw c.as_slice.ensures low) c.index-as_slice-place.is in
    let l = c.index-all-place.result in
    let there : slice_get c.args.all.now c.args.place ≡ Some l =
    slice_get_read c.args.all.now (length c.args.all.now) c.args.place l refl (let size = c.requires.levels.size in let low = c.requires.place in omega (arith, size, low)) c.index-all-place.is in
    λ e. ((c.requires.levels.each c.args.place routine l among there).small c.places.at e).1

pub places-preserved : goal.places-preserved
places-preserved c =
    let p = c.args.unit.now in
    let routine = c.index-as_slice-place.result in
    let s = c.index-code-at.result in
    let all = c.unit.inside.routines in
    let as_many : length all ≡ length p.routines = ap (λ (q : Program). length q.routines) c.unit.view_is in
    let low : c.args.place < length all = let l = c.requires.place in omega (arith, as_many, l) in
    let among : slice_get p.routines c.args.place ≡ Some routine =
    ap (λ (q : Program). slice_get q.routines c.args.place) (sym c.unit.view_is)
    ∙ ap (λ rs. slice_get rs c.args.place) (sym c.as_slice.ensures)
    ∙ slice_get_read c.as_slice.result.now (length c.as_slice.result.now) c.args.place routine refl (rw c.as_slice.ensures low) c.index-as_slice-place.is in
    let within : slice_get routine.code c.places.at ≡ Some s =
    ap (λ xs. slice_get xs c.places.at) (sym c.as_slice-code.ensures)
    ∙ slice_get_read c.as_slice-code.result.now (length c.as_slice-code.result.now) c.places.at s refl c.places-test.true c.index-code-at.is in
    let at : IsAt p c.args.place c.places.at routine s = record { among = among; within = within } in
    let l = c.index-all-place.result in
    let there : slice_get c.args.all.now c.args.place ≡ Some l =
    slice_get_read c.args.all.now (length c.args.all.now) c.args.place l refl (let size = c.requires.levels.size in let low = c.requires.place in omega (arith, size, low)) c.index-all-place.is in
    let told = c.requires.levels.each c.args.place routine l among there in
    let is : c.deref.result.now ≡ graph_of p c.args.place = c.deref.ensures.value ∙ c.in_ok-graph.ensures.graph in
    elim c.match-gap_at.branch [
      | in-Some w ↦
          let gap = w.in-Some.gap in
          rw w.best-is (gap_more p c.args.place c.places.at routine s at c.places.best c.places.invariant gap.after gap.other w.lower_difference-best.result
          (differs p c.args.place c.places.at routine s l.reached.items l.depths.items told gap.after gap.other (rw is at w.in-Some.ensures.some))
          w.lower_difference-best.ensures.line w.lower_difference-best.ensures.either)
      | in_default w ↦
          rw w.best-is (gap_none p c.args.place c.places.at routine s at c.places.best c.places.invariant
          (agrees p c.args.place c.places.at routine s l.reached.items l.depths.items told (rw is at w.in_default.ensures.none)))
    ]

pub returns : goal.returns
returns c =
    let p = c.args.unit.now in
    let routine = c.index-as_slice-place.result in
    let all = c.unit.inside.routines in
    let as_many : length all ≡ length p.routines = ap (λ (q : Program). length q.routines) c.unit.view_is in
    let low : c.args.place < length all = let l = c.requires.place in omega (arith, as_many, l) in
    let among : slice_get p.routines c.args.place ≡ Some routine =
    ap (λ (q : Program). slice_get q.routines c.args.place) (sym c.unit.view_is)
    ∙ ap (λ rs. slice_get rs c.args.place) (sym c.as_slice.ensures)
    ∙ slice_get_read c.as_slice.result.now (length c.as_slice.result.now) c.args.place routine refl (rw c.as_slice.ensures low) c.index-as_slice-place.is in
    let seen = ap (length {A = Stmt}) c.as_slice-code.ensures in
    let low = c.places.invariant in
    record {
      lowest = routine_done (DiffersHere p) c.args.place c.places.at (line_of c.places.best) low.lowest (λ j line h.
          let same : h.0 ≡ routine = let m = h.2.among in cc (m, among) in
          let l : j < length routine.code = rw (← same) (slice_get_within h.0.code j h.1 h.2.within) in
          let past = c.places-test.false in omega (arith, l, seen, past));
      differs = low.differs;
    }
