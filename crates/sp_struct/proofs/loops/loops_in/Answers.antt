use Rattle.std.proofs.Common.{◌≡◌, ◌<◌, ◌∙◌, refl, Some, sym, ap, arith, length, slice_get, unwrap_or}
use Rattle.std.proofs.lemmas.Option.{slice_get_read, slice_get_within}
use Rattle.sp_graph.specs.Routines.{graph_of}
use Rattle.sp_graph.specs.Structure.{IsAt}
use Rattle.sp_graph.specs.declared.graph.Node.{Node}
use Rattle.sp_prog.specs.declared.routine.Stmt.{Stmt}
use Rattle.sp_prog.specs.Program.{Program}
use Rattle.sp_struct.specs.code.Loops.{UncutHere, Took}
use Rattle.sp_struct.proofs.LoopLemmas.{below_first, graph_size, loop_more, skipped}
use Rattle.sp_struct.proofs.LowestLemmas.{routine_done}
use Rattle.sp_struct.proofs.loops.loops_in.Goals as goal

pub places-init : goal.places-init
places-init c =
    let p = c.args.unit.now in
    let routine = c.index-as_slice-place.result in
    let all = c.unit.inside.routines in
    let as_many : length all ≡ length p.routines = ap (λ (q : Program). length q.routines) c.unit.view_is in
    let low : c.args.place < length all = let l = c.requires.place in omega (arith, as_many, l) in
    let among : slice_get p.routines c.args.place ≡ Some routine =
    ap (λ (q : Program). slice_get q.routines c.args.place) (sym c.unit.view_is)
    ∙ ap (λ rs. slice_get rs c.args.place) (sym c.as_slice.ensures)
    ∙ slice_get_read c.as_slice.result.now (length c.as_slice.result.now) c.args.place routine refl (rw c.as_slice.ensures low) c.index-as_slice-place.is in
    let many : length c.as_slice-code.result.now ≡ length routine.code = ap (length {A = Stmt}) c.as_slice-code.ensures in
    let size = graph_size p c.args.place routine among in
    let is : c.deref.result.now ≡ graph_of p c.args.place = c.deref.ensures.value ∙ c.in_ok-graph.ensures.graph in
    let n = length c.as_slice-code.result.now in
    rw c.unwrap_or-first.ensures (skipped (UncutHere p) c.args.place c.args.so_far (unwrap_or c.in_ok-uncut.field-0 n) c.requires.so_far
    (λ j other l h. below_first (graph_of p c.args.place) c.in_ok-uncut.field-0 n (omega (arith, many, size))
    (rw is at c.in_ok-uncut.ensures.none) (rw is at c.in_ok-uncut.ensures.lowest) j l h.4))

pub take-requires : goal.take-requires
take-requires c =
    let p = c.args.unit.now in
    let routine = c.index-as_slice-place.result in
    let all = c.unit.inside.routines in
    let as_many : length all ≡ length p.routines = ap (λ (q : Program). length q.routines) c.unit.view_is in
    let low : c.args.place < length all = let l = c.requires.place in omega (arith, as_many, l) in
    let among : slice_get p.routines c.args.place ≡ Some routine =
    ap (λ (q : Program). slice_get q.routines c.args.place) (sym c.unit.view_is)
    ∙ ap (λ rs. slice_get rs c.args.place) (sym c.as_slice.ensures)
    ∙ slice_get_read c.as_slice.result.now (length c.as_slice.result.now) c.args.place routine refl (rw c.as_slice.ensures low) c.index-as_slice-place.is in
    let many : length c.as_slice-code.result.now ≡ length routine.code = ap (length {A = Stmt}) c.as_slice-code.ensures in
    let size = graph_size p c.args.place routine among in
    let is : c.deref-in-places.result.now ≡ graph_of p c.args.place = c.deref-in-places.ensures.value ∙ c.in_ok-graph.ensures.graph in
    let l = ap (length {A = Node}) is in
    let t = c.places-test.true in omega (arith, many, size, l, t)

pub places-preserved : goal.places-preserved
places-preserved c =
    let p = c.args.unit.now in
    let routine = c.index-as_slice-place.result in
    let all = c.unit.inside.routines in
    let as_many : length all ≡ length p.routines = ap (λ (q : Program). length q.routines) c.unit.view_is in
    let low : c.args.place < length all = let l = c.requires.place in omega (arith, as_many, l) in
    let among : slice_get p.routines c.args.place ≡ Some routine =
    ap (λ (q : Program). slice_get q.routines c.args.place) (sym c.unit.view_is)
    ∙ ap (λ rs. slice_get rs c.args.place) (sym c.as_slice.ensures)
    ∙ slice_get_read c.as_slice.result.now (length c.as_slice.result.now) c.args.place routine refl (rw c.as_slice.ensures low) c.index-as_slice-place.is in
    let s = c.index-code-at.result in
    let within : slice_get routine.code c.places.at ≡ Some s =
    ap (λ xs. slice_get xs c.places.at) (sym c.as_slice-code.ensures)
    ∙ slice_get_read c.as_slice-code.result.now (length c.as_slice-code.result.now) c.places.at s refl c.places-test.true c.index-code-at.is in
    let at : IsAt p c.args.place c.places.at routine s = record { among = among; within = within } in
    let is : c.deref-in-places.result.now ≡ graph_of p c.args.place = c.deref-in-places.ensures.value ∙ c.in_ok-graph.ensures.graph in
    let took : Took (graph_of p c.args.place) c.places.at s.line c.places.best c.in_ok-best.best = rw is at c.in_ok-best.ensures in
    loop_more p c.args.place c.places.at routine s at c.places.best c.in_ok-best.best c.places.invariant took

pub returns : goal.returns
returns c =
    let p = c.args.unit.now in
    let routine = c.index-as_slice-place.result in
    let all = c.unit.inside.routines in
    let as_many : length all ≡ length p.routines = ap (λ (q : Program). length q.routines) c.unit.view_is in
    let low : c.args.place < length all = let l = c.requires.place in omega (arith, as_many, l) in
    let among : slice_get p.routines c.args.place ≡ Some routine =
    ap (λ (q : Program). slice_get q.routines c.args.place) (sym c.unit.view_is)
    ∙ ap (λ rs. slice_get rs c.args.place) (sym c.as_slice.ensures)
    ∙ slice_get_read c.as_slice.result.now (length c.as_slice.result.now) c.args.place routine refl (rw c.as_slice.ensures low) c.index-as_slice-place.is in
    let seen = ap (length {A = Stmt}) c.as_slice-code.ensures in
    routine_done (UncutHere p) c.args.place c.places.at c.places.best c.places.invariant
    (λ j line h.
    let same : h.0 ≡ routine = let m = h.2.among in cc (m, among) in
    let l : j < length routine.code = rw (← same) (slice_get_within h.0.code j h.1 h.2.within) in
    let past = c.places-test.false in omega (arith, l, seen, past))
