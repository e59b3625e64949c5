use Rattle.std.proofs.Common.{◌≡◌, ◌<◌, ◌∙◌, refl, Some, false, sym, ap, arith, length, slice_get}
use Rattle.std.specs.Prelude.{pos}
use Rattle.std.proofs.lemmas.List.{get_or_read}
use Rattle.std.proofs.lemmas.Option.{slice_get_read, slice_get_within}
use Rattle.sp_graph.specs.Structure.{IsAt}
use Rattle.sp_prog.specs.declared.routine.Stmt.{Stmt}
use Rattle.sp_prog.specs.Program.{Program}
use Rattle.sp_struct.specs.code.Slots.{LacksHere, Lowered}
use Rattle.sp_struct.specs.code.Depths.{depth_at}
use Rattle.sp_struct.proofs.LowestLemmas.{routine_done}
use Rattle.sp_struct.proofs.SlotLemmas.{slot_unseen, slot_more}
use Rattle.sp_struct.proofs.slots.lowest_slot_in.Goals as goal
use Rattle.sp_struct.proofs.slots.lowest_slot_in.Goals.{then-index, else-index}

pub places-preserved : goal.places-preserved
places-preserved c =
    let p = c.args.unit.now in
    let routine = c.index-as_slice-place.result in
    let all = c.unit.inside.routines in
    let as_many : length all ≡ length p.routines = ap (λ (q : Program). length q.routines) c.unit.view_is in
    let low : c.args.place < length all = let l = c.requires.place in omega (arith, as_many, l) in
    let among : slice_get p.routines c.args.place ≡ Some routine =
    ap (λ (q : Program). slice_get q.routines c.args.place) (sym c.unit.view_is)
    ∙ ap (λ rs. slice_get rs c.args.place) (sym c.as_slice.ensures)
    ∙ slice_get_read c.as_slice.result.now (length c.as_slice.result.now) c.args.place routine refl (rw c.as_slice.ensures low) c.index-as_slice-place.is in
    let l = c.index-all-place.result in
    let there : slice_get c.args.all.now c.args.place ≡ Some l =
    slice_get_read c.args.all.now (length c.args.all.now) c.args.place l refl (let size = c.requires.levels.size in let low = c.requires.place in omega (arith, size, low)) c.index-all-place.is in
    let told = c.requires.levels.each c.args.place routine l among there in
    let inside : c.places.at < length routine.code = rw c.as_slice-code.ensures at c.places-test.true in
    let seen = get_or_read l.reached.items c.places.at c.index.result.now (let m = told.marks in omega (arith, m, inside)) c.index.ensures false in
    elim c.if-index.branch [
      | then-index w ↦
          let s = w.index-code-at.result in
          let within : slice_get routine.code c.places.at ≡ Some s =
          ap (λ xs. slice_get xs c.places.at) (sym c.as_slice-code.ensures)
          ∙ slice_get_read c.as_slice-code.result.now (length c.as_slice-code.result.now) c.places.at s refl c.places-test.true w.index-code-at.is in
          let at : IsAt p c.args.place c.places.at routine s = record { among = among; within = within } in
          let depth = get_or_read l.depths.items c.places.at w.index-then-index.result.now (let m = told.size in omega (arith, m, inside)) w.index-then-index.ensures (pos 0) in
          let notes : w.as_slice-then-index.result.now ≡ s.asserts = w.as_slice-then-index.ensures ∙ ap (λ (x : Stmt). x.asserts) (sym w.index-code-at.is) in
          let lowered : Lowered (depth_at l.depths.items c.places.at) s.asserts (length s.asserts) c.places.best w.lowest_note-best.result =
          rw (depth, notes) at w.lowest_note-best.ensures in
          rw w.best-is (slot_more p c.args.place c.places.at routine s at l.reached.items l.depths.items told c.places.best c.places.invariant w.lowest_note-best.result
          (sym seen ∙ w.if-index.true) lowered)
      | else-index w ↦
          rw w.best-is (slot_unseen p c.args.place c.places.at routine among l.reached.items l.depths.items told c.places.best c.places.invariant
          (sym seen ∙ w.if-index.false))
    ]

pub returns : goal.returns
returns c =
    let p = c.args.unit.now in
    let routine = c.index-as_slice-place.result in
    let all = c.unit.inside.routines in
    let as_many : length all ≡ length p.routines = ap (λ (q : Program). length q.routines) c.unit.view_is in
    let low : c.args.place < length all = let l = c.requires.place in omega (arith, as_many, l) in
    let among : slice_get p.routines c.args.place ≡ Some routine =
    ap (λ (q : Program). slice_get q.routines c.args.place) (sym c.unit.view_is)
    ∙ ap (λ rs. slice_get rs c.args.place) (sym c.as_slice.ensures)
    ∙ slice_get_read c.as_slice.result.now (length c.as_slice.result.now) c.args.place routine refl (rw c.as_slice.ensures low) c.index-as_slice-place.is in
    let seen = ap (length {A = Stmt}) c.as_slice-code.ensures in
    routine_done (LacksHere p) c.args.place c.places.at c.places.best c.places.invariant
    (λ j line h.
    let same : h.0 ≡ routine = let m = h.2.among in cc (m, among) in
    let l : j < length routine.code = rw (← same) (slice_get_within h.0.code j h.1 h.2.within) in
    let past = c.places-test.false in omega (arith, l, seen, past))
