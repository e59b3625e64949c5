use Rattle.std.proofs.Common.{◌≡◌, ◌<◌, ◌∙◌, Some, ap, arith, length, refl, slice_get, sym}
use Rattle.std.proofs.lemmas.Option.{slice_get_read}
use Rattle.sp_flow.specs.code.Counts.{own_lists, own_of}
use Rattle.sp_flow.proofs.BrokenLemmas.{broken_in, moved}
use Rattle.sp_prog.specs.Program.{Program}
use Rattle.sp_flow.proofs.checking.count_routine.Goals as goal

pub returns : goal.returns
returns c =
    let p = c.args.unit.now in
    let routine = c.index-routines-place.result in
    let all = c.unit.inside.routines in
    let as_many : length all ≡ length p.routines = ap (λ (q : Program). length q.routines) c.unit.view_is in
    let low : c.args.place < length all = let l = c.requires in omega (arith, as_many, l) in
    let among : slice_get p.routines c.args.place ≡ Some routine =
    ap (λ (q : Program). slice_get q.routines c.args.place) (sym c.unit.view_is)
    ∙ ap (λ rs. slice_get rs c.args.place) (sym c.as_slice-routines.ensures)
    ∙ slice_get_read c.as_slice-routines.result.now (length c.as_slice-routines.result.now) c.args.place routine refl (rw c.as_slice-routines.ensures low)
    c.index-routines-place.is in
    let o = c.listed_of-own.result in
    broken_in p c.args.place routine c.in_ok-sets.sets.items c.in_ok-sets.ensures (λ f. c.args.so_far ≡ Some f) c.count_code-best.result among
    (moved (λ f. c.args.so_far ≡ Some f) c.count_code-best.result c.as_slice-areas.result.now p.areas c.as_slice-routines.result.now p.routines
    (own_lists o.locs o.reads.now o.changes.now o.ins.now o.outs.now) (own_of routine) c.as_slice-code.result.now routine.code c.deref.result.now c.in_ok-sets.sets.items
    (c.as_slice-areas.ensures ∙ ap (λ (q : Program). q.areas) c.unit.view_is)
    (c.as_slice-routines.ensures ∙ ap (λ (q : Program). q.routines) c.unit.view_is)
    c.listed_of-own.ensures c.as_slice-code.ensures c.deref.ensures.value c.count_code-best.ensures)
