use Rattle.std.proofs.Common.{◌≡◌, ◌<◌, ◌≤◌, ◌∙◌, refl, Some, ap, arith, length, slice_get}
use Rattle.std.proofs.lemmas.Option.{slice_get_read}
use Rattle.sp_prog.specs.declared.routine.Routine.{Routine}
use Rattle.sp_prog.specs.Program.{Program}
use Rattle.sp_struct.proofs.NaturalLemmas.{low_at, high_at, sound_next, all_sound}
use Rattle.sp_struct.proofs.depths.sound_of.Goals as goal

pub depths_of-requires-clause-low : goal.depths_of-requires-clause-low
depths_of-requires-clause-low c =
    let p = c.args.unit.now in
    let place = c.routines.place in
    let l = c.index-all-place.result in
    let many = ap (length {A = Routine}) (c.as_slice-routines.ensures ∙ ap (λ (q : Program). q.routines) c.unit.view_is) in
    let low : place < length p.routines = let t = c.routines-test.true in omega (arith, t, many) in
    let there : slice_get c.args.all.now place ≡ Some l =
    slice_get_read c.args.all.now (length c.args.all.now) place l refl (let size = c.requires.levels.size in omega (arith, size, low)) c.index-all-place.is in
    low_at p c.requires.structured c.args.all.now c.requires.levels place low l there

pub depths_of-requires-clause-high : goal.depths_of-requires-clause-high
depths_of-requires-clause-high c =
    let p = c.args.unit.now in
    let place = c.routines.place in
    let l = c.index-all-place.result in
    let many = ap (length {A = Routine}) (c.as_slice-routines.ensures ∙ ap (λ (q : Program). q.routines) c.unit.view_is) in
    let low : place < length p.routines = let t = c.routines-test.true in omega (arith, t, many) in
    let there : slice_get c.args.all.now place ≡ Some l =
    slice_get_read c.args.all.now (length c.args.all.now) place l refl (let size = c.requires.levels.size in omega (arith, size, low)) c.index-all-place.is in
    high_at p c.requires.structured c.args.all.now c.requires.levels place low l there

pub routines-preserved : goal.routines-preserved
routines-preserved c =
    let p = c.args.unit.now in
    let place = c.routines.place in
    let l = c.index-all-place.result in
    let many = ap (length {A = Routine}) (c.as_slice-routines.ensures ∙ ap (λ (q : Program). q.routines) c.unit.view_is) in
    let low : place < length p.routines = let t = c.routines-test.true in omega (arith, t, many) in
    let there : slice_get c.args.all.now place ≡ Some l =
    slice_get_read c.args.all.now (length c.args.all.now) place l refl (let size = c.requires.levels.size in omega (arith, size, low)) c.index-all-place.is in
    rw c.in_ok-push.ensures.items (sound_next p c.requires.structured c.args.all.now c.requires.levels place low l there c.routines.depths.items c.in_ok-given.given
    c.routines.invariant c.in_ok-given.ensures)

pub returns : goal.returns
returns c =
    let p = c.args.unit.now in
    let many = ap (length {A = Routine}) (c.as_slice-routines.ensures ∙ ap (λ (q : Program). q.routines) c.unit.view_is) in
    let past : length p.routines ≤ c.routines.place = let t = c.routines-test.false in omega (arith, t, many) in
    rw c.from_vec.ensures (all_sound p c.routines.place c.routines.depths.items c.requires.structured c.routines.invariant past)
