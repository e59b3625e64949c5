use Rattle.std.proofs.Common.{◌≡◌, ◌<◌, ◌-◌, ◌∙◌, List, refl, Some, sym, ap, arith, length, get_or, slice_get}
use Rattle.std.proofs.lemmas.Option.{slice_get_read}
use Rattle.sp_graph.specs.Routines.{graph_of, graph_of_routine, graph_of_code}
use Rattle.sp_graph.specs.declared.graph.Node.{Node}
use Rattle.sp_graph.proofs.NodeLemmas.{length_graph}
use Rattle.sp_prog.specs.declared.routine.Routine.{Routine}
use Rattle.sp_prog.specs.declared.routine.Stmt.{Stmt}
use Rattle.sp_prog.specs.Program.{Program}
use Rattle.sp_prog.specs.Rules.{AreLaidOut, address_of}
use Rattle.sp_struct.specs.code.Depths.{TellsDepths}
use Rattle.sp_struct.proofs.LevelLemmas.{place_below, levels_more}
use Rattle.sp_struct.proofs.unit_levels.all_levels.Goals as goal

pub find_levels-requires-clause-size : goal.find_levels-requires-clause-size
find_levels-requires-clause-size c =
    let p = c.args.unit.now in
    let routine = c.index-routines-place.result in
    let among : slice_get p.routines c.routines.place ≡ Some routine =
    ap (λ (q : Program). slice_get q.routines c.routines.place) (sym c.unit.view_is)
    ∙ ap (λ rs. slice_get rs c.routines.place) (sym c.as_slice-routines.ensures)
    ∙ slice_get_read c.as_slice-routines.result.now (length c.as_slice-routines.result.now) c.routines.place routine refl c.routines-test.true c.index-routines-place.is in
    let graph : c.in_ok-graph.graph.items ≡ graph_of_code p.routines routine.code =
    c.in_ok-graph.ensures.graph ∙ ap (λ o. graph_of_routine p.routines o) among in
    let code_is : c.as_slice-code.result.now ≡ routine.code = c.as_slice-code.ensures ∙ ap (λ (r : Routine). r.code) (sym c.index-routines-place.is) in
    ap (length {A = Stmt}) code_is
    ∙ sym (ap (length {A = Node}) (c.deref.ensures.value ∙ graph) ∙ length_graph p.routines routine.code)

pub find_levels-requires-clause-few : goal.find_levels-requires-clause-few
find_levels-requires-clause-few c =
    let routine = c.index-routines-place.result in
    let code = c.as_slice-code.result.now in
    let inside : c.routines.place < length c.unit.inside.routines = rw c.as_slice-routines.ensures at c.routines-test.true in
    let rules = c.unit.invariant.routines c.routines.place routine inside in
    let same : get_or c.unit.inside.routines c.routines.place routine ≡ routine =
    ap (λ (rs : List Routine). get_or rs c.routines.place routine) (sym c.as_slice-routines.ensures) ∙ sym c.index-routines-place.is in
    let laid : AreLaidOut (address_of routine) routine.code = rw same at rules.laid_out in
    let some = rw same at rules.some in
    let last = c.index-code-code.result in
    let code_is : c.as_slice-code.result.now ≡ routine.code = c.as_slice-code.ensures ∙ ap (λ (r : Routine). r.code) (sym c.index-routines-place.is) in
    let many = ap (length {A = Stmt}) code_is in
    let low = place_below routine.code laid (length routine.code - 1) last (omega (arith, some)) in
    let read = ap (λ (s : Stmt). s.addr) c.index-code-code.is in
    let at = ap (λ (xs : List Stmt). (get_or xs (length xs - 1) last).addr) code_is in
    let fits = c.index-code-code.element_fits.fits in
    omega (arith, low, read, at, many, fits)

pub routines-preserved : goal.routines-preserved
routines-preserved c =
    let p = c.args.unit.now in
    let routine = c.index-routines-place.result in
    let among : slice_get p.routines c.routines.place ≡ Some routine =
    ap (λ (q : Program). slice_get q.routines c.routines.place) (sym c.unit.view_is)
    ∙ ap (λ rs. slice_get rs c.routines.place) (sym c.as_slice-routines.ensures)
    ∙ slice_get_read c.as_slice-routines.result.now (length c.as_slice-routines.result.now) c.routines.place routine refl c.routines-test.true c.index-routines-place.is in
    let code_is : c.as_slice-code.result.now ≡ routine.code = c.as_slice-code.ensures ∙ ap (λ (r : Routine). r.code) (sym c.index-routines-place.is) in
    let told : TellsDepths (graph_of p c.routines.place) routine.code c.in_ok-levels.levels.reached.items c.in_ok-levels.levels.depths.items =
    rw (c.deref.ensures.value ∙ c.in_ok-graph.ensures.graph, code_is) at c.in_ok-levels.ensures in
    rw c.in_ok-push.ensures.items
    (levels_more p c.routines.place c.routines.all.items c.routines.invariant c.in_ok-levels.levels
    (λ other e. let same : routine ≡ other = cc (among, e) in rw (← same) told))
