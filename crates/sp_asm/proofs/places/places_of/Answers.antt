use Rattle.std.proofs.Common.{◌+◌, ◌≤◌, List, ◌∷◌, ◌++◌, [], drop, refl, sym, ap, subst, ◌∙◌, arith}
use Rattle.std.proofs.lemmas.List.{take_all}
use Rattle.std.proofs.lemmas.Result.{err_from_is_err_and}
use Rattle.sp_stmt.specs.declared.statement.Statement.{Statement}
use Rattle.sp_asm.proofs.ElementLaws.{cut_at}
use Rattle.sp_asm.proofs.PlaceLaws.{statements_more, refuses_first}
use Rattle.sp_asm.proofs.places.places_of.Goals as goal

pub loop-s-init : goal.loop-s-init
loop-s-init c = record { placed = ([], refl, c.new-places.ensures); within = subst (λ a. a ≤ 65536) (sym c.new-places.ensures.address) (omega arith) }

pub returns-in_err-add_place : goal.returns-in_err-add_place
returns-in_err-add_place c =
    let so_far = c.loop-s.invariant.placed in
    let ss = c.args.statements.now in
    let s = c.s-item.result in
    let below : List Statement = drop (c.loop-s.s-index + 1) ss in
    let p = err_from_is_err_and c.from_residual.result c.from_residual.ensures.1 in
    rw (p.1, p.2) (refuses_first ss below so_far.0 s c.in_err-add_place.field-0.0
    (cut_at ss c.loop-s.s-index s c.loop-s-test.true c.s-item.is ∙ ap (λ (l : List Statement). l ++ s ∷ below) (sym so_far.1))
    so_far.2.placed (c.in_err-add_place.ensures.err so_far.0 so_far.2))

pub loop-s-preserved : goal.loop-s-preserved
loop-s-preserved c =
    let so_far = c.loop-s.invariant.placed in
    let more = c.in_ok-add_place.ensures.ok so_far.0 so_far.2 in
    record {
      placed = (so_far.0 ++ more.0 ∷ [], statements_more c.args.statements.now c.loop-s.s-index c.s-item.result so_far.0 more.0 c.loop-s-test.true c.s-item.is so_far.1 more.1, more.2);
      within = c.in_ok-add_place.ensures.still_within;
    }

pub returns : goal.returns
returns c =
    let so_far = c.loop-s.invariant.placed in
    (so_far.0, so_far.1 ∙ take_all c.loop-s.s-index c.args.statements.now (omega arith), so_far.2)
