use Rattle.std.proofs.Common.{◌≡◌, ◌+◌, ◌-◌, ◌∙◌, add-one, arith, ap, drop, replicate, subst}
use Rattle.std.specs.Prelude.{slice_index}
use Rattle.std.proofs.lemmas.List.{get_or-replicate}
use Rattle.sp_trial.specs.code.Tables.{IsTable}
use Rattle.sp_trial.proofs.TableLemmas.{empty_table, one_more_place}
use Rattle.sp_trial.proofs.table.table_of.Goals as goal

pub loop-place-init : goal.loop-place-init
loop-place-init c =
    let table = c.in_ok-table.table.items in
    let zeros : table ≡ replicate 65536 0 = c.in_ok-table.ensures.items_if_clones_equal (λ y e. e) in (
      omega arith,
      empty_table c.args.code.now table (omega (arith, c.in_ok-table.ensures.len)) (λ a low. ap (λ xs. slice_index xs a) zeros ∙ get_or-replicate 65536 a 0 0 low),
    )

pub loop-place-preserved : goal.loop-place-preserved
loop-place-preserved c =
    let place = c.loop-place.place in
    let some = c.loop-place-test.true in
    let most = c.loop-place.invariant.0 in
    let next : place ≡ (place - 1) + 1 = omega (arith, some) in (
      omega (arith, most),
      one_more_place c.args.code.now place (place - 1) c.loop-place.table.items c.index-code-last.result (next ∙ add-one (place - 1)) (omega (arith, some, most)) c.index-code-last.is (omega arith)
          c.loop-place.invariant.1,
    )

pub returns : goal.returns
returns c =
    let none : c.loop-place.place ≡ 0 = omega arith in
    subst (λ k. IsTable c.args.code.now (drop k c.args.code.now) c.loop-place.table.items) none c.loop-place.invariant.1
