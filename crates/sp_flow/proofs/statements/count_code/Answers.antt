use Rattle.std.proofs.Common.{◌≡◌, Some, length, refl, slice_get}
use Rattle.std.proofs.lemmas.Option.{slice_get_read}
use Rattle.sp_flow.specs.code.Counts.{own_lists}
use Rattle.sp_flow.proofs.StatementLemmas.{none_yet, statement_more, statements_all}
use Rattle.sp_flow.proofs.statements.count_code.Goals as goal

pub places-init : goal.places-init
places-init c =
    let o = c.args.own.now in
    none_yet c.args.areas.now c.args.routines.now (own_lists o.locs o.reads.now o.changes.now o.ins.now o.outs.now) c.args.code.now c.args.sets.now
    (λ f. c.args.so_far ≡ Some f) 0 c.args.so_far refl (λ f e. e) (λ f e. e)

pub places-preserved : goal.places-preserved
places-preserved c =
    let o = c.args.own.now in
    let s = c.index-code-at.result in
    let get : slice_get c.args.code.now c.places.at ≡ Some s =
    slice_get_read c.args.code.now (length c.args.code.now) c.places.at s refl c.places-test.true c.index-code-at.is in
    statement_more c.args.areas.now c.args.routines.now (own_lists o.locs o.reads.now o.changes.now o.ins.now o.outs.now) c.args.code.now c.args.sets.now
    (λ f. c.args.so_far ≡ Some f) c.places.at c.places.best s c.unset_at-unset.result c.count_stmt-best.result get c.unset_at-unset.ensures
    c.places.invariant c.count_stmt-best.ensures

pub returns : goal.returns
returns c =
    let o = c.args.own.now in
    statements_all c.args.areas.now c.args.routines.now (own_lists o.locs o.reads.now o.changes.now o.ins.now o.outs.now) c.args.code.now c.args.sets.now
    (λ f. c.args.so_far ≡ Some f) c.places.at c.places.best c.places-test.false c.places.invariant
