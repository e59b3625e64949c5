use Rattle.std.proofs.Common.{◌≡◌, ◌∙◌, sym, None, Some, slice_get}
use Rattle.sp_flow.proofs.ListedLemmas.{area_none, area_some, no_area}
use Rattle.sp_flow.proofs.listed.with_area.Goals as goal

pub returns-in-Some-lowest_of_area : goal.returns-in-Some-lowest_of_area
returns-in-Some-lowest_of_area c =
    let there : slice_get c.args.areas.now c.args.place ≡ Some c.in-Some.area = sym c.area_at.ensures ∙ c.in-Some.is in
    rw there (area_some c.args.areas.now c.args.one.now c.args.other.now c.args.best c.in-Some.area c.in-Some-lowest_of_area.cell c.lower.result
    c.in-Some-lowest_of_area.ensures c.lower.ensures)

pub returns-in-None-lowest_of_area : goal.returns-in-None-lowest_of_area
returns-in-None-lowest_of_area c =
    let there : slice_get c.args.areas.now c.args.place ≡ Some c.in-Some.area = sym c.area_at.ensures ∙ c.in-Some.is in
    rw there (area_none c.args.areas.now c.args.one.now c.args.other.now c.args.best c.in-Some.area c.in-None-lowest_of_area.ensures)

pub returns-in-None : goal.returns-in-None
returns-in-None c =
    let there : slice_get c.args.areas.now c.args.place ≡ None = sym c.area_at.ensures ∙ c.in-None.is in
    rw there (no_area c.args.areas.now c.args.one.now c.args.other.now c.args.best)
