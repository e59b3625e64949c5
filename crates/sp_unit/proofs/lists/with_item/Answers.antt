use Rattle.std.proofs.Common.{[], ◌∷◌, ◌++◌, sym, refl, subst}
use Rattle.sp_note.specs.declared.part.Listed.{Listed}
use Rattle.sp_unit.specs.declared.lists.Mentioned.{Mentioned}
use Rattle.sp_unit.specs.code.Building.{IsMentioned}
use Rattle.sp_unit.proofs.ListedLemmas.{with_more_locs}
use Rattle.sp_unit.proofs.lists.with_item.Goals as goal

pub returns-in-Locs : goal.returns-in-Locs
returns-in-Locs c areas items places h =
    let next : Mentioned = record { locs = c.union.result; areas = c.args.m.areas; seen = c.args.m.seen } in
    subst (λ (i : Listed). IsMentioned areas (items ++ i ∷ []) next) (sym c.in-Locs.is) (with_more_locs areas items c.args.m next c.in-Locs.locs h c.union.ensures.value refl refl)
