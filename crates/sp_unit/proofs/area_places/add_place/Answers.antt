use Rattle.std.proofs.Common.{Some, sym, ap, ◌∙◌, nat_eq, cond}
use Rattle.std.specs.Cmp.Lexicographic.{pointwise}
use Rattle.std.specs.Map.{lookup}
use Rattle.sp_unit.proofs.ListedLemmas.{places_more}
use Rattle.sp_unit.proofs.area_places.add_place.Goals as goal

pub returns : goal.returns
returns c above len h =
    places_more above c.args.area.now c.args.places.now.entries _ h (λ name.
    c.in_ok-insert.ensures.updates.0 name ∙ ap (λ n. cond (pointwise nat_eq c.args.area.now.name name) (Some n) (lookup (pointwise nat_eq name) c.args.places.now.entries)) (sym len))
