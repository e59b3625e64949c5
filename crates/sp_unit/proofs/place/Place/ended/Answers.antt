use Rattle.std.proofs.Common.{[], refl, ◌∙◌}
use Rattle.sp_unit.specs.code.Entries.{entry_of}
use Rattle.sp_unit.proofs.PlaceLemmas.{start_ends}
use Rattle.sp_unit.proofs.place.Place.ended.Goals as goal

pub returns : goal.returns
returns c all below ends h =
    c.after.ensures all [] (record { is_start = h.is_start ∙ start_ends all below (entry_of c.args.e.now) ends; entered = refl; asserts = refl })
