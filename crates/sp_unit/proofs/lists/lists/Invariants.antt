use Rattle.std.proofs.Common.{List, take}
use Rattle.sp_prog.specs.declared.area.Area.{Area}
use Rattle.sp_unit.specs.SourceUnits.{named_in}
use Rattle.sp_unit.specs.code.Building.{ArePlaces, IsMentioned}
use Rattle.sp_unit.specs.code.Entries.{entries_of}
use Rattle.sp_unit.specs.code.Sounds.{listed_by}
use Rattle.sp_unit.proofs.lists.lists.Given as goal

abbrev pub invariant-loop-e : goal.invariant-loop-e
invariant-loop-e l =
    (areas : List Area) → ArePlaces areas l.places.entries → IsMentioned areas (named_in (listed_by l.access) (entries_of (take l.e-index l.lines))) l.all
