use Rattle.std.proofs.Common.{List, ◌++◌, take}
use Rattle.sp_note.specs.declared.part.Listed.{Listed}
use Rattle.sp_prog.specs.declared.area.Area.{Area}
use Rattle.sp_unit.specs.code.Building.{ArePlaces, IsMentioned}
use Rattle.sp_unit.proofs.lists.with_items.Given as goal

abbrev pub invariant-loop-item : goal.invariant-loop-item
invariant-loop-item l =
    (areas : List Area) (above : List Listed) → ArePlaces areas l.places.entries → IsMentioned areas above l.initial.all → IsMentioned areas (above ++ take l.item-index l.items) l.all
