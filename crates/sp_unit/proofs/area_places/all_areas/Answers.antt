use Rattle.std.proofs.Common.{◌++◌, sym, ap, ◌∙◌}
use Rattle.std.specs.Prelude.{option_to_list}
use Rattle.sp_note.specs.Parts.{part_of}
use Rattle.sp_note.specs.declared.part.NoteLine.{NoteLine}
use Rattle.sp_unit.specs.Faults.{area_by}
use Rattle.sp_unit.specs.Sources.{value_by}
use Rattle.sp_unit.proofs.SoundLemmas.{areas_more}
use Rattle.sp_unit.proofs.area_places.all_areas.Goals as goal

pub loop-note-preserved : goal.loop-note-preserved
loop-note-preserved c =
    let value = value_by c.args.names.now.entries in
    c.in_ok-areas.ensures
    ∙ ap (λ l. l ++ option_to_list c.area_by.result) c.loop-note.invariant
    ∙ sym (areas_more value c.args.notes.now c.loop-note.note-index c.note-item.result c.area_by.result c.loop-note-test.true
    (c.area_by.ensures ∙ ap (λ (n : NoteLine). area_by value (part_of n.part)) c.note-item.is))
