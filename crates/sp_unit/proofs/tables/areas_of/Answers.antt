use Rattle.std.proofs.Common.{ap, sym, ◌∙◌, find, bytes_eq, []}
use Rattle.std.specs.List.{cons_option}
use Rattle.sp_note.specs.Parts.{lines_of, part_of}
use Rattle.sp_note.specs.declared.part.NoteLine.{NoteLine}
use Rattle.sp_prog.specs.declared.area.Area.{Area}
use Rattle.sp_unit.specs.Faults.{or_else, area_by, areas_by}
use Rattle.sp_unit.specs.Sources.{value_by}
use Rattle.sp_unit.proofs.ScopeLemmas.{one_line_more, take_whole}
use Rattle.sp_unit.proofs.tables.areas_of.Goals as goal

pub loop-note-preserved : goal.loop-note-preserved
loop-note-preserved c name =
    let test = λ (a : Area). bytes_eq a.name name in
    let value = value_by c.args.names.now.entries in
    c.in_ok-declare.ensures name
    ∙ ap (λ o. or_else o (find test (cons_option c.area_by.result []))) (c.loop-note.invariant name)
    ∙ sym (one_line_more value name c.args.notes.now c.loop-note.note-index c.note-item.result c.area_by.result c.loop-note-test.true
    (c.area_by.ensures ∙ ap (λ (n : NoteLine). area_by value (part_of n.part)) c.note-item.is))

pub returns : goal.returns
returns c name =
    c.loop-note.invariant name
    ∙ ap (λ l. find (λ (a : Area). bytes_eq a.name name) (areas_by (value_by c.args.names.now.entries) (lines_of l))) (take_whole c.args.notes.now c.loop-note.note-index c.loop-note-test.false)
