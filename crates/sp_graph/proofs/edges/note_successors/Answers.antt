use Rattle.std.proofs.Common.{◌≡◌, refl, Some, sym, ap, ◌∙◌, length, map, slice_get}
use Rattle.std.proofs.lemmas.Option.{slice_get_read}
use Rattle.sp_prog.specs.declared.routine.Stmt.{Stmt}
use Rattle.sp_graph.specs.Control.{control_of}
use Rattle.sp_graph.specs.Successors.{next_by, target_by}
use Rattle.sp_graph.proofs.BeforeLemmas.{noted_both}
use Rattle.sp_graph.proofs.edges.note_successors.Goals as goal

pub returns : goal.returns
returns c =
    let s = c.index-code-at.result in
    let here : slice_get c.args.code.now c.args.at ≡ Some s =
    slice_get_read c.args.code.now (length c.args.code.now) c.args.at s refl c.requires.at c.index-code-at.is in
    let control : c.control_of-control.result ≡ control_of s.instr = c.control_of-control.ensures ∙ ap (λ (x : Stmt). control_of x.instr) (sym c.index-code-at.is) in
    let next = c.next_by-next.ensures ∙ ap (λ k. next_by c.args.code.now c.args.at k) control in
    let target = c.target_by-target.ensures ∙ ap (λ k. target_by c.args.code.now k) control in
    rw (c.in_ok-note-2.ensures, c.in_ok-note.ensures, c.second_of.ensures)
    (noted_both c.args.code.now c.args.at s here (map (λ list. list.items) c.args.lists.now.items) c.requires.first
    c.next_by-next.result c.target_by-target.result next target)
