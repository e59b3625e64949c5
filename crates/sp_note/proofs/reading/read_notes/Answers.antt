use Rattle.sp_note.proofs.SourceLemmas.{right_by, answered_by}
use Rattle.sp_note.proofs.reading.read_notes.Goals as goal

pub returns : goal.returns
returns c = record {
  right = right_by c.args.source.now c.args.lines.now c.all_notes.result c.all_notes.ensures;
  complete = answered_by c.args.source.now c.args.lines.now c.all_notes.result c.all_notes.ensures;
}
