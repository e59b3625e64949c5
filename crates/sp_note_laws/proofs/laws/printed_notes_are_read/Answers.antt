use Rattle.sp_note_laws.proofs.PrintLemmas.{printed_read}
use Rattle.sp_note_laws.proofs.laws.printed_notes_are_read.Goals as goal

pub returns : goal.returns
returns c = printed_read
