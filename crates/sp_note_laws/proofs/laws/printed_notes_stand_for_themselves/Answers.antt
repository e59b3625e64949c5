use Rattle.sp_note_laws.proofs.PrintLemmas.{printed_stand}
use Rattle.sp_note_laws.proofs.laws.printed_notes_stand_for_themselves.Goals as goal

pub returns : goal.returns
returns c = printed_stand
