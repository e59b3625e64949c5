use Rattle.sp_examples.proofs.GateLemmas.{room_law, start_law}
use Rattle.sp_examples.proofs.laws.entries_have_room.Goals as goal

pub returns : goal.returns
returns c = record { room = room_law; start = start_law }
