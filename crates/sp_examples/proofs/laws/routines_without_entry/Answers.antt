use Rattle.sp_examples.proofs.GateLemmas.{never_met, never_room, never_law}
use Rattle.sp_examples.proofs.laws.routines_without_entry.Goals as goal

pub returns : goal.returns
returns c = record { pre = never_met; room = never_room; good = never_law }
