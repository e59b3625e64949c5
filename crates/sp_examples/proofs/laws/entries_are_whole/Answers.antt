use Rattle.sp_examples.proofs.GateLemmas.{unloaded, elsewhere, halted_no, no_state}
use Rattle.sp_examples.proofs.laws.entries_are_whole.Goals as goal

pub returns : goal.returns
returns c = record { loaded = unloaded; address = elsewhere; running = halted_no; state = no_state }
