use Rattle.sp_term.proofs.MemoryLemmas.{there, elsewhere, one_cell}
use Rattle.sp_term.proofs.laws.memories_change_in_one_place.Goals as goal

pub returns : goal.returns
returns c = record { there = there; others = elsewhere; cell = one_cell }
