use Rattle.sp_facts.proofs.EntryLemmas.{entries_begin}
use Rattle.sp_facts.proofs.laws.entries_begin.Goals as goal

pub returns : goal.returns
returns c = entries_begin
