use Rattle.sp_facts.proofs.AssertionLemmas.{assertions_begin}
use Rattle.sp_facts.proofs.laws.assertions_begin.Goals as goal

pub returns : goal.returns
returns c = assertions_begin
