use Rattle.sp_struct.proofs.StructuredLemmas.{loops_cut}
use Rattle.sp_struct.proofs.laws.loops_are_cut.Goals as goal

pub returns : goal.returns
returns c = record { cut = loops_cut }
