use Rattle.sp_examples.proofs.FlowLemmas.{on_good, off_bad, hop_law}
use Rattle.sp_examples.proofs.laws.runs_stay_in_code.Goals as goal

pub returns : goal.returns
returns c = record { ended = on_good; unended = off_bad; jump = hop_law }
