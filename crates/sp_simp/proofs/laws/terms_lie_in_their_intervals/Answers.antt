use Rattle.sp_term.specs.Sorts.{Int, Memory}
use Rattle.sp_simp.proofs.IntervalLemmas.{bounds}
use Rattle.sp_simp.proofs.laws.terms_lie_in_their_intervals.Goals as goal

pub returns : goal.returns
returns c = record {
  term = λ stack e t i r h f. let b = bounds stack e r t Int h i f in (b.low, b.high);
  memory = λ stack e t i z r h f. let b = bounds stack e r t Memory h i f z in (b.low, b.high);
}
