use Rattle.sp_term.proofs.SortLemmas.{one_sort}
use Rattle.sp_term.proofs.laws.a_term_has_one_sort.Goals as goal

pub returns : goal.returns
returns c = one_sort
