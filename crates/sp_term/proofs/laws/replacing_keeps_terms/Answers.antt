use Rattle.sp_term.proofs.SortLemmas.{replaced_sort, free_kept}
use Rattle.sp_term.proofs.laws.replacing_keeps_terms.Goals as goal

pub returns : goal.returns
returns c = record { sort = λ t by v s. replaced_sort t v by s; free = λ t by v w. free_kept t by v w }
