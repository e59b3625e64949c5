use Rattle.sp_term.proofs.MemoryLemmas.{closed_formula, end_is_free, bound_value, other_value, every, one}
use Rattle.sp_term.proofs.laws.quantifiers_bind_in_their_formulas.Goals as goal

pub returns : goal.returns
returns c = record { closed = closed_formula; ends = end_is_free; bound = bound_value; other = other_value; all = every; some = one }
