use Rattle.sp_lex.proofs.ItemLemmas.{items_are, one_items}
use Rattle.sp_lex.proofs.laws.commas_divide_items.Goals as goal

pub returns-clause-items : goal.returns-clause-items
returns-clause-items c = items_are

pub returns-clause-one : goal.returns-clause-one
returns-clause-one c = one_items
