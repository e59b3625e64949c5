use Rattle.std.proofs.Common.{refl}
use Rattle.sp_term.proofs.CountLemmas.{parts_counted}
use Rattle.sp_term.proofs.laws.parts_are_counted_by_nodes.Goals as goal

pub returns : goal.returns
returns c = record { count = parts_counted; sum = λ k n v. refl }
