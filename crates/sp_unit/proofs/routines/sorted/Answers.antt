use Rattle.std.proofs.Common.{rules}
use Rattle.std.proofs.lemmas.List.Sorted.{IsNonDecreasingBy-from_sort_by_key}
use Rattle.sp_prog.specs.Rules.{address_of}
use Rattle.sp_unit.proofs.RisingLemmas.{rising_by}
use Rattle.sp_unit.proofs.routines.sorted.Goals as goal

pub returns-clause-rising : goal.returns-clause-rising
returns-clause-rising c =
    rising_by address_of c.args.found.items c.sort_by_key.new.self.items c.requires c.sort_by_key.ensures.permutation
    (IsNonDecreasingBy-from_sort_by_key address_of _ c.in_ok-sort_by_key.ensures.sorted (λ a r q k. search rules))
