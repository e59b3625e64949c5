use Rattle.std.proofs.Common.{◌≡◌, ◌++◌, drop, map}
use Rattle.sp_base.specs.Locs.{has}
use Rattle.sp_term.specs.Conditions.{trees}
use Rattle.sp_term.specs.Tree.{Variable}
use Rattle.sp_cond.specs.Start.{start_var}
use Rattle.sp_conditions.proofs.states.start_terms.Given as goal

abbrev pub invariant-locations : goal.invariant-locations
invariant-locations l =
    trees l.terms.items ++ map (λ x. Variable (start_var (has x l.fresh) x)) (drop l.x-index l.xs)
    ≡ map (λ x. Variable (start_var (has x l.fresh) x)) l.xs
