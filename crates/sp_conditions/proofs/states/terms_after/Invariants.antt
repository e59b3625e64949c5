use Rattle.std.proofs.Common.{◌≡◌, ◌++◌, drop, map}
use Rattle.sp_term.specs.Conditions.{trees}
use Rattle.sp_trans.specs.Symbolic.{term_at}
use Rattle.sp_trans.specs.View.{symbolic_of}
use Rattle.sp_cond.specs.Calls.{after_at}
use Rattle.sp_conditions.proofs.states.terms_after.Given as goal

abbrev pub invariant-locations : goal.invariant-locations
invariant-locations l =
    trees l.terms.items ++ map (λ x. after_at l.changes l.j x (term_at x (symbolic_of l.g))) (drop l.x-index l.xs)
    ≡ map (λ x. after_at l.changes l.j x (term_at x (symbolic_of l.g))) l.xs
