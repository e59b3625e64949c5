use Rattle.std.proofs.Common.{◌≡◌, ◌++◌, drop, map}
use Rattle.std.specs.Prelude.{not}
use Rattle.std.specs.List.{filter}
use Rattle.sp_base.specs.Locs.{has}
use Rattle.sp_term.specs.Conditions.{trees}
use Rattle.sp_trans.specs.View.{symbolic_of}
use Rattle.sp_cond.specs.Conclusions.{unchanged}
use Rattle.sp_conditions.proofs.conclusions.add_unchanged.Given as goal

abbrev pub invariant-locations : goal.invariant-locations
invariant-locations l =
    trees l.out.items ++ map (unchanged (symbolic_of l.g)) (filter (λ x. not (has x l.r.changes.locs)) (drop l.x-index l.xs))
    ≡ trees l.initial.out.items ++ map (unchanged (symbolic_of l.g)) (filter (λ x. not (has x l.r.changes.locs)) l.xs)
