use Rattle.std.proofs.Common.{◌≡◌, ◌≤◌, ◌-◌, ◌^◌, drop}
use Rattle.std.specs.Prelude.{min}
use Rattle.sp_term.specs.Conditions.{trees}
use Rattle.sp_conditions.proofs.LimitLemmas.{deepest_from}
use Rattle.sp_conditions.proofs.limits.depth_with.Given as goal

abbrev pub invariant-formulas : goal.invariant-formulas
invariant-formulas l = record {
  same :
      min (deepest_from l.deepest (trees (drop l.t-index l.formulas))) (2 ^ 32 - 1) ≡ min (deepest_from l.most (trees l.formulas)) (2 ^ 32 - 1);
  within : l.deepest ≤ 2 ^ 32 - 1;
}
