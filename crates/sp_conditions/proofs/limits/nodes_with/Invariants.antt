use Rattle.std.proofs.Common.{◌≡◌, ◌≤◌, ◌+◌, ◌-◌, ◌^◌, drop}
use Rattle.std.specs.Prelude.{min}
use Rattle.sp_term.specs.Conditions.{trees}
use Rattle.sp_conditions.specs.code.Limits.{all_nodes}
use Rattle.sp_conditions.proofs.limits.nodes_with.Given as goal

abbrev pub invariant-formulas : goal.invariant-formulas
invariant-formulas l = record {
  same :
      min (l.total + all_nodes (trees (drop l.t-index l.formulas))) (2 ^ 64 - 1) ≡ min (l.count + all_nodes (trees l.formulas)) (2 ^ 64 - 1);
  within : l.total ≤ 2 ^ 64 - 1;
}
