use Rattle.std.proofs.Common.{ℕ, ◌≡◌, ◌≤◌, ◌<◌, ◌-◌, ◌^◌, true}
use Rattle.std.specs.FinSet as set
use Rattle.sp_rules.proofs.fresh.Used.first_absent.Given as goal

abbrev pub invariant-loop-j : goal.invariant-loop-j
invariant-loop-j l = record {
  positive : 1 ≤ l.j;
  there : (i : ℕ) → 1 ≤ i → i < l.j → set.contains l.self i ≡ true;
}

abbrev pub decreases-loop-j : goal.decreases-loop-j
decreases-loop-j l = 2 ^ 32 - l.j
