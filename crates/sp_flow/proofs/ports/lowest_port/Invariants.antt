use Rattle.std.proofs.Common.{◌≡◌, ◌<◌, ◌⊎◌, ℕ, Some}
use Rattle.std.specs.Prelude.{slice_index, Contains}
use Rattle.sp_flow.specs.code.Least.{IsLeast}
use Rattle.sp_flow.proofs.ports.lowest_port.Given as goal

abbrev pub invariant-ports : goal.invariant-ports
invariant-ports l =
    IsLeast (λ n. (l.fn.so_far ≡ Some n) ⊎ (((j : ℕ) × (j < l.at) × (slice_index l.ports j ≡ n)) × (Contains l.own n → ⊥))) l.best
