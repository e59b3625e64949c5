use Rattle.std.proofs.Common.{◌≡◌, ◌<◌, ℕ}
use Rattle.std.specs.Prelude.{slice_index}
use Rattle.sp_flow.proofs.ports.has_port.Given as goal

abbrev pub invariant-ports : goal.invariant-ports
invariant-ports l = (j : ℕ) → j < l.at → slice_index l.own j ≡ l.port → ⊥
