use Rattle.std.proofs.Common.{◌≡◌, ◌<◌, ℕ, Some}
use Rattle.std.specs.Prelude.{slice_get, slice_index}
use Rattle.sp_prog.specs.declared.area.Area.{Area}
use Rattle.sp_prog.specs.Rules.{IsInArea}
use Rattle.sp_flow.proofs.cells.covered_until.Given as goal

abbrev pub invariant-places : goal.invariant-places
invariant-places l = (j : ℕ) (area : Area) → j < l.at → slice_get l.areas (slice_index l.places j) ≡ Some area → IsInArea area l.cell → ⊥
