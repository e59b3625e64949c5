-- The rules that are known not to be broken.
use Rattle.std.specs.Prelude.{◌≡◌, ◌<◌, ◌≤◌, ℕ, ℤ, pos, List, Some, slice_get, slice_index, length}
use Rattle.sp_graph.specs.SoundUnits.{AreDepthsOf}
use Rattle.sp_prog.specs.declared.routine.Routine.{Routine}
use Rattle.sp_prog.specs.Program.{Program}
use Rattle.sp_struct.specs.Refusals.{BreaksRule, rank}
use Rattle.sp_struct.specs.code.Depths.{depth_at}
use Rattle.sp_struct.specs.declared.refusal.StructKind.{StructKind}

-- the first kinds are broken nowhere
pub record AreKept (p : Program) (count : ℕ) : Type 0 where
  pub kept : (k : StructKind) (line : ℕ) → BreaksRule p k line → count ≤ rank k

-- the same depths as numbers
pub record AreNaturals (depths : List ℤ) (count : ℕ) (given : List ℕ) : Type 0 where
  pub size : length given ≡ count
  pub each : (k : ℕ) → k < count → pos (slice_index given k) ≡ depth_at depths k

-- the depths of the first routines
pub record AreSoundFirst (p : Program) (count : ℕ) (depths : List (List ℕ)) : Type 0 where
  pub within : count ≤ length p.routines
  pub size : length depths ≡ count
  pub each :
      (r : ℕ) (routine : Routine) (given : List ℕ) → slice_get p.routines r ≡ Some routine → slice_get depths r ≡ Some given →
      AreDepthsOf p r routine given
