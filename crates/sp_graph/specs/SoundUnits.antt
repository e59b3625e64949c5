-- What is given of a unit that breaks no rule on structure.
use Rattle.std.specs.Prelude.{◌≡◌, ◌<◌, ℕ, pos, List, Some, slice_get, slice_index, length}
use Rattle.sp_graph.specs.Depths.{HasDepth}
use Rattle.sp_graph.specs.Routines.{graph_of}
use Rattle.sp_graph.specs.Structure.{IsStructured}
use Rattle.sp_graph.specs.declared.sound.Sound.{Sound}
use Rattle.sp_prog.specs.declared.routine.Routine.{Routine}
use Rattle.sp_prog.specs.Program.{Program}

-- the depths of the instructions of one routine
pub record AreDepthsOf (p : Program) (r : ℕ) (routine : Routine) (depths : List ℕ) : Type 0 where
  pub size : length depths ≡ length routine.code
  pub each : (k : ℕ) → k < length routine.code → HasDepth (graph_of p r) routine.code k (pos (slice_index depths k))

-- no rule is broken, and these are the depths
pub record IsSoundOf (p : Program) (sound : Sound) : Type 0 where
  pub structured : IsStructured p
  pub size : length sound.depths ≡ length p.routines
  pub each :
      (r : ℕ) (routine : Routine) (depths : List ℕ) → slice_get p.routines r ≡ Some routine → slice_get sound.depths r ≡ Some depths →
      AreDepthsOf p r routine depths
