-- The depths of the instructions of all routines.
use Rattle.std.specs.Prelude.{◌≡◌, ℕ, List, Some, slice_get, length}
use Rattle.sp_graph.specs.Routines.{graph_of}
use Rattle.sp_prog.specs.declared.routine.Routine.{Routine}
use Rattle.sp_prog.specs.Program.{Program}
use Rattle.sp_struct.specs.declared.stack.Levels.{Levels}
use Rattle.sp_struct.specs.code.Depths.{TellsDepths}

-- the depths of the first routines
pub record AreFirstLevels (p : Program) (count : ℕ) (all : List Levels) : Type 0 where
  pub size : length all ≡ count
  pub each :
      (r : ℕ) (routine : Routine) (levels : Levels) → slice_get p.routines r ≡ Some routine → slice_get all r ≡ Some levels →
      TellsDepths (graph_of p r) routine.code levels.reached.items levels.depths.items

-- those of all routines
abbrev pub AreLevels : Program → List Levels → Type 0
AreLevels p all = AreFirstLevels p (length p.routines) all
