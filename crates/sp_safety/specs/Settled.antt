-- Units that keep all rules and whose conditions are true (this project's own).
use Rattle.std.specs.Prelude.{ℕ, Contains}
use Rattle.sp_cond.specs.WalkConditions.{condition}
use Rattle.sp_flow.specs.Flow.{IsFlowing}
use Rattle.sp_graph.specs.Routines.{graph_of}
use Rattle.sp_graph.specs.SoundUnits.{IsSoundOf}
use Rattle.sp_graph.specs.Walks.{walks}
use Rattle.sp_graph.specs.declared.sound.Sound.{Sound}
use Rattle.sp_graph.specs.declared.walk.Walk.{Walk}
use Rattle.sp_prog.specs.Program.{Program}
use Rattle.sp_prog.specs.Rules.{IsUnit}
use Rattle.sp_term.specs.Admissible.{Region, IsValid}

-- the stack region of a unit
abbrev pub region_of : Program → Region
region_of p = record { first = p.first; last = p.last }

-- The rules on units, structure and flow are kept, and the condition of each walk of each routine is true in all admissible
-- environments.
pub record IsSettled (p : Program) (sound : Sound) : Type 0 where
  pub unit : IsUnit p
  pub structure : IsSoundOf p sound
  pub flow : IsFlowing p
  pub conditions : (r : ℕ) (w : Walk) → Contains (walks (graph_of p r)) w → IsValid p.image (region_of p) (condition p sound r w)
