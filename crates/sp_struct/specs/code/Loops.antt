-- Instructions that are the highest of a cycle without assertions.
use Rattle.std.specs.Prelude.{◌≡◌, ◌⊎◌, ◌≤◌, ℕ, Option, Some, List}
use Rattle.sp_base.specs.declared.line.Line.{Line}
use Rattle.sp_graph.specs.Cycles.{IsHighestOfCycle}
use Rattle.sp_graph.specs.Routines.{graph_of}
use Rattle.sp_graph.specs.Structure.{IsAt}
use Rattle.sp_graph.specs.declared.graph.Node.{Node}
use Rattle.sp_prog.specs.declared.routine.Routine.{Routine}
use Rattle.sp_prog.specs.declared.routine.Stmt.{Stmt}
use Rattle.sp_prog.specs.Program.{Program}
use Rattle.sp_struct.specs.code.Lowest.{lower}

-- such an instruction is on this line
abbrev pub UncutHere : Program → ℕ → ℕ → ℕ → Type 0
UncutHere p r k line = (routine : Routine) × (s : Stmt) × IsAt p r k routine s × (s.line.0 ≡ line) × IsHighestOfCycle (graph_of p r) k

-- the line is taken where the instruction is such and none on a lower line is known
abbrev pub Took : List Node → ℕ → Line → Option Line → Option Line → Type 0
Took graph at line best next =
    ((next ≡ best) × (IsHighestOfCycle graph at → (b : Line) × (best ≡ Some b) × (b.0 ≤ line.0)))
    ⊎ ((next ≡ lower best line) × IsHighestOfCycle graph at)
