-- Where the depth that an instruction leaves isn't that of what comes next, as the levels tell it.
use Rattle.std.specs.Prelude.{◌≡◌, ◌≢◌, ◌⊎◌, ◌≤◌, ℕ, ℤ, pos, ◌+ℤ◌, true, Bool, List, Option, None, Some}
use Rattle.sp_base.specs.declared.line.Line.{Line}
use Rattle.sp_graph.specs.Control.{control_of}
use Rattle.sp_graph.specs.Depths.{effect}
use Rattle.sp_graph.specs.Least.{Successor}
use Rattle.sp_graph.specs.Structure.{IsAt, ReturnsDeep, DiffersAt, DiffersInDepth, returns}
use Rattle.sp_graph.specs.declared.graph.Node.{Node}
use Rattle.sp_prog.specs.declared.routine.Routine.{Routine}
use Rattle.sp_prog.specs.declared.routine.Stmt.{Stmt}
use Rattle.sp_prog.specs.Program.{Program}
use Rattle.sp_struct.specs.code.Depths.{depth_at, is_seen}
use Rattle.sp_struct.specs.code.Lowest.{LowestSoFar}
use Rattle.sp_struct.specs.declared.differences.Difference.{Difference}

-- the lowest successor whose depth isn't this one has that one
abbrev pub NextGap : List Node → List ℤ → ℕ → ℤ → ℤ → Type 0
NextGap graph depths at after other =
    (to : ℕ) × Successor graph at to × (depth_at depths to ≡ other) × (other ≢ after)
    × ((lower : ℕ) → Successor graph at lower → depth_at depths lower ≢ after → to ≤ lower)

-- all successors have this depth
abbrev pub NoNextGap : List Node → List ℤ → ℕ → ℤ → Type 0
NoNextGap graph depths at after = (to : ℕ) → Successor graph at to → depth_at depths to ≡ after

-- an instruction that is reached has such a depth
abbrev pub HasGap : List Node → List Bool → List ℤ → ℕ → Stmt → ℤ → ℤ → Type 0
HasGap graph seen depths at s a b =
    (is_seen seen at ≡ true)
    × (((returns (control_of s.instr) ≡ true) × (depth_at depths at ≡ a) × (a ≢ pos 0) × (b ≡ pos 0))
    ⊎ ((returns (control_of s.instr) ≡ true → depth_at depths at ≡ pos 0)
    × (a ≡ depth_at depths at +ℤ effect s.instr) × NextGap graph depths at a b))

abbrev pub HasNoGap : List Node → List Bool → List ℤ → ℕ → Stmt → Type 0
HasNoGap graph seen depths at s =
    is_seen seen at ≡ true →
    (returns (control_of s.instr) ≡ true → depth_at depths at ≡ pos 0) × NoNextGap graph depths at (depth_at depths at +ℤ effect s.instr)

-- an instruction on this line leaves one depth where another is right
abbrev pub Differs : Program → ℕ → Routine → ℕ → Stmt → ℤ → ℤ → Type 0
Differs p r routine k s a b =
    (ReturnsDeep p r routine k s a × (b ≡ pos 0))
    ⊎ (((d : ℤ) → ReturnsDeep p r routine k s d → ⊥) × DiffersAt p r routine k s a b)

abbrev pub DiffersHere : Program → ℕ → ℕ → ℕ → Type 0
DiffersHere p r k line =
    (routine : Routine) × (s : Stmt) × IsAt p r k routine s × (s.line.0 ≡ line) × ((a b : ℤ) × Differs p r routine k s a b)

abbrev pub line_of : Option Difference → Option Line
line_of None = None
line_of (Some d) = Some d.line

-- the lowest line of the instructions before this one where depths differ, with two that do
pub record LowestGap (p : Program) (r k : ℕ) (best : Option Difference) : Type 0 where
  pub lowest : LowestSoFar (DiffersHere p) r k (line_of best)
  pub differs : (d : Difference) → best ≡ Some d → DiffersInDepth p d.line.0 d.after d.other
