-- The lowest line on which an instruction breaks a rule.
use Rattle.std.specs.Prelude.{◌≡◌, ◌<◌, ◌≤◌, ◌⊎◌, ℕ, true, Option, None, Some, nat_lt, if◌then◌else◌, List, slice_get}
use Rattle.sp_base.specs.declared.line.Line.{Line}
use Rattle.sp_graph.specs.Structure.{IsAt}
use Rattle.sp_prog.specs.declared.routine.Routine.{Routine}
use Rattle.sp_prog.specs.declared.routine.Stmt.{Stmt}
use Rattle.sp_prog.specs.Program.{Program}
use Rattle.sp_struct.specs.declared.rules.Rule.{Rule}
use Rattle.sp_struct.specs.declared.stack.Levels.{Levels}
use Rattle.sp_struct.specs.code.Rules.{breaks}

-- the lower one of the lines
abbrev pub lower : Option Line → Line → Option Line
lower None line = Some line
lower (Some best) line = if nat_lt line.0 best.0 then Some line else Some best

-- an instruction on this line breaks a rule
abbrev pub Breaks : Program → List Levels → Rule → ℕ → ℕ → ℕ → Type 0
Breaks p all rule r k line =
    (routine : Routine) × (s : Stmt) × (l : Levels) × IsAt p r k routine s × (slice_get all r ≡ Some l) × (s.line.0 ≡ line)
    × (breaks rule p l.reached.items l.depths.items routine k s ≡ true)

-- an instruction comes before another
abbrev pub ComesBefore : ℕ → ℕ → ℕ → ℕ → Type 0
ComesBefore i j r k = (i < r) ⊎ ((i ≡ r) × (j < k))

-- the lowest line on which one of the instructions before this one is so
pub record LowestSoFar (P : ℕ → ℕ → ℕ → Type 0) (r k : ℕ) (best : Option Line) : Type 0 where
  pub found : (line : Line) → best ≡ Some line → (i : ℕ) × (j : ℕ) × P i j line.0
  pub least : (i j line : ℕ) → P i j line → ComesBefore i j r k → (b : Line) × (best ≡ Some b) × (b.0 ≤ line)

-- the lowest line on which some instruction is so
pub record IsLowest (P : ℕ → ℕ → ℕ → Type 0) (best : Option Line) : Type 0 where
  pub found : (line : Line) → best ≡ Some line → (i : ℕ) × (j : ℕ) × P i j line.0
  pub least : (i j line : ℕ) → P i j line → (b : Line) × (best ≡ Some b) × (b.0 ≤ line)
