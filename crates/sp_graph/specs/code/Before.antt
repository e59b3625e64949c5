-- How the lists of the instructions before each one grow.
use Rattle.std.specs.Prelude.{◌≡◌, ◌<◌, ℕ, nat_eq, if◌then◌else◌, List, [], ◌∷◌, ◌++◌, Option, None, Some, slice_index_or, slice_set, length}
use Rattle.sp_graph.specs.Successors.{first_before}
use Rattle.sp_prog.specs.declared.routine.Stmt.{Stmt}

-- one place more in the list of an instruction
abbrev pub with_before : List (List ℕ) → ℕ → ℕ → List (List ℕ)
with_before lists to at = slice_set lists to (slice_index_or lists to [] ++ at ∷ [])

-- the same, where there is such an instruction
abbrev pub noted : Option ℕ → ℕ → List (List ℕ) → List (List ℕ)
noted None at lists = lists
noted (Some to) at lists = with_before lists to at

-- the second successor, if it is another one than the first
abbrev pub second_of : Option ℕ → Option ℕ → Option ℕ
second_of next None = None
second_of None (Some target) = Some target
second_of (Some next) (Some target) = if nat_eq next target then None else Some target

-- the lists from the first instructions
pub record AreFirstBefore (code : List Stmt) (count : ℕ) (lists : List (List ℕ)) : Type 0 where
  pub size : length lists ≡ length code
  pub each : (to : ℕ) → to < length code → slice_index_or lists to [] ≡ first_before code count to
