-- Environments in which each variable is in its range (this project's own).
use Rattle.std.specs.Prelude.{◌≡◌, ℕ, Some}
use Rattle.sp_term.specs.declared.var.Var.{Var}
use Rattle.sp_term.specs.Sorts.{Memory, sort_of}
use Rattle.sp_term.specs.Value.{Env}
use Rattle.sp_term.specs.Admissible.{Region, IsMemory, IsUpTo, greatest}

-- every variable is in its range, and every memory variable is a memory with 0 in the stack region
pub record IsInRanges (stack : Region) (e : Env) : Type 0 where
  pub range : (v : Var) (n : ℕ) → greatest v ≡ Some n → IsUpTo n (e.int v)
  pub memory : (v : Var) → sort_of v ≡ Memory → IsMemory stack (e.map v)
