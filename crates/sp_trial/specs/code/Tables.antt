-- The table from an address to the instruction there.
use Rattle.std.specs.Prelude.{◌≡◌, ℕ, zero, suc, ◌<◌, List, [], length, slice_get, slice_index, Option, Some, None}
use Rattle.sp_prog.specs.declared.routine.Noted.{Noted}
use Rattle.sp_prog.specs.declared.routine.Stmt.{Stmt}
use Rattle.sp_trial.specs.Setup.{asserted_at}

-- what is asserted at a place, if there is an instruction
abbrev pub asserts_of : Option Stmt → List Noted
asserts_of (Some stmt) = stmt.asserts
asserts_of None = []

-- what is asserted at the place before this one, nothing for 0
abbrev pub asserts_before : List Stmt → ℕ → List Noted
asserts_before code zero = []
asserts_before code (suc place) = asserts_of (slice_get code place)

-- the table has, for each address, the place after that of the instruction there, or 0
pub record IsTable (code rest : List Stmt) (table : List ℕ) : Type 0 where
  pub size : length table ≡ 65536
  pub right : (a : ℕ) → a < 65536 → asserts_before code (slice_index table a) ≡ asserted_at rest a
