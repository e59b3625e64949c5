-- Start routines whose depth passes the stack region.
use Rattle.std.specs.Prelude.{◌≡◌, ◌+◌, ℕ, Bool, true, ◌&&◌, nat_lt, Some, slice_get}
use Rattle.sp_prog.specs.declared.routine.Routine.{Routine}
use Rattle.sp_prog.specs.Program.{Program}

abbrev pub passes_region : Program → Routine → Bool
passes_region p routine = routine.start && nat_lt (p.last + 1) (p.first + routine.depth)

-- the header of a routine on this line
abbrev pub Header : Program → ℕ → ℕ → ℕ → Type 0
Header p r k line =
    (routine : Routine) × (slice_get p.routines r ≡ Some routine) × (k ≡ 0) × (routine.line.0 ≡ line) × (passes_region p routine ≡ true)
