-- Where an instruction goes on in its routine (this project's own).
use Rattle.std.specs.Prelude.{ℕ, ◌≡◌, ◌<◌, ◌+◌, Bool, nat_eq, nat_lt, List, [], ◌∷◌, ◌++◌, Option, None, Some, slice_get, slice_index_or, length, if◌then◌else◌}
use Rattle.std.specs.List.{filter, list_any, position, range_with_len}
use Rattle.sp_graph.specs.Control.{control_of}
use Rattle.sp_graph.specs.declared.control.Control.{Control}
use Rattle.sp_graph.specs.declared.control.Control.TheVariants.{Jump, JumpIf, Return, Halt}
use Rattle.sp_prog.specs.declared.routine.Routine.{Routine}
use Rattle.sp_prog.specs.declared.routine.Stmt.{Stmt}
use Rattle.sp_prog.specs.Rules.{address_of}

-- the place of the instruction at an address
abbrev pub place_of : List Stmt → ℕ → Option ℕ
place_of code address = position (λ (s : Stmt). nat_eq s.addr address) code

-- the place of the routine that begins at an address
abbrev pub routine_at : List Routine → ℕ → Option ℕ
routine_at routines address = position (λ r. nat_eq (address_of r) address) routines

-- the place after this one, where the routine has an instruction there
abbrev pub next_of : List Stmt → ℕ → Option ℕ
next_of code at = if nat_lt (at + 1) (length code) then Some (at + 1) else None

-- the next instruction, unless this one is JMP, RET or HLT
abbrev pub next_by : List Stmt → ℕ → Control → Option ℕ
next_by code at (Jump address) = None
next_by code at Return = None
next_by code at Halt = None
next_by code at _ = next_of code at

-- the target of a jump
abbrev pub target_by : List Stmt → Control → Option ℕ
target_by code (Jump address) = place_of code address
target_by code (JumpIf address) = place_of code address
target_by code _ = None

abbrev pub listed : Option ℕ → List ℕ
listed None = []
listed (Some place) = place ∷ []

-- The places at which an instruction goes on: the next one, then the target; the same place twice where both are one.
-- What is no instruction of the routine isn't listed.
abbrev pub successors_of : List Stmt → ℕ → Option Stmt → List ℕ
successors_of code at None = []
successors_of code at (Some s) = listed (next_by code at (control_of s.instr)) ++ listed (target_by code (control_of s.instr))

abbrev pub successors : List Stmt → ℕ → List ℕ
successors code at = successors_of code at (slice_get code at)

-- whether an instruction goes on at another
abbrev pub is_successor : List Stmt → ℕ → ℕ → Bool
is_successor code to at = list_any (nat_eq to) (successors code at)

-- the places of the instructions among the first ones that go on at this one, in rising order
abbrev pub first_before : List Stmt → ℕ → ℕ → List ℕ
first_before code count to = filter (is_successor code to) (range_with_len 0 count)

-- for each instruction the places of those that go on there, in rising order
pub record AreBefore (code : List Stmt) (lists : List (List ℕ)) : Type 0 where
  pub size : length lists ≡ length code
  pub each : (to : ℕ) → to < length code → slice_index_or lists to [] ≡ first_before code (length code) to
