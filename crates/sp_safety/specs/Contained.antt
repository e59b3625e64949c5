-- When a routine's runs stay within its stack and its code (this project's own).
use Rattle.std.specs.Prelude.{◌≡◌, ℕ, ◌+◌, ◌*◌, ◌<◌, ◌≤◌, false, Contains, Option, Some, None}
use Rattle.sp_isa.specs.Core.{Core}
use Rattle.sp_isa.specs.declared.instr.Instr.{Instr}
use Rattle.sp_isa.specs.declared.instr.Instr.TheVariants.{Call, Ccc, Rst}
use Rattle.sp_model.specs.Good.{IsEntry, IsReturnStep, AllRunsAreGood, base}
use Rattle.sp_model.specs.State.{State, run}
use Rattle.sp_model.specs.Unit.{Stmt, Routine, Unit}

-- the address that an instruction calls, where it calls (8080 manual, "Call subroutine instructions", "RST instruction")
abbrev pub called_address : Instr → Option ℕ
called_address (Call w) = Some w
called_address (Ccc when w) = Some w
called_address (Rst n) = Some (8 * n)
called_address _ = None

-- some instruction of a routine calls another routine
abbrev pub CallsTo : Unit → Routine → Routine → Type 0
CallsTo u r q = Contains u.routines q × ((i : Stmt) × Contains r.code i × (called_address i.instr ≡ Some q.address))

-- a routine itself, and those to which calls lead from it
pub data IsReached (u : Unit) (r : Routine) : Routine → Type 0 where
  itself : IsReached u r r
  through : (m q : Routine) → IsReached u r m → CallsTo u m q → IsReached u r q

-- an instruction of one of these routines begins at the program counter
pub record IsInReach (u : Unit) (r : Routine) (core : Core) : Type 0 where
  pub of : Routine
  pub of_unit : Contains u.routines of
  pub reached : IsReached u r of
  pub stmt : Stmt
  pub within : Contains of.code stmt
  pub there : stmt.address ≡ core.pc

-- no state before the n-th takes the return step
abbrev pub HasNotReturned : Unit → Routine → State → ℕ → Type 0
HasNotReturned u r s n = (k : ℕ) → k < n → ¬ IsReturnStep u r s (run s k)

-- the stack pointer lies in the routine's allotment or at its base
pub record HasStack (u : Unit) (r : Routine) (s t : State) : Type 0 where
  pub below : t.core.sp ≤ base u r s
  pub above : base u r s ≤ t.core.sp + r.depth

-- a run that has come from the entry s to t is within the routine's stack and code
pub record IsContainedAt (u : Unit) (r : Routine) (s t : State) : Type 0 where
  pub stack : HasStack u r s t
  pub code : IsInReach u r t.core

-- From each entry, up to the return step, the stack pointer is from the base less the depth to the base, and the program
-- counter is at an instruction of the routine or of one to which calls lead from it.
abbrev pub IsContained : Unit → Routine → Type 0
IsContained u r = (s : State) → IsEntry u r s → (n : ℕ) → HasNotReturned u r s n → IsContainedAt u r s (run s n)

-- every run is good, and each routine is contained unless it is a start routine
pub record IsSafe (u : Unit) : Type 0 where
  pub good : AllRunsAreGood u
  pub contained : (r : Routine) → Contains u.routines r → r.start ≡ false → IsContained u r
