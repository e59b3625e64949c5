-- What is claimed of every run from a routine's entry to its return (this project's own).
use Rattle.std.specs.Prelude.{◌≡◌, ℕ, ◌+◌, ◌<◌, ◌≤◌, false, List, ◌++◌, All, Contains, Some, IsSome, IsTrue, if◌then◌else◌}
use Rattle.std.specs.FinMap as maps
use Rattle.sp_base.specs.declared.location.Loc.{Loc}
use Rattle.sp_base.specs.Image.{ImageMap}
use Rattle.sp_isa.specs.declared.instr.Instr.{Instr}
use Rattle.sp_isa.specs.Core.{Core, at, cell, word}
use Rattle.sp_isa.specs.Effect.{takes_input, returns}
use Rattle.sp_model.specs.Note.{Frame, Holds}
use Rattle.sp_model.specs.State.{State, IsState, next_instr, step, run}
use Rattle.sp_model.specs.Unit.{Area, Stmt, Routine, Unit}

-- each byte of the image is in memory at its address
abbrev pub Loaded : ImageMap → State → Type 0
Loaded image s = (a byte : ℕ) → maps.get image a ≡ Some byte → cell a s.core ≡ byte

-- there is room in the stack region for the return address and for what the routine takes below it
pub record HasRoom (u : Unit) (r : Routine) (sp : ℕ) : Type 0 where
  pub below : u.first + r.depth ≤ sp
  pub above : sp + 1 ≤ u.last

-- the base of the routine's stack: where its return address stands, or past the stack region for a start routine
abbrev pub base : Unit → Routine → State → ℕ
base u r s = if r.start then u.last + 1 else s.core.sp

-- what the routine's annotations are read in, for a run that began at s
abbrev pub frame_of : Unit → Routine → State → Frame
frame_of u r s = record { first = u.first; last = u.last; base = base u r s }

-- an entry of the routine: a state of the machine with the image loaded, at the routine's first instruction, with its
-- preconditions true, and, unless it is a start routine, with stack room
pub record IsEntry (u : Unit) (r : Routine) (s : State) : Type 0 where
  pub state : IsState s
  pub loaded : Loaded u.image s
  pub begins : s.core.pc ≡ r.address
  pub running : s.core.halted ≡ false
  pub pre : All (λ note. Holds (frame_of u r s) note s s) r.pre
  pub room : r.start ≡ false → HasRoom u r s.core.sp

-- an address of an area
abbrev pub InArea : ℕ → Area → Type 0
InArea a area = (area.address ≤ a) × (a < area.address + area.len)

-- an address of the routine's allotment: the bytes below its base that it may take
abbrev pub InAllotment : Unit → Routine → State → ℕ → Type 0
InAllotment u r s a = (a < base u r s) × (base u r s ≤ a + r.depth)

-- from s to t memory outside the changed areas and the allotment stayed, and bytes went out to listed ports alone
pub record Keeps (u : Unit) (r : Routine) (s t : State) : Type 0 where
  pub memory : (a : ℕ) → a < 65536 → ((area : Area) → Contains r.changes.areas area → ¬ InArea a area) → ¬ InAllotment u r s a → cell a t.core ≡ cell a s.core
  pub outputs : (more : List (ℕ × ℕ)) × (t.outputs ≡ s.outputs ++ more) × All (λ o. Contains r.outs o.0) more

-- the next step returns to the caller of the routine that was entered at s
pub record IsReturnStep (u : Unit) (r : Routine) (s t : State) : Type 0 where
  pub running : t.core.halted ≡ false
  pub returns : (i : Instr × ℕ) × (next_instr t.core ≡ Some i) × IsTrue (returns i.0 t.core)
  pub at_base : t.core.sp ≡ base u r s

-- the state after the return step: the stack and what isn't listed are as at entry, and the postconditions are true
pub record HasReturned (u : Unit) (r : Routine) (s t : State) : Type 0 where
  pub keeps : Keeps u r s t
  pub post : All (λ note. Holds (frame_of u r s) note s t) r.post
  pub sp : t.core.sp ≡ base u r s + 2
  pub pc : t.core.pc ≡ word (base u r s) s.core
  pub unlisted : (x : Loc) → ¬ Contains r.changes.locs x → at x t.core ≡ at x s.core

-- the program counter is at the first byte of an instruction of the program
abbrev pub IsInCode : Unit → Core → Type 0
IsInCode u core = (r : Routine) × Contains u.routines r × ((i : Stmt) × Contains r.code i × (i.address ≡ core.pc))

-- what is claimed of a state t that a run from the entry s has come to
pub record IsGoodAt (u : Unit) (r : Routine) (s t : State) : Type 0 where
  pub keeps : Keeps u r s t
  pub in_code : IsInCode u t.core
  pub not_stuck : t.core.halted ≡ false → IsSome (next_instr t.core)
  pub asserts : (i : Stmt) → Contains r.code i → i.address ≡ t.core.pc → All (λ note. Holds (frame_of u r s) note s t) i.asserts
  pub inputs : t.core.halted ≡ false → (i : Instr × ℕ) → next_instr t.core ≡ Some i → (port : ℕ) → takes_input i.0 ≡ Some port → Contains r.ins port
  pub returned : IsReturnStep u r s t → HasReturned u r s (step t)

-- it holds of each state among the first n steps, up to the return step
abbrev pub IsGood : Unit → Routine → State → ℕ → Type 0
IsGood u r s n = (i : ℕ) → i ≤ n → ((k : ℕ) → k < i → ¬ IsReturnStep u r s (run s k)) → IsGoodAt u r s (run s i)

-- of every routine, from every entry, through any number of steps
abbrev pub AllRunsAreGood : Unit → Type 0
AllRunsAreGood u = (r : Routine) → Contains u.routines r → (s : State) → IsEntry u r s → (n : ℕ) → IsGood u r s n
