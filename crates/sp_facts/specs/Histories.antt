-- The environments of a run: variables stand for what the states have that it came through (this project's own).
use Rattle.std.specs.Prelude.{◌≡◌, ℕ, ◌+◌, ◌-◌, ◌%◌, ℤ, pos, List, [], ◌∷◌, ◌++◌, slice_get, slice_index, slice_index_or, Some}
use Rattle.sp_base.specs.declared.location.Loc.{Loc}
use Rattle.sp_isa.specs.Core.{at}
use Rattle.sp_model.specs.Note.{Frame, shown, stack_address}
use Rattle.sp_model.specs.State.{State}
use Rattle.sp_term.specs.declared.var.Var.{Var}
use Rattle.sp_term.specs.declared.var.Var.TheVariants as var
use Rattle.sp_term.specs.Value.{Env}

-- What a run's variables speak of: its entry, the state at which the present walk began, and since then the states after its
-- calls and the bytes that it took, the first ones first.
pub record History : Type 0 where
  pub entry : State
  pub start : State
  pub calls : List State
  pub taken : List ℕ

abbrev pub history : State → State → List State → List ℕ → History
history entry start calls taken = record { entry = entry; start = start; calls = calls; taken = taken }

-- variables of the locations and of memory have the values of a state
pub record IsSnapshot (f : Frame) (e : Env) (of_loc : Loc → Var) (of_memory : Var) (s : State) : Type 0 where
  pub locations : (x : Loc) → e.int (of_loc x) ≡ pos (at x s.core)
  pub memory : (z : ℤ) → e.map of_memory z ≡ shown f s.core.cells z

-- The environment has the values of a run. The first call and the first byte have number 1, and the k-th word on the stack at
-- the walk's start lies at its place below the base.
pub record Agrees (f : Frame) (h : History) (e : Env) : Type 0 where
  pub at_entry : IsSnapshot f e (λ x. var.Entry x) var.MemEntry h.entry
  pub at_start : IsSnapshot f e (λ x. var.Now x) var.Mem h.start
  pub after_call : (j : ℕ) (t : State) → slice_get h.calls j ≡ Some t → IsSnapshot f e (λ x. var.After x (j + 1)) (var.MemAfter (j + 1)) t
  pub inputs : (j byte : ℕ) → slice_get h.taken j ≡ Some byte → e.int (var.In (j + 1)) ≡ pos byte
  pub slot_low : (k : ℕ) → e.int (var.SlotLow k) ≡ pos (slice_index h.start.core.cells (stack_address f k % 65536))
  pub slot_high : (k : ℕ) → e.int (var.SlotHigh k) ≡ pos (slice_index h.start.core.cells ((stack_address f k + 1) % 65536))

-- ---- The environment of a run

-- the state after the call of a number; any serves for a number that no call has
abbrev pub after : History → ℕ → State
after h j = slice_index_or h.calls (j - 1) h.entry

abbrev pub int_in : Frame → History → Var → ℤ
int_in f h (var.Entry x) = pos (at x h.entry.core)
int_in f h (var.Now x) = pos (at x h.start.core)
int_in f h (var.After x j) = pos (at x (after h j).core)
int_in f h (var.In j) = pos (slice_index h.taken (j - 1))
int_in f h (var.SlotHigh k) = pos (slice_index h.start.core.cells ((stack_address f k + 1) % 65536))
int_in f h (var.SlotLow k) = pos (slice_index h.start.core.cells (stack_address f k % 65536))
int_in f h var.MemEntry = pos 0
int_in f h var.Mem = pos 0
int_in f h (var.MemAfter j) = pos 0
int_in f h (var.Any j) = pos 0
int_in f h (var.Bound j) = pos 0

abbrev pub map_in : Frame → History → Var → ℤ → ℤ
map_in f h var.MemEntry z = shown f h.entry.core.cells z
map_in f h var.Mem z = shown f h.start.core.cells z
map_in f h (var.MemAfter j) z = shown f (after h j).core.cells z
map_in f h _ z = pos 0

abbrev pub env_of : Frame → History → Env
env_of f h = record { int = int_in f h; map = map_in f h }

-- ---- Longer histories

abbrev pub with_call : State → History → History
with_call t h = history h.entry h.start (h.calls ++ t ∷ []) h.taken

abbrev pub with_bytes : List ℕ → History → History
with_bytes bytes h = history h.entry h.start h.calls (h.taken ++ bytes)
