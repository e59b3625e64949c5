-- What holds of the runs of a routine and of the executions of its walks.
use Rattle.std.specs.Prelude.{◌≡◌, ℕ, ◌+◌, ◌/◌, ◌%◌, ◌<◌, ◌≤◌, ℤ, Bool, false, All, List, [], ◌∷◌, length, map, slice_index, Some, None, ⊤}
use Rattle.std.specs.FinMap as maps
use Rattle.sp_base.specs.declared.location.Loc.{Loc}
use Rattle.sp_base.specs.Image.{ImageMap}
use Rattle.sp_base.specs.Locs.{has}
use Rattle.sp_isa.specs.Code.{code}
use Rattle.sp_isa.specs.Core.{at, advance}
use Rattle.sp_isa.specs.declared.instr.Instr.{Instr}
use Rattle.sp_isa.specs.declared.instr.Instr.TheVariants.{Ccc, Rcc}
use Rattle.sp_logic.specs.View.{note_of}
use Rattle.sp_model.specs.Note.{Frame, Holds, IsClosed, shown, stack_address}
use Rattle.sp_model.specs.Good.{Loaded}
use Rattle.sp_model.specs.State.{State, IsState, next_instr, step}
use Rattle.sp_prog.specs.declared.routine.Noted.{Noted}
use Rattle.sp_prog.specs.declared.routine.Routine.{Routine}
use Rattle.sp_prog.specs.View.{listed_areas}
use Rattle.sp_term.specs.Admissible.{Region, Change, MeetsChange, IsAdmissible, IsOutside}
use Rattle.sp_term.specs.Value.{Env}
use Rattle.sp_trans.specs.Formulas.{NoteFits}
use Rattle.sp_trans.specs.Meaning.{Asks}
use Rattle.sp_cond.specs.Execution.{Execution, begun, gone_on, called, span, start_asserts}
use Rattle.sp_cond.specs.Start.{Setting, is_set, has_store}
use Rattle.sp_facts.specs.Executions.{IsExecutionOf, IsChoice, bytes_of}
use Rattle.sp_facts.specs.Histories.{History, history, Agrees, env_of, with_call, with_bytes}

-- ---- Environments

-- the environment of a run has its values, and what has the values of a longer run has those of the shorter
pub record EnvironmentsAgree : Type 0 where
  pub own : (f : Frame) (h : History) → Agrees f h (env_of f h)
  pub fewer_calls : (f : Frame) (h : History) (t : State) (e : Env) → Agrees f (with_call t h) e → Agrees f h e
  pub fewer_bytes : (f : Frame) (h : History) (byte : ℕ) (e : Env) → Agrees f (with_bytes (byte ∷ []) h) e → Agrees f h e

-- each part of a history is in its range
pub record IsHistory (h : History) : Type 0 where
  pub entry_is : IsState h.entry
  pub start_is : IsState h.start
  pub calls_are : All IsState h.calls
  pub bytes : All (λ byte. byte < 256) h.taken

-- the bytes of the image are in memory, and none is in the stack region
pub record HasImageApart (image : ImageMap) (f : Frame) (s : State) : Type 0 where
  pub loaded : Loaded image s
  pub apart : (a byte : ℕ) → maps.get image a ≡ Some byte → (a < 65536) × ¬ ((f.first ≤ a) × (a ≤ f.last))

abbrev pub region : Frame → Region
region f = record { first = f.first; last = f.last }

-- the environment of a run is one of those in which conditions are judged
abbrev pub EnvironmentsAreAdmissible : Type 0
EnvironmentsAreAdmissible =
    (image : ImageMap) (f : Frame) (h : History) (changes : List Change) → IsHistory h → HasImageApart image f h.entry
    → All (MeetsChange image (env_of f h)) changes → IsAdmissible image (region f) changes (env_of f h)

-- ---- Executions

-- an annotation that has no word of the stack, and is true
pub record IsTrueNote (f : Frame) (s : State) (n : Noted) : Type 0 where
  pub closed : IsClosed (note_of n.note)
  pub fits : NoteFits 0 (note_of n.note)
  pub holds : Holds f (note_of n.note) s s

-- at an entry where the preconditions are true the empty walk from there begins
abbrev pub EntriesBegin : Type 0
EntriesBegin =
    (image : ImageMap) (u : Setting) (f : Frame) (s : State) → All (IsTrueNote f s) u.routine.pre
    → IsExecutionOf image f (history s s [] []) s (begun u None)

-- A step of an instruction that calls nothing, by the choice that the flags make, is a step of the execution.
abbrev pub StepsGoOn : Type 0
StepsGoOn =
    (image : ImageMap) (f : Frame) (h : History) (s : State) (x : Execution) (i : Instr) (n : ℕ) (taken : Bool)
    → IsState s → s.core.halted ≡ false → next_instr s.core ≡ Some (i, n) → Asks f i x.state s.core → IsChoice i taken s.core
    → IsExecutionOf image f h s x → IsExecutionOf image f (with_bytes (bytes_of i s) h) (step s) (gone_on i taken x)

-- Ccc and Rcc, which go on at the next instruction where their condition doesn't hold
abbrev pub MayPass : Instr → Type 0
MayPass (Ccc when w) = ⊤
MayPass (Rcc when) = ⊤
MayPass _ = ⊥

-- The program counter goes on after the instruction, and nothing else changes.
pub record HasPassed (i : Instr) (s t : State) : Type 0 where
  pub core : t.core ≡ advance (length (code i)) s.core
  pub inputs : t.inputs ≡ s.inputs
  pub outputs : t.outputs ≡ s.outputs

-- A call or a return that isn't taken is passed: its execution adds the choice alone.
pub record PassesGoOn : Type 0 where
  pub passed :
      (s : State) (i : Instr) (n : ℕ) → s.core.halted ≡ false → next_instr s.core ≡ Some (i, n) → MayPass i → IsChoice i false s.core
      → HasPassed i s (step s)
  pub executed :
      (image : ImageMap) (f : Frame) (h : History) (s : State) (x : Execution) (i : Instr) (n : ℕ)
      → IsState s → s.core.halted ≡ false → next_instr s.core ≡ Some (i, n) → MayPass i → IsChoice i false s.core
      → IsExecutionOf image f h s x → IsExecutionOf image f h (step s) (gone_on i false x)

-- ---- Walks from an assertion

-- What a run has kept at a state where a walk from an assertion begins: what the routine doesn't set has the entry's value, and
-- memory that it doesn't store to is as at the entry, else as there outside the areas that it lists.
pub record HasKept (image : ImageMap) (u : Setting) (f : Frame) (s t : State) : Type 0 where
  pub unset : (x : Loc) → is_set u x ≡ false → at x t.core ≡ at x s.core
  pub unstored : has_store u ≡ false → (z : ℤ) → shown f t.core.cells z ≡ shown f s.core.cells z
  pub image_is : HasImageApart image f t
  pub outside : (z : ℤ) → IsOutside z (map span (listed_areas u.unit.areas u.routine.changes.areas)) → shown f t.core.cells z ≡ shown f s.core.cells z

-- an annotation is true between two states, and its words of the stack are among so many
pub record IsTrueBetween (f : Frame) (words : ℕ) (s t : State) (n : Noted) : Type 0 where
  pub closed : IsClosed (note_of n.note)
  pub fits : NoteFits words (note_of n.note)
  pub holds : Holds f (note_of n.note) s t

-- at an asserted instruction whose assertions are true the empty walk from there begins
abbrev pub AssertionsBegin : Type 0
AssertionsBegin =
    (image : ImageMap) (u : Setting) (f : Frame) (s t : State) (place : ℕ) → HasKept image u f s t → All (IsTrueNote f s) u.routine.pre
    → All (IsTrueBetween f (slice_index u.depths place / 2) s t) (start_asserts u (Some place))
    → IsExecutionOf image f (history s t [] []) t (begun u (Some place))

-- ---- Whole calls

-- What a whole call of a routine leaves, from the state before it to the state after it: what the routine doesn't list, memory
-- outside its areas as annotations see it, and the words on the stack.
pub record HasLeft (image : ImageMap) (u : Setting) (f : Frame) (callee : Routine) (words : ℕ) (s t : State) : Type 0 where
  pub unlisted : (x : Loc) → has x callee.changes.locs ≡ false → at x t.core ≡ at x s.core
  pub image_is : HasImageApart image f t
  pub outside : (z : ℤ) → IsOutside z (map span (listed_areas u.unit.areas callee.changes.areas)) → shown f t.core.cells z ≡ shown f s.core.cells z
  pub kept : (k : ℕ) → 1 ≤ k → k ≤ words → (slice_index t.core.cells (stack_address f k % 65536) ≡ slice_index s.core.cells (stack_address f k % 65536))
      × (slice_index t.core.cells ((stack_address f k + 1) % 65536) ≡ slice_index s.core.cells ((stack_address f k + 1) % 65536))

-- A whole call that leaves these, and after which the callee's postconditions are true, is a step of the execution.
abbrev pub CallsGoOn : Type 0
CallsGoOn =
    (image : ImageMap) (u : Setting) (f : Frame) (h : History) (s t : State) (x : Execution) (i : Instr) (taken : Bool) (place : ℕ) (callee : Routine)
    → IsState s → IsChoice i taken s.core → HasLeft image u f callee (length x.state.slots) s t → All (IsTrueBetween f (length x.state.slots) s t) callee.post
    → IsExecutionOf image f h s x → IsExecutionOf image f (with_call t h) t (called u i taken place callee x)
