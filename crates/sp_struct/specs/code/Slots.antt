-- Assertions that name words below those of the stack.
use Rattle.std.specs.Prelude.{◌≡◌, ◌⊎◌, ◌<◌, ◌≤◌, ◌*◌, ℕ, ℤ, pos, ◌<ℤ◌, int_lt, true, Bool, List, Option, Some, slice_get, Contains}
use Rattle.std.specs.List.{list_any}
use Rattle.sp_base.specs.declared.line.Line.{Line}
use Rattle.sp_logic.specs.View.{note_of}
use Rattle.sp_graph.specs.Structure.{IsAt, DepthAt, note_words}
use Rattle.sp_prog.specs.declared.routine.Noted.{Noted}
use Rattle.sp_prog.specs.declared.routine.Routine.{Routine}
use Rattle.sp_prog.specs.declared.routine.Stmt.{Stmt}
use Rattle.sp_prog.specs.Program.{Program}

-- one of these words isn't on a stack of this depth
abbrev pub lacks : ℤ → List ℕ → Bool
lacks depth words = list_any (λ w. int_lt depth (pos (2 * w))) words

abbrev pub note_lacks : ℤ → Noted → Bool
note_lacks depth n = lacks depth (note_words (note_of n.note))

-- the lowest line of the first annotations that lack a word, and the line before
pub record Lowered (depth : ℤ) (notes : List Noted) (count : ℕ) (first best : Option Line) : Type 0 where
  pub found :
      (line : Line) → best ≡ Some line →
      (first ≡ Some line) ⊎ ((i : ℕ) × (n : Noted) × (slice_get notes i ≡ Some n) × (note_lacks depth n ≡ true) × (n.line ≡ line))
  pub least :
      (i : ℕ) (n : Noted) → i < count → slice_get notes i ≡ Some n → note_lacks depth n ≡ true → (b : Line) × (best ≡ Some b) × (b.0 ≤ n.line.0)
  pub kept : (old : Line) → first ≡ Some old → (b : Line) × (best ≡ Some b) × (b.0 ≤ old.0)

-- an assertion of an instruction, on this line, lacks a word
abbrev pub LacksHere : Program → ℕ → ℕ → ℕ → Type 0
LacksHere p r k line =
    (routine : Routine) × (s : Stmt) × IsAt p r k routine s
    × ((n : Noted) × (depth : ℤ) × (w : ℕ) × Contains s.asserts n × (n.line.0 ≡ line) × DepthAt p r routine k depth
    × Contains (note_words (note_of n.note)) w × (depth <ℤ pos (2 * w)))
