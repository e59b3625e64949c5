-- What the parts of a note are, read in a setting.
use Rattle.std.specs.Prelude.{◌≡◌, ℕ, ◌+◌, ◌<◌, ℤ, ◌≤ℤ◌, Bool, List, ◌∷◌, Option, MatchOption}
use Rattle.sp_isa.specs.Core.{Core, IsCore}
use Rattle.sp_logic.specs.declared.note.Moment.{Moment}
use Rattle.sp_logic.specs.declared.note.Quantity.{Quantity}
use Rattle.sp_logic.specs.declared.note.Note.{Note}
use Rattle.sp_logic.specs.View as view
use Rattle.sp_model.specs.Note as model
use Rattle.sp_eval.specs.Nodes as nodes
use Rattle.sp_eval.specs.code.Small as small
use Rattle.sp_eval.specs.code.Truth as test
use Rattle.sp_eval.specs.declared.setting.Setting.{Setting}
use Rattle.sp_eval.specs.declared.scope.Scope.{Scope}
use Rattle.sp_eval.specs.code.Scope.{bindings_of}

abbrev pub core_at : Moment → Setting → Core
core_at m at = model.core_at (view.moment_of m) at.entry.now at.present.now

-- both machines are cores of the 8080
pub record HasCores (at : Setting) : Type 0 where
  pub entry : IsCore at.entry.now
  pub present : IsCore at.present.now

abbrev pub quantity_value : Setting → Scope → Quantity → ℤ
quantity_value at scope q = model.value (view.frame_of at.frame) (bindings_of scope) (view.quantity_of q) at.entry.now at.present.now

abbrev pub quantity_nodes : Setting → Scope → Quantity → ℕ
quantity_nodes at scope q = nodes.quantity_nodes (view.frame_of at.frame) (bindings_of scope) (view.quantity_of q) at.entry.now at.present.now

abbrev pub IsSmallQuantity : Setting → Scope → Quantity → Type 0
IsSmallQuantity at scope q = small.HasSmallParts (view.frame_of at.frame) (bindings_of scope) (view.quantity_of q) at.entry.now at.present.now

abbrev pub note_truth : Setting → Scope → Note → Bool
note_truth at scope p = test.is_true (view.frame_of at.frame) (bindings_of scope) (view.note_of p) at.entry.now at.present.now

abbrev pub note_nodes : Setting → Scope → Note → ℕ
note_nodes at scope p = nodes.note_nodes (view.frame_of at.frame) (bindings_of scope) (view.note_of p) at.entry.now at.present.now

abbrev pub IsSmallNote : Setting → Scope → Note → Type 0
IsSmallNote at scope p = small.NoteHasSmallParts (view.frame_of at.frame) (bindings_of scope) (view.note_of p) at.entry.now at.present.now

-- the truth and the nodes of a quantifier's note at an index
abbrev pub truth_of_index : Setting → Scope → List ℕ → Note → ℤ → Bool
truth_of_index at scope name p n = test.is_true (view.frame_of at.frame) ((name, n) ∷ bindings_of scope) (view.note_of p) at.entry.now at.present.now

abbrev pub nodes_of_index : Setting → Scope → List ℕ → Note → ℤ → ℕ
nodes_of_index at scope name p n = nodes.note_nodes (view.frame_of at.frame) ((name, n) ∷ bindings_of scope) (view.note_of p) at.entry.now at.present.now

-- the parts of a quantifier's note have small numbers at each of its indices
abbrev pub IsSmallOver : Setting → Scope → List ℕ → Note → ℤ → ℤ → Type 0
IsSmallOver at scope name p low high =
    (n : ℤ) → low ≤ℤ n → n ≤ℤ high
    → small.NoteHasSmallParts (view.frame_of at.frame) ((name, n) ∷ bindings_of scope) (view.note_of p) at.entry.now at.present.now

-- the answer where there are as many nodes as are left, which are taken from these; else none
abbrev pub IsPaid : {A : Type 0} → Option A → ℕ → ℕ → ℕ → A → Type 0
IsPaid result before after nodes value =
    MatchOption result (before < nodes) (λ answer. (answer ≡ value) × (after + nodes ≡ before))
