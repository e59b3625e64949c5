-- Annotations that are evaluated in the order of their lines, each with the whole budget (this project's own).
use Rattle.std.specs.Prelude.{◌≡◌, ℕ, ◌<◌, ◌≤◌, List, [], slice_get, Some}
use Rattle.sp_base.specs.declared.line.Line.{Line}
use Rattle.sp_eval.specs.Nodes.{note_nodes}
use Rattle.sp_isa.specs.Core.{Core}
use Rattle.sp_logic.specs.View.{note_of}
use Rattle.sp_model.specs.Note.{Frame, HoldsWith}
use Rattle.sp_prog.specs.declared.routine.Noted.{Noted}

-- what an annotation is evaluated in: its frame, the most nodes that it may have, and the cores at entry and now
pub record Evaluation : Type 0 where
  pub frame : Frame
  pub budget : ℕ
  pub entry : Core
  pub now : Core

-- how many nodes an annotation has there
abbrev pub nodes_in : Evaluation → Noted → ℕ
nodes_in e n = note_nodes e.frame [] (note_of n.note) e.entry e.now

-- the annotation is true
abbrev pub HoldsIn : Evaluation → Noted → Type 0
HoldsIn e n = HoldsWith e.frame [] (note_of n.note) e.entry e.now

-- it is true, and has no more nodes than the budget
pub record IsTrueIn (e : Evaluation) (n : Noted) : Type 0 where
  pub holds : HoldsIn e n
  pub within : nodes_in e n ≤ e.budget

-- it has no more nodes than the budget, and is false
pub record IsFalseIn (e : Evaluation) (n : Noted) : Type 0 where
  pub fails : ¬ HoldsIn e n
  pub within : nodes_in e n ≤ e.budget

-- it has more nodes than the budget
pub record IsLongIn (e : Evaluation) (n : Noted) : Type 0 where
  pub over : e.budget < nodes_in e n

-- all annotations are true within the budget
abbrev pub AreTrueIn : Evaluation → List Noted → Type 0
AreTrueIn e notes = (k : ℕ) (n : Noted) → slice_get notes k ≡ Some n → IsTrueIn e n

-- evaluation comes to an annotation: those before it are true within the budget
pub record ComesToNote (e : Evaluation) (notes : List Noted) (n : Noted) : Type 0 where
  pub place : ℕ
  pub there : slice_get notes place ≡ Some n
  pub before : (k : ℕ) (m : Noted) → k < place → slice_get notes k ≡ Some m → IsTrueIn e m

-- the first annotation that isn't true within the budget is a false one, on this line
pub record IsFalseOn (e : Evaluation) (notes : List Noted) (line : Line) : Type 0 where
  pub note : Noted
  pub comes : ComesToNote e notes note
  pub on : note.line ≡ line
  pub is_false : IsFalseIn e note

-- it is one with more nodes than the budget
pub record PassesBudget (e : Evaluation) (notes : List Noted) : Type 0 where
  pub note : Noted
  pub comes : ComesToNote e notes note
  pub is_long : IsLongIn e note
