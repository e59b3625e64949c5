-- What an evaluation answers (this project's own).
use Rattle.std.specs.Prelude.{◌≡◌, ℕ, ◌+◌, ◌<◌, ◌≤◌, ◌↔◌, IsTrue, [], MatchResult, Result}
use Rattle.sp_isa.specs.Core.{Core}
use Rattle.sp_model.specs.Note.{Frame, Note, HoldsWith}
use Rattle.sp_eval.specs.Nodes.{note_nodes}
use Rattle.sp_eval.specs.declared.evaluation.Seen.{Seen}
use Rattle.sp_eval.specs.declared.evaluation.TooLong.{TooLong}

-- whether the note holds, and how many nodes were evaluated, at most the budget
pub record IsSeen (f : Frame) (note : Note) (entry now : Core) (budget : ℕ) (seen : Seen) : Type 0 where
  pub value : IsTrue seen.value ↔ HoldsWith f [] note entry now
  pub nodes : seen.nodes ≡ note_nodes f [] note entry now
  pub within : seen.nodes ≤ budget

-- there are more nodes than the budget
pub record IsTooLong (f : Frame) (note : Note) (entry now : Core) (budget : ℕ) (long : TooLong) : Type 0 where
  pub past : budget < note_nodes f [] note entry now
  pub nodes : long.nodes ≡ budget + 1

abbrev pub Evaluates : Frame → Note → Core → Core → ℕ → Result Seen TooLong → Type 0
Evaluates f note entry now budget result =
    MatchResult result (IsSeen f note entry now budget) (IsTooLong f note entry now budget)
