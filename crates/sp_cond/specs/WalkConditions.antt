-- The condition of a walk, its size, and when it is given (this project's own).
use Rattle.std.specs.Prelude.{◌≡◌, ◌<◌, ◌≤◌, ◌-◌, ◌^◌, ℕ, min, max, Bool, true, false, List, [], ◌++◌, map, reverse, Option, None, Some, slice_get, slice_index_or, Result, Ok, Err, if◌then◌else◌, ⊤}
use Rattle.std.specs.List.{fold, sum}
use Rattle.sp_graph.specs.declared.graph.End.{End}
use Rattle.sp_graph.specs.declared.graph.End.TheVariants as end
use Rattle.sp_graph.specs.declared.sound.Sound.{Sound}
use Rattle.sp_graph.specs.declared.walk.Walk.{Walk}
use Rattle.sp_isa.specs.declared.instr.Instr.{Instr}
use Rattle.sp_prog.specs.declared.routine.Routine.{Routine}
use Rattle.sp_prog.specs.declared.routine.Stmt.{Stmt}
use Rattle.sp_prog.specs.Program.{Program}
use Rattle.sp_term.specs.declared.cond.Cond.{Cond}
use Rattle.sp_term.specs.Admissible.{Condition}
use Rattle.sp_term.specs.Conditions.{condition_of}
use Rattle.sp_term.specs.Tree.{Tree, nodes, depth_of}
use Rattle.sp_trans.specs.Symbolic.{Symbolic}
use Rattle.sp_cond.specs.declared.refusal.CondRefusal.{CondRefusal}
use Rattle.sp_cond.specs.declared.refusal.CondRefusal.TheVariants as refusal
use Rattle.sp_cond.specs.Start.{Setting}
use Rattle.sp_cond.specs.Execution.{Execution, choice, executed}
use Rattle.sp_cond.specs.Conclusions.{goals_at}

-- ---- conditions

-- a walk ends at a call or at a return that is taken; at an access or an assertion it makes no choice
abbrev pub ends_taken : End → Bool
ends_taken end.Call = true
ends_taken end.Return = true
ends_taken end.Access = false
ends_taken end.Assert = false

-- the choice at the instruction at which a walk ends
abbrev pub last_choice : End → Instr → Symbolic → List Tree
last_choice end i g = if ends_taken end then choice i true g else []

abbrev pub last_choice_at : End → Option Stmt → Symbolic → List Tree
last_choice_at end None g = []
last_choice_at end (Some s) g = last_choice end s.instr g

-- the condition at a walk's end
abbrev pub concluded : Setting → End → Option Stmt → Execution → Condition
concluded u end s x = record {
  hypotheses = x.hypotheses ++ last_choice_at end s x.state;
  goals = goals_at u end s x.state;
  changes = x.changes;
}

-- the condition of a walk
abbrev pub condition_in : Setting → Walk → Condition
condition_in u w = concluded u w.end (slice_get u.routine.code w.at) (executed u w.from (reverse w.steps))

-- the setting of a routine of a program, with the depths that are given
abbrev pub setting_of : Program → Routine → List ℕ → Setting
setting_of p r depths = record { unit = p; routine = r; depths = depths }

abbrev pub condition_by : Program → Option Routine → List ℕ → Walk → Condition
condition_by p None depths w = record { hypotheses = []; goals = []; changes = [] }
condition_by p (Some r) depths w = condition_in (setting_of p r depths) w

-- the condition of a walk of the routine at a place, which stands there
abbrev pub condition : Program → Sound → ℕ → Walk → Condition
condition p sound place w = condition_by p (slice_get p.routines place) (slice_index_or sound.depths place []) w

-- ---- sizes

-- the formulas of a condition; the earlier memories of its changes aren't among them
abbrev pub formulas : Condition → List Tree
formulas c = c.hypotheses ++ c.goals

-- the nodes of the formulas together
abbrev pub condition_nodes : Condition → ℕ
condition_nodes c = sum (map nodes (formulas c))

-- the depth of the deepest formula, 0 where there is none
abbrev pub condition_depth : Condition → ℕ
condition_depth c = fold (λ most t. max most (depth_of t)) 0 (formulas c)

abbrev pub most_nodes : ℕ
most_nodes = 65536

abbrev pub most_depth : ℕ
most_depth = 2000

-- A condition within the limits is given. Else its nodes are told where they are too many, up to the greatest u64, and else
-- its depth.
abbrev pub GivesCondition : Condition → Result Cond CondRefusal → Type 0
GivesCondition c (Ok given) = (condition_of given ≡ c) × (condition_nodes c ≤ most_nodes) × (condition_depth c ≤ most_depth)
GivesCondition c (Err (refusal.TooLarge count)) = (most_nodes < condition_nodes c) × (count ≡ min (condition_nodes c) (2 ^ 64 - 1))
GivesCondition c (Err (refusal.TooDeep count)) =
    (condition_nodes c ≤ most_nodes) × (most_depth < condition_depth c) × (count ≡ condition_depth c)
GivesCondition c (Err refusal.Memory) = ⊤
