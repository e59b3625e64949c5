-- The first subgoal of a state, taken out.
use Rattle.std.specs.Prelude.{◌≡◌, Option, Some, None, [], ◌∷◌}
use Rattle.sp_term.specs.Conditions.{trees}
use Rattle.sp_steps.specs.Subgoals.{State, subgoal}
use Rattle.sp_rules.specs.declared.goals.Subgoal.{Subgoal}

-- the first subgoal and the state without it, or none where there is no subgoal
abbrev pub IsFirst : Option (Subgoal × State) → State → Type 0
IsFirst (Some first) old = (old.subgoals ≡ subgoal (trees first.0.hypotheses.items) first.0.goal.now ∷ first.1.subgoals) × (old.changes ≡ first.1.changes)
IsFirst None old = old.subgoals ≡ []
