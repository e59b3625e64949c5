-- The subgoals as a stack: the first one stands last, and each has its own hypotheses after some of those at work.
use Rattle.std.specs.Prelude.{ℕ, ◌≤◌, ⊤, List, [], ◌∷◌, ◌++◌, map, take, length}
use Rattle.std.specs.List.{AllByRecursion}
use Rattle.sp_term.specs.Tree.{Tree}
use Rattle.sp_term.specs.Admissible.{Change}
use Rattle.sp_term.specs.Conditions.{trees, change_of}
use Rattle.sp_steps.specs.Subgoals.{Subgoal, State, subgoal}
use Rattle.sp_rules.specs.declared.work.Work.{Work}
use Rattle.sp_rules.specs.declared.work.Waiting.{Waiting}

abbrev pub hypotheses_of : Work → List Tree
hypotheses_of w = trees w.hypotheses.items

abbrev pub subgoal_at : List Tree → Waiting → Subgoal
subgoal_at hs s = subgoal (take s.kept hs ++ trees s.added.now) s.goal.now

-- the waiting subgoals, the last one first
unfoldable pub stacked : List Tree → List Waiting → List Subgoal
stacked hs [] = []
stacked hs (s ∷ ss) = stacked hs ss ++ subgoal_at hs s ∷ []

abbrev pub rest_of : Work → List Subgoal
rest_of w = stacked (hypotheses_of w) w.waiting.items

abbrev pub changes_of : Work → List Change
changes_of w = map change_of w.frames.now

abbrev pub state_of : Work → State
state_of w = record { subgoals = rest_of w; changes = changes_of w }

-- each subgoal shares no more hypotheses than those above it
unfoldable pub Rises : List Waiting → Type 0
Rises [] = ⊤
Rises (s ∷ ss) = AllByRecursion (λ above. s.kept ≤ above.kept) ss × Rises ss

pub record IsStacked (count : ℕ) (ss : List Waiting) : Type 0 where
  pub within : AllByRecursion (λ s. s.kept ≤ count) ss
  pub rises : Rises ss

abbrev pub IsWork : Work → Type 0
IsWork w = IsStacked (length (hypotheses_of w)) w.waiting.items
