-- The state of a script: subgoals, each with hypotheses that are numbered from 1, and a goal (this project's own).
use Rattle.std.specs.Prelude.{◌≡◌, ℕ, ◌-◌, ◌≤◌, ◌<◌, ◌==◌, Bool, true, false, ◌&&◌, ◌||◌, nat_le, if◌then◌else◌, Option, None, List, [], ◌∷◌, slice_get}
use Rattle.sp_term.specs.declared.var.Var.TheVariants as var
use Rattle.sp_term.specs.Tree.{Tree, And, nodes, depth_of}
use Rattle.sp_term.specs.Free.{is_free}
use Rattle.sp_term.specs.Admissible.{Change, Condition}

pub record Subgoal : Type 0 where
  pub hypotheses : List Tree
  pub goal : Tree

-- the subgoals in order, and how the memory variables of the condition are related
pub record State : Type 0 where
  pub subgoals : List Subgoal
  pub changes : List Change

abbrev pub subgoal : List Tree → Tree → Subgoal
subgoal hs goal = record { hypotheses = hs; goal = goal }

-- the hypothesis with a number, if there is one
abbrev pub hypothesis : List Tree → ℕ → Option Tree
hypothesis hs k = if k == 0 then None else slice_get hs (k - 1)

-- ---- the first state

-- goals as one formula: `(C1 and (C2 and ..))`, or C1 alone
abbrev pub joined : Tree → List Tree → Tree
joined goal [] = goal
joined goal (next ∷ goals) = And goal (joined next goals)

abbrev pub first_subgoals : List Tree → List Tree → List Subgoal
first_subgoals hs [] = []
first_subgoals hs (goal ∷ goals) = subgoal hs (joined goal goals) ∷ []

-- one subgoal, or none where the condition has no goals and so is true
abbrev pub start : Condition → State
start c = record { subgoals = first_subgoals c.hypotheses c.goals; changes = c.changes }

-- ---- limits

-- at most 65,536 nodes, and at most 2,000 deep
abbrev pub is_small : Tree → Bool
is_small t = nat_le (nodes t) 65536 && nat_le (depth_of t) 2000

abbrev pub most_hypotheses : ℕ
most_hypotheses = 4096

abbrev pub most_subgoals : ℕ
most_subgoals = 4096

-- ---- fresh variables

abbrev pub some_has : ℕ → List Tree → Bool
some_has j [] = false
some_has j (p ∷ ps) = is_free (var.Any j) p || some_has j ps

-- whether `k_j` occurs in a subgoal
abbrev pub occurs : ℕ → Subgoal → Bool
occurs j g = some_has j g.hypotheses || is_free (var.Any j) g.goal

-- j is the least number from 1 such that `k_j` occurs nowhere in the subgoal
pub record IsFresh (g : Subgoal) (j : ℕ) : Type 0 where
  pub positive : 1 ≤ j
  pub new : occurs j g ≡ false
  pub least : (i : ℕ) → 1 ≤ i → i < j → occurs i g ≡ true
