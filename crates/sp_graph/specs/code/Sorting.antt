-- What a search in depth keeps.
use Rattle.std.specs.Prelude.{◌≡◌, ℕ, ◌+◌, ◌<◌, ◌≤◌, Bool, false, true, suc, List, slice_index, slice_index_or, length, cond}
use Rattle.std.specs.List.{sum_by}
use Rattle.sp_graph.specs.Cycles.{Edge}
use Rattle.sp_graph.specs.declared.graph.Node.{Node}
use Rattle.sp_graph.specs.declared.walk.Step.{Step}
use Rattle.sp_graph.specs.declared.sorting.Mark.{Mark}
use Rattle.sp_graph.specs.declared.sorting.Mark.TheVariants.{New, Open, Done}

abbrev pub mark_at : List Mark → ℕ → Mark
mark_at marks v = slice_index_or marks v New

abbrev pub step_at : List Step → ℕ → Step
step_at stack k = slice_index_or stack k (record { at = 0; taken = false })

-- what a choice leads to is done
abbrev pub Settled : List Node → ℕ → List Mark → ℕ → Bool → Type 0
Settled graph limit marks at taken = (to : ℕ) → Edge graph limit at taken to → mark_at marks to ≡ Done

abbrev pub undone : Mark → ℕ
undone New = 1
undone Open = 1
undone Done = 0

pub record Sorting (graph : List Node) (limit : ℕ) (marks : List Mark) (order : List ℕ) (stack : List Step) : Type 0 where
  pub size : limit ≤ length marks
  pub counted : length order + sum_by undone marks ≡ limit
  pub placed : (v : ℕ) → mark_at marks v ≡ Done → (k : ℕ) × (k < length order) × (slice_index order k ≡ v)
  pub ordered : (k : ℕ) → k < length order → (slice_index order k < limit) × (mark_at marks (slice_index order k) ≡ Done)
  pub once : (j k : ℕ) → j < k → k < length order → slice_index order j ≡ slice_index order k → ⊥
  pub first :
      (k : ℕ) (taken : Bool) (to : ℕ) → k < length order → Edge graph limit (slice_index order k) taken to →
      (j : ℕ) × (j < k) × (slice_index order j ≡ to)
  pub stacked : (k : ℕ) → k < length stack → ((step_at stack k).at < limit) × (mark_at marks (step_at stack k).at ≡ Open)
  pub apart : (j k : ℕ) → j < k → k < length stack → (step_at stack j).at ≡ (step_at stack k).at → ⊥
  pub open_is : (v : ℕ) → mark_at marks v ≡ Open → (k : ℕ) × (k < length stack) × ((step_at stack k).at ≡ v)
  pub path : (k : ℕ) → suc k < length stack → Edge graph limit (step_at stack k).at (step_at stack k).taken (step_at stack (suc k)).at
  pub untaken : (k : ℕ) → k < length stack → (step_at stack k).taken ≡ true → Settled graph limit marks (step_at stack k).at false

abbrev pub fresh : Mark → ℕ
fresh New = 3
fresh Open = 0
fresh Done = 0

-- how many moves are left at most
abbrev pub work : List Mark → List Step → ℕ
work marks stack = sum_by fresh marks + sum_by (λ s. cond s.taken 1 2) stack

-- a move of the search: what holds is kept, and what was not new stays so
pub record Moves (graph : List Node) (limit : ℕ) (marks : List Mark) (stack : List Step) (next_marks : List Mark) (next_order : List ℕ) (next_stack : List Step) : Type 0 where
  pub sorting : Sorting graph limit next_marks next_order next_stack
  pub fewer : work next_marks next_stack < work marks stack
  pub kept : (v : ℕ) → mark_at next_marks v ≡ New → mark_at marks v ≡ New

-- the search with an empty stack
pub record Ran (graph : List Node) (limit : ℕ) (marks next_marks : List Mark) (next_order : List ℕ) (next_stack : List Step) : Type 0 where
  pub sorting : Sorting graph limit next_marks next_order next_stack
  pub empty : length next_stack ≡ 0
  pub kept : (v : ℕ) → mark_at next_marks v ≡ New → mark_at marks v ≡ New

-- the search when it is done with what a root leads to
pub record Visited (graph : List Node) (limit root : ℕ) (marks next_marks : List Mark) (next_order : List ℕ) (next_stack : List Step) : Type 0 where
  pub ran : Ran graph limit marks next_marks next_order next_stack
  pub past : mark_at next_marks root ≡ New → ⊥
