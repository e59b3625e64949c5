-- What the work list keeps while sets spread along steps.
use Rattle.std.specs.Prelude.{◌≡◌, ◌≤◌, ◌⊎◌, ◌+◌, ◌-◌, ◌*◌, ◌^◌, ℕ, List, slice_index, length}
use Rattle.std.specs.List.{Contains, sum_by}
use Rattle.sp_flow.specs.Unset.{Has, Leads, Sets, IsLeftUnset}
use Rattle.sp_flow.specs.declared.ways.Ways.{Ways}
use Rattle.sp_graph.specs.declared.walk.Step.{Step}

-- what the sets have is left unset on some walk
abbrev pub Sound : List Ways → List ℕ → Type 0
Sound graph sets = (x at : ℕ) → Has x (slice_index sets at) → IsLeftUnset graph x at

-- what a step does not set of the set before it, the set after it has
abbrev pub Closed : List Ways → List ℕ → Step → Type 0
Closed graph sets step =
    (x to : ℕ) → Leads graph step to → Has x (slice_index sets step.at) → (Sets graph step x → ⊥) → Has x (slice_index sets to)

-- a step is closed, or its instruction is on the work list
abbrev pub Settled : List Ways → List ℕ → List ℕ → Step → Type 0
Settled graph sets work step = Contains work step.at ⊎ Closed graph sets step

-- how much the sets can still grow
abbrev pub missing : List ℕ → ℕ
missing sets = sum_by (λ set. 2 ^ 16 - set) sets

-- one set may grow, and its instruction is then on the work list
pub record Spreads (graph : List Ways) (sets work next_sets next_work : List ℕ) : Type 0 where
  pub size : length next_sets ≡ length sets
  pub grown : (x at : ℕ) → Has x (slice_index sets at) → Has x (slice_index next_sets at)
  pub sound : Sound graph sets → Sound graph next_sets
  pub kept : (at : ℕ) → Contains work at → Contains next_work at
  pub listed : (at : ℕ) → Contains next_work at ⊎ (slice_index next_sets at ≡ slice_index sets at)
  pub fewer : 2 * missing next_sets + length next_work ≤ 2 * missing sets + length work
