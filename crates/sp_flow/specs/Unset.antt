-- Walks from the entry, and locations that nothing on them sets.
use Rattle.std.specs.Prelude.{◌≡◌, ℕ, Bool, false, true, List, [], ◌∷◌, ◌++◌, Option, None, Some, Contains, slice_get}
use Rattle.std.specs.Int.{bit_at}
use Rattle.sp_flow.specs.declared.ways.Way.{Way}
use Rattle.sp_flow.specs.declared.ways.Ways.{Ways}
use Rattle.sp_graph.specs.declared.walk.Step.{Step}

-- a set has the location of a number
abbrev pub Has : ℕ → ℕ → Type 0
Has x set = bit_at set x ≡ 1

abbrev pub way_of : Option Ways → Bool → Option Way
way_of None taken = None
way_of (Some ways) false = ways.untaken
way_of (Some ways) true = ways.taken

-- the way on by a step
abbrev pub way_at : List Ways → Step → Option Way
way_at graph step = way_of (slice_get graph step.at) step.taken

-- a step leads to an instruction
abbrev pub Leads : List Ways → Step → ℕ → Type 0
Leads graph step to = (way : Way) × (way_at graph step ≡ Some way) × (way.to ≡ Some to)

-- a step sets a location
abbrev pub Sets : List Ways → Step → ℕ → Type 0
Sets graph step x = (way : Way) × (way_at graph step ≡ Some way) × Has x way.sets

-- steps from the entry that lead to an instruction
pub data WalkTo (graph : List Ways) : List Step → ℕ → Type 0 where
  entry : WalkTo graph [] 0
  onward : (steps : List Step) (step : Step) (to : ℕ) → WalkTo graph steps step.at → Leads graph step to → WalkTo graph (steps ++ step ∷ []) to

-- some walk from the entry leads to an instruction, and nothing on it sets the location
abbrev pub IsLeftUnset : List Ways → ℕ → ℕ → Type 0
IsLeftUnset graph x at = (steps : List Step) × WalkTo graph steps at × ((step : Step) → Contains steps step → Sets graph step x → ⊥)
