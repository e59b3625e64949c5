-- Instructions, their branches, and the ways that lead on.
use Rattle.std.specs.Prelude.{◌≡◌, ◌<◌, ℕ, Bool, true, false, List, Option, None, Some, slice_get, length, if◌then◌else◌}
use Rattle.sp_graph.specs.declared.graph.Branch.{Branch}
use Rattle.sp_graph.specs.declared.graph.End.{End}
use Rattle.sp_graph.specs.declared.graph.End.TheVariants.{Access}
use Rattle.sp_graph.specs.declared.graph.Node.{Node}

-- the branch of an instruction by a choice
abbrev pub branch_of : Node → Bool → Option Branch
branch_of node false = node.untaken
branch_of node true = node.taken

-- whether the instruction at a place has an assertion
abbrev pub asserted_in : Option Node → Bool
asserted_in None = false
asserted_in (Some node) = node.asserted

-- the branch at a place by a choice
abbrev pub branch_in : Option Node → Bool → Option Branch
branch_in None taken = None
branch_in (Some node) taken = branch_of node taken

-- the end of a walk at an access
abbrev pub access_of : Option Node → Option End
access_of None = None
access_of (Some node) = if node.access then Some Access else None

-- where a branch leads
abbrev pub way : Option Branch → Option ℕ
way None = None
way (Some branch) = branch.to

-- a choice at an instruction leads to an instruction
abbrev pub LeadsTo : List Node → ℕ → Bool → ℕ → Type 0
LeadsTo graph at taken to = way (branch_in (slice_get graph at) taken) ≡ Some to

-- each branch leads to an instruction of the graph
abbrev pub InGraph : List Node → Type 0
InGraph graph = (at : ℕ) (taken : Bool) (to : ℕ) → LeadsTo graph at taken to → to < length graph
