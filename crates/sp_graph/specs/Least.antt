-- The least walk from a routine's entry to an instruction (this project's own).
use Rattle.std.specs.Prelude.{◌≡◌, ℕ, ◌<◌, ◌⊎◌, true, false, List, [], ◌∷◌, ◌++◌, length}
use Rattle.sp_graph.specs.Graph.{LeadsTo}
use Rattle.sp_graph.specs.declared.graph.Node.{Node}

-- an instruction goes on at another
abbrev pub Successor : List Node → ℕ → ℕ → Type 0
Successor graph at to = LeadsTo graph at false to ⊎ LeadsTo graph at true to

-- a walk from the entry to an instruction, as the list of the instructions before it
pub data WalkTo (graph : List Node) : List ℕ → ℕ → Type 0 where
  entry : WalkTo graph [] 0
  onward : (places : List ℕ) (at to : ℕ) → WalkTo graph places at → Successor graph at to → WalkTo graph (places ++ at ∷ []) to

-- a list of addresses is lower than another at the first place where they differ
abbrev pub Lower : List ℕ → List ℕ → Type 0
Lower [] ys = ⊥
Lower (x ∷ xs) [] = ⊥
Lower (x ∷ xs) (y ∷ ys) = (x < y) ⊎ ((x ≡ y) × Lower xs ys)

-- fewer instructions, or as many and the lower list of addresses
abbrev pub Before : List ℕ → List ℕ → Type 0
Before xs ys = (length xs < length ys) ⊎ ((length xs ≡ length ys) × Lower xs ys)

-- the walk of the fewest instructions, and of these the one with the lowest list of addresses
pub record IsLeastWalk (graph : List Node) (places : List ℕ) (at : ℕ) : Type 0 where
  pub walk : WalkTo graph places at
  pub least : (others : List ℕ) → WalkTo graph others at → (places ≡ others) ⊎ Before places others
