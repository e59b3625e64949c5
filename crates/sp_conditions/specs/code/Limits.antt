-- Formulas within the limits on nodes and depth.
use Rattle.std.specs.Prelude.{◌≡◌, ◌<◌, ◌≤◌, ◌-◌, ◌^◌, ℕ, map, max, min, List, Result, Ok, Err, ⊤}
use Rattle.std.specs.List.{fold, sum}
use Rattle.sp_term.specs.Tree.{Tree, nodes, depth_of}
use Rattle.sp_cond.specs.declared.refusal.CondRefusal.{CondRefusal}
use Rattle.sp_cond.specs.declared.refusal.CondRefusal.TheVariants as refusal
use Rattle.sp_cond.specs.WalkConditions.{most_nodes, most_depth}

abbrev pub all_nodes : List Tree → ℕ
all_nodes ts = sum (map nodes ts)

abbrev pub deepest : List Tree → ℕ
deepest ts = fold (λ most t. max most (depth_of t)) 0 ts

-- the answer by the nodes, and where they are not too many by the depth
abbrev pub AreWithin : List Tree → Result (Unit {0}) CondRefusal → Type 0
AreWithin ts (Ok done) = (all_nodes ts ≤ most_nodes) × (deepest ts ≤ most_depth)
AreWithin ts (Err (refusal.TooLarge count)) = (most_nodes < all_nodes ts) × (count ≡ min (all_nodes ts) (2 ^ 64 - 1))
AreWithin ts (Err (refusal.TooDeep count)) = (all_nodes ts ≤ most_nodes) × (most_depth < deepest ts) × (count ≡ deepest ts)
AreWithin ts (Err refusal.Memory) = ⊤
