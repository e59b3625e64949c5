-- The right side that a step of the code stands for.
use Rattle.std.specs.Prelude.{ℕ, ◌<◌, ◌≡◌, ⊤, List, length, Option, Some, None, option_map, ℤ, pos}
use Rattle.sp_term.specs.Tree.{Tree, Literal, Truth, Add, Multiply, Remainder, Element, Update, Not}
use Rattle.sp_term.specs.Pools.{tree_at, shape_tree, IsBelow}
use Rattle.sp_term.specs.declared.shape.Node.{Node}
use Rattle.sp_term.specs.declared.shape.Shape.{Shape}
use Rattle.sp_simp.specs.Rules.{Right, Is, Made, MadePlus, MadeModulo, compared}
use Rattle.sp_simp.specs.Simple.{Leads}
use Rattle.sp_simp.specs.declared.step.Part.{Part}
use Rattle.sp_simp.specs.declared.step.Part.TheVariants as part
use Rattle.sp_simp.specs.declared.step.Draft.{Draft}
use Rattle.sp_simp.specs.declared.step.Draft.TheVariants as draft
use Rattle.sp_simp.specs.declared.step.Step.{Step}
use Rattle.sp_simp.specs.declared.step.Step.TheVariants as step

abbrev pub part_tree : List Tree → Part → Tree
part_tree ts (part.Have n) = tree_at ts n.0
part_tree ts (part.Number c) = Literal c
part_tree ts (part.Truth b) = Truth b

abbrev pub IsPartWithin : ℕ → Part → Type 0
IsPartWithin n (part.Have x) = x.0 < n
IsPartWithin n (part.Number _) = ⊤
IsPartWithin n (part.Truth _) = ⊤

abbrev pub draft_tree : List Tree → Draft → Tree
draft_tree ts (draft.Add x y) = Add (part_tree ts x) (part_tree ts y)
draft_tree ts (draft.Multiply x y) = Multiply (part_tree ts x) (part_tree ts y)
draft_tree ts (draft.Remainder x y) = Remainder (part_tree ts x) (part_tree ts y)
draft_tree ts (draft.Element m x) = Element (tree_at ts m.0) (tree_at ts x.0)
draft_tree ts (draft.Update m x y) = Update (tree_at ts m.0) (tree_at ts x.0) (tree_at ts y.0)
draft_tree ts (draft.Compare r x y) = compared r (part_tree ts x) (part_tree ts y)
draft_tree ts (draft.Not p) = Not (tree_at ts p.0)

abbrev pub IsDraftWithin : ℕ → Draft → Type 0
IsDraftWithin n (draft.Add x y) = IsPartWithin n x × IsPartWithin n y
IsDraftWithin n (draft.Multiply x y) = IsPartWithin n x × IsPartWithin n y
IsDraftWithin n (draft.Remainder x y) = IsPartWithin n x × IsPartWithin n y
IsDraftWithin n (draft.Element m x) = (m.0 < n) × (x.0 < n)
IsDraftWithin n (draft.Update m x y) = (m.0 < n) × (x.0 < n) × (y.0 < n)
IsDraftWithin n (draft.Compare r x y) = IsPartWithin n x × IsPartWithin n y
IsDraftWithin n (draft.Not p) = p.0 < n

abbrev pub plan : List Tree → Step → Option Right
plan ts step.Stay = None
plan ts (step.Is x) = Some (Is (part_tree ts x))
plan ts (step.Make d) = Some (Made (draft_tree ts d))
plan ts (step.MakePlus d c) = Some (MadePlus (draft_tree ts d) c)
plan ts (step.MakeModulo d c) = Some (MadeModulo (draft_tree ts d) c)

abbrev pub IsStepWithin : ℕ → Step → Type 0
IsStepWithin n step.Stay = ⊤
IsStepWithin n (step.Is x) = IsPartWithin n x
IsStepWithin n (step.Make d) = IsDraftWithin n d
IsStepWithin n (step.MakePlus d c) = IsDraftWithin n d
IsStepWithin n (step.MakeModulo d c) = IsDraftWithin n d

-- the step writes what the rule does, over places of the list
pub record IsPlan (ts : List Tree) (s : Step) (rule : Option Right) : Type 0 where
  pub plans : plan ts s ≡ rule
  pub within : IsStepWithin (length ts) s

abbrev pub offset_at : List Tree → Option (Node × ℤ) → Option (Tree × ℤ)
offset_at ts = option_map (λ p. (tree_at ts p.0.0, p.1))

abbrev pub multiple_at : List Tree → Option (ℤ × Node) → Option (ℤ × Tree)
multiple_at ts = option_map (λ p. (p.0, tree_at ts p.1.0))

abbrev pub multiple_sum_at : List Tree → Option ((ℤ × Node) × Node) → Option ((ℤ × Tree) × Tree)
multiple_sum_at ts = option_map (λ p. ((p.0.0, tree_at ts p.0.1.0), tree_at ts p.1.0))

abbrev pub reduced_sum_at : List Tree → Option ((Node × ℤ) × Node) → Option ((Tree × ℤ) × Tree)
reduced_sum_at ts = option_map (λ p. ((tree_at ts p.0.0.0, p.0.1), tree_at ts p.1.0))

-- a base: a place, or the literal 0
abbrev pub base_tree : List Tree → Option Node → Tree
base_tree ts (Some n) = tree_at ts n.0
base_tree ts None = Literal (pos 0)

-- the rules lead from t to the tree at the place n
pub record IsLedAt (t : Tree) (ts : List Tree) (n : ℕ) : Type 0 where
  pub within : n < length ts
  pub form : Leads t (tree_at ts n)

-- a node over places of the list is the tree t
pub record IsDrawnAt (t : Tree) (ts : List Tree) (s : Shape) : Type 0 where
  pub below : IsBelow (length ts) s
  pub is : shape_tree ts s ≡ t
