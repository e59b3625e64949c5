-- The steps of scripts, and what a step makes of a subgoal (this project's own).
use Rattle.std.specs.Prelude.{ℕ, ℤ, Bool, true, Option, Some, List, [], ◌∷◌}
use Rattle.sp_base.specs.Image.{ImageMap}
use Rattle.sp_term.specs.Tree.{Tree}
use Rattle.sp_steps.specs.declared.side.Side.{Side}
use Rattle.sp_steps.specs.Subgoals.{is_small}

-- A step is a rule with its arguments: numbers of hypotheses, formulas, numbers and memories as trees.
pub data Step : Type 0 where
  Close : ℕ → Step
  Simp : Option ℕ → Step
  Split : Step
  Intro : Step
  OneSide : Side → Step
  Unpack : ℕ → Step
  UseBoth : ℕ → ℕ → Step
  CasesOf : ℕ → Step
  CasesOn : Tree → Step
  Cut : Tree → Step
  Fix : Step
  At : ℕ → Tree → Step
  Give : Tree → Step
  Pick : ℕ → Step
  Induct : Step
  -- the equation, the hypothesis to be rewritten (the goal, where it is none), and whether `back` stands at the end
  Rewrite : ℕ → Option ℕ → Bool → Step
  -- the goal's multiplier, and each multiplier with the hypothesis named after it
  Linear : ℤ → List (ℤ × ℕ) → Step
  DivMod : Tree → ℤ → Step
  Range : Tree → Step
  Read : Tree → Step
  -- a memory, an address, and the image
  Rom : Tree → ℤ → ImageMap → Step
  Frame : Tree → Tree → Step
  Bits : Tree → Step
  BitOf : ℤ → Tree → Step
  Choose : Tree → Step
  Empty : Tree → Step
  Last : Tree → Step
  Over : Tree → Step

-- A formula of a new subgoal: a part of the old one as it stands, or one that the step builds or is given.
pub data Piece : Type 0 where
  Taken : Tree → Piece
  Built : Tree → Piece

abbrev pub formula : Piece → Tree
formula (Taken p) = p
formula (Built p) = p

-- what is built or given keeps the limits on nodes and depth
abbrev pub is_legal : Piece → Bool
is_legal (Taken p) = true
is_legal (Built p) = is_small p

-- a new subgoal: what is added to the hypotheses, and its goal
pub record New : Type 0 where
  pub added : List Piece
  pub goal : Piece

-- a new goal, with nothing added
abbrev pub turned : Piece → New
turned goal = record { added = []; goal = goal }

abbrev pub with_added : List Piece → Piece → New
with_added ps goal = record { added = ps; goal = goal }

-- formulas are added, and the goal stays
abbrev pub adds : List Piece → Tree → Option (List New)
adds ps goal = Some (with_added ps (Taken goal) ∷ [])
