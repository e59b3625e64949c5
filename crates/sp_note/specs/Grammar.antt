-- The grammar of conditions in annotations (this project's own).
use Rattle.std.specs.Prelude.{◌≡◌, ℕ, ◌+◌, ◌≤◌, max, Bool, true, false, List, [], ◌∷◌, ◌++◌, ⊤}
use Rattle.sp_base.specs.declared.location.Loc.{Loc}
use Rattle.sp_logic.specs.declared.note.Moment.{Moment}
use Rattle.sp_logic.specs.declared.note.Moment.TheVariants.{Now, AtEntry}
use Rattle.sp_logic.specs.declared.note.Quantifier.{Quantifier}
use Rattle.sp_logic.specs.declared.note.RegisterPair.{RegisterPair}
use Rattle.sp_note.specs.declared.word.Bits.{Bits}
use Rattle.sp_note.specs.declared.word.Infix.{Infix}
use Rattle.sp_note.specs.declared.word.Infix.TheVariants as op
use Rattle.sp_note.specs.declared.word.Measure.{Measure}
use Rattle.sp_note.specs.declared.word.Word.{Word}
use Rattle.sp_note.specs.declared.word.Word.TheVariants as words

-- a condition as it is written, with its parentheses
pub data Tree : Type 0 where
  Number : ℕ → Tree
  Constant : Bool → Tree
  Location : Moment → Loc → Tree
  Pair : Moment → RegisterPair → Tree
  StackWord : ℕ → Tree
  Named : Moment → List ℕ → Tree
  Measured : Measure → List ℕ → Tree
  Cell : Moment → Tree → Tree
  Element : Moment → List ℕ → Tree → Tree
  Total : Moment → Tree → Tree → Tree
  Parity : Tree → Tree
  TwoBits : Bits → Tree → Tree → Tree
  Paren : Tree → Tree
  Negative : Tree → Tree
  Joined : Infix → Tree → Tree → Tree
  Not : Tree → Tree
  Quantified : Quantifier → List ℕ → Tree → Tree → Tree → Tree

-- the ranks, from the loosest: 9 for <->, 8 for ->, 7 for or, 6 for and, 5 for not and quantifiers, 4 for comparisons, 3 for
-- + and -, 2 for *, div and mod, 1 for a sign, 0 for primaries
abbrev pub rank_of : Infix → ℕ
rank_of op.Iff = 9
rank_of op.Implies = 8
rank_of op.Or = 7
rank_of op.And = 6
rank_of (op.Compare c) = 4
rank_of op.Add = 3
rank_of op.Subtract = 3
rank_of op.Multiply = 2
rank_of op.Divide = 2
rank_of op.Modulo = 2

-- the loosest rank of the left part: operators of one rank go from the left, -> goes from the right, and one comparison
-- stands between two sums
abbrev pub left_rank : Infix → ℕ
left_rank op.Iff = 9
left_rank op.Implies = 7
left_rank op.Or = 7
left_rank op.And = 6
left_rank (op.Compare c) = 3
left_rank op.Add = 3
left_rank op.Subtract = 3
left_rank op.Multiply = 2
left_rank op.Divide = 2
left_rank op.Modulo = 2

-- the loosest rank of the right part
abbrev pub right_rank : Infix → ℕ
right_rank op.Iff = 8
right_rank op.Implies = 8
right_rank op.Or = 6
right_rank op.And = 5
right_rank (op.Compare c) = 3
right_rank op.Add = 2
right_rank op.Subtract = 2
right_rank op.Multiply = 1
right_rank op.Divide = 1
right_rank op.Modulo = 1

abbrev pub rank_of_tree : Tree → ℕ
rank_of_tree (Joined i x y) = rank_of i
rank_of_tree (Quantified q name x y p) = 5
rank_of_tree (Not p) = 5
rank_of_tree (Negative x) = 1
rank_of_tree _ = 0

-- a quantifier reaches as far right as it can: what ends with one outside parentheses is followed by no operator
abbrev pub ends_open : Tree → Bool
ends_open (Quantified q name x y p) = true
ends_open (Joined i x y) = ends_open y
ends_open (Not p) = ends_open p
ends_open (Negative x) = ends_open x
ends_open _ = false

-- the grammar: the ends of quantifiers and of total are sums, and any condition stands in other brackets
abbrev pub IsCondition : Tree → Type 0
IsCondition (Joined i x y) =
    (rank_of_tree x ≤ left_rank i) × (rank_of_tree y ≤ right_rank i) × (ends_open x ≡ false) × IsCondition x × IsCondition y
IsCondition (Quantified q name x y p) =
    (rank_of_tree x ≤ 3) × (rank_of_tree y ≤ 3) × IsCondition x × IsCondition y × IsCondition p
IsCondition (Not p) = (rank_of_tree p ≤ 5) × IsCondition p
IsCondition (Negative x) = (rank_of_tree x ≤ 1) × IsCondition x
IsCondition (Number n) = ⊤
IsCondition (Constant truth) = ⊤
IsCondition (Location m x) = ⊤
IsCondition (Pair m p) = ⊤
IsCondition (StackWord k) = ⊤
IsCondition (Named m name) = ⊤
IsCondition (Measured x name) = ⊤
IsCondition (Cell m x) = IsCondition x
IsCondition (Element m name x) = IsCondition x
IsCondition (Total m x y) = (rank_of_tree x ≤ 3) × (rank_of_tree y ≤ 3) × IsCondition x × IsCondition y
IsCondition (Parity x) = IsCondition x
IsCondition (TwoBits b x y) = IsCondition x × IsCondition y
IsCondition (Paren x) = IsCondition x

abbrev pub mark : Moment → List Word
mark Now = []
mark AtEntry = words.AtEntry ∷ []

-- the words that a condition is written with
unfoldable pub spelling : Tree → List Word
spelling (Number n) = words.Number n ∷ []
spelling (Constant truth) = words.Constant truth ∷ []
spelling (Location m x) = words.Location x ∷ mark m
spelling (Pair m p) = words.Pair p ∷ mark m
spelling (StackWord k) = words.StackWord k ∷ []
spelling (Named m name) = words.Name name ∷ mark m
spelling (Measured x name) = words.Measure x ∷ words.Open ∷ words.Name name ∷ words.Close ∷ []
spelling (Cell m x) = words.Mem ∷ (mark m ++ words.OpenBracket ∷ (spelling x ++ words.CloseBracket ∷ []))
spelling (Element m name x) = words.Name name ∷ (mark m ++ words.OpenBracket ∷ (spelling x ++ words.CloseBracket ∷ []))
spelling (Total m x y) =
    words.Total ∷ (mark m ++ words.Open ∷ (spelling x ++ words.Comma ∷ (spelling y ++ words.Close ∷ [])))
spelling (Parity x) = words.Par ∷ words.Open ∷ (spelling x ++ words.Close ∷ [])
spelling (TwoBits b x y) = words.Bits b ∷ words.Open ∷ (spelling x ++ words.Comma ∷ (spelling y ++ words.Close ∷ []))
spelling (Paren x) = words.Open ∷ (spelling x ++ words.Close ∷ [])
spelling (Negative x) = words.Infix op.Subtract ∷ spelling x
spelling (Joined i x y) = spelling x ++ words.Infix i ∷ spelling y
spelling (Not p) = words.Not ∷ spelling p
spelling (Quantified q name x y p) =
    words.For ∷ words.Quantifier q ∷ words.Name name ∷ words.In
    ∷ (spelling x ++ words.Range ∷ (spelling y ++ words.Colon ∷ spelling p))

-- these words are a condition, and this is its tree
pub record Spells (ws : List Word) (t : Tree) : Type 0 where
  pub grammar : IsCondition t
  pub whole : ws ≡ spelling t

-- each -> nests its right part
abbrev pub nesting_of : Infix → ℕ
nesting_of op.Implies = 1
nesting_of _ = 0

-- how deep parentheses and brackets of every kind, not, signs, -> and quantifiers are nested
abbrev pub depth_of : Tree → ℕ
depth_of (Joined i x y) = max (depth_of x) (depth_of y + nesting_of i)
depth_of (Quantified q name x y p) = max (max (depth_of x) (depth_of y)) (depth_of p) + 1
depth_of (Not p) = depth_of p + 1
depth_of (Negative x) = depth_of x + 1
depth_of (Number n) = 0
depth_of (Constant truth) = 0
depth_of (Location m x) = 0
depth_of (Pair m p) = 0
depth_of (StackWord k) = 0
depth_of (Named m name) = 0
depth_of (Measured x name) = 1
depth_of (Cell m x) = depth_of x + 1
depth_of (Element m name x) = depth_of x + 1
depth_of (Total m x y) = max (depth_of x) (depth_of y) + 1
depth_of (Parity x) = depth_of x + 1
depth_of (TwoBits b x y) = max (depth_of x) (depth_of y) + 1
depth_of (Paren x) = depth_of x + 1
