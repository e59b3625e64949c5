-- Trees of expressions: how each is written, and what its value is (8080 Assembly Language Programming Manual, "Arithmetic
-- and logical expressions"; the ranks of operators are this project's own).
use Rattle.std.specs.Prelude.{◌≡◌, ℕ, ◌+◌, ◌%◌, ◌<◌, ◌≤◌, max, List, [], ◌∷◌, ◌++◌, Option, Some, unwrap_or, ⊤}
use Rattle.sp_expr.specs.declared.setting.Setting.{Setting}
use Rattle.sp_expr.specs.declared.setting.Setting.TheVariants.{Statement}
use Rattle.sp_expr.specs.declared.word.Operator.{Operator}
use Rattle.sp_expr.specs.declared.word.Word.{Word}
use Rattle.sp_expr.specs.declared.word.Word.TheVariants as words
use Rattle.sp_expr.specs.Arithmetic.{applied, inverted, rank_of}
use Rattle.sp_expr.specs.Setting.{HasAddress, IsName}

pub data Tree : Type 0 where
  Number : ℕ → Tree
  Name : List ℕ → Tree
  Here : Tree
  Paren : Tree → Tree
  Sign : Operator → Tree → Tree
  Not : Tree → Tree
  Binary : Operator → Tree → Tree → Tree

-- the rank of a tree: a number, a name, `$` and parentheses 0, products and shifts 1, sums 2, NOT 3, AND 4, OR and XOR 5
abbrev pub rank_of_tree : Tree → ℕ
rank_of_tree (Number n) = 0
rank_of_tree (Name name) = 0
rank_of_tree Here = 0
rank_of_tree (Paren tree) = 0
rank_of_tree (Sign sign tree) = 2
rank_of_tree (Not tree) = 3
rank_of_tree (Binary operator left right) = rank_of operator

-- the grammar: operators of one rank go from the left, an operand has no looser rank, a sign stands before the first product
-- of a sum, and names and `$` are those of the setting
abbrev pub IsExpression : Setting → Tree → Type 0
IsExpression setting (Number n) = ⊤
IsExpression setting (Name name) = IsName setting name
IsExpression setting Here = HasAddress setting
IsExpression setting (Paren tree) = IsExpression setting tree
IsExpression setting (Sign sign tree) = (rank_of sign ≡ 2) × (rank_of_tree tree ≤ 1) × IsExpression setting tree
IsExpression setting (Not tree) = (rank_of_tree tree ≤ 3) × IsExpression setting tree
IsExpression setting (Binary operator left right) =
    (rank_of_tree left ≤ rank_of operator) × (rank_of_tree right < rank_of operator) × IsExpression setting left × IsExpression setting right

-- the words that a tree is written with
unfoldable pub spelling : Tree → List Word
spelling (Number n) = words.Number n ∷ []
spelling (Name name) = words.Name name ∷ []
spelling Here = words.Here ∷ []
spelling (Paren tree) = words.Open ∷ (spelling tree ++ words.Close ∷ [])
spelling (Sign sign tree) = words.Operator sign ∷ spelling tree
spelling (Not tree) = words.Not ∷ spelling tree
spelling (Binary operator left right) = spelling left ++ words.Operator operator ∷ spelling right

-- these words are an expression of this setting, and this is its tree
pub record SpellsIn (setting : Setting) (ws : List Word) (tree : Tree) : Type 0 where
  pub grammar : IsExpression setting tree
  pub whole : ws ≡ spelling tree

-- of statements
abbrev pub Spells : List Word → Tree → Type 0
Spells ws tree = SpellsIn Statement ws tree

-- how many parentheses and NOTs are nested
abbrev pub depth_of : Tree → ℕ
depth_of (Number n) = 0
depth_of (Name name) = 0
depth_of Here = 0
depth_of (Paren tree) = depth_of tree + 1
depth_of (Sign sign tree) = depth_of tree
depth_of (Not tree) = depth_of tree + 1
depth_of (Binary operator left right) = max (depth_of left) (depth_of right)

-- the value of a tree at an address, modulo 65,536, where each name has its value; none where a divisor is zero
abbrev pub value_of : (List ℕ → Option ℕ) → ℕ → Tree → Option ℕ
value_of names here (Number n) = Some (n % 65536)
value_of names here (Name name) = Some (unwrap_or (names name) 0 % 65536)
value_of names here Here = Some (here % 65536)
value_of names here (Paren tree) = value_of names here tree
value_of names here (Sign sign tree) = applied sign (Some 0) (value_of names here tree)
value_of names here (Not tree) = inverted (value_of names here tree)
value_of names here (Binary operator left right) = applied operator (value_of names here left) (value_of names here right)
