-- What is answered of tokens that may be an expression, and of an expression's value.
use Rattle.std.specs.Prelude.{◌≡◌, ℕ, ◌<◌, ◌≤◌, List, Option, Some, None, Result, Ok, Err, ⊤}
use Rattle.sp_expr.specs.declared.refusal.ParseRefusal.{ParseRefusal}
use Rattle.sp_expr.specs.declared.refusal.ParseRefusal.TheVariants.{Syntax, TooDeep, Memory}
use Rattle.sp_expr.specs.declared.refusal.ExprRefusal.{ExprRefusal}
use Rattle.sp_expr.specs.declared.refusal.ExprRefusal.TheVariants.{Undefined, ZeroDivisor}
use Rattle.sp_expr.specs.declared.setting.Setting.{Setting}
use Rattle.sp_expr.specs.declared.setting.Setting.TheVariants.{Statement}
use Rattle.sp_expr.specs.declared.word.Word.{Word}
use Rattle.sp_expr.specs.Trees.{Tree, SpellsIn, depth_of}

-- how many parentheses and NOTs may be nested (this project's own)
abbrev pub limit : ℕ
limit = 64

-- these words have a tree that keeps to the limit
abbrev pub IsWithin : Setting → List Word → Type 0
IsWithin setting ws = (t : Tree) × SpellsIn setting ws t × (depth_of t ≤ limit)

-- these words have a tree that nests deeper
abbrev pub IsTooDeep : Setting → List Word → Type 0
IsTooDeep setting ws = (t : Tree) × SpellsIn setting ws t × (limit < depth_of t)

-- what is answered of tokens that stand for these words, where they stand for any: the words where they have a tree within
-- the limit, TooDeep where they have one that nests deeper, and Syntax where they have none
abbrev pub AnswersParseIn : Setting → Result (List Word) ParseRefusal → Option (List Word) → Type 0
AnswersParseIn setting (Ok ws) words = (words ≡ Some ws) × IsWithin setting ws
AnswersParseIn setting (Err TooDeep) words = (ws : List Word) × (words ≡ Some ws) × IsTooDeep setting ws
AnswersParseIn setting (Err Syntax) words = (ws : List Word) (t : Tree) → words ≡ Some ws → SpellsIn setting ws t → ⊥
AnswersParseIn setting (Err Memory) words = ⊤

-- of statements
abbrev pub AnswersParse : Result (List Word) ParseRefusal → Option (List Word) → Type 0
AnswersParse answer words = AnswersParseIn Statement answer words

-- the value, or why there is none: the leftmost name without a value comes before a zero divisor
abbrev pub outcome : Option (List ℕ) → Option ℕ → Result ℕ ExprRefusal
outcome (Some name) value = Err (Undefined name)
outcome None (Some value) = Ok value
outcome None None = Err ZeroDivisor
