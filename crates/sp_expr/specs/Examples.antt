-- Small expressions, each beside one that differs in one thing.
use Rattle.std.specs.Prelude.{◌≡◌, ℕ, zero, suc, ◌<◌, ◌≤◌, nat_eq, if◌then◌else◌, List, [], ◌∷◌, Option, Some, None, Ok, Err, codes, replicate}
use Rattle.std.specs.Cmp.Lexicographic.{pointwise}
use Rattle.sp_lex.specs.declared.token.TokenKind.TheVariants as token
use Rattle.sp_expr.specs.declared.refusal.ExprRefusal.TheVariants.{Undefined, ZeroDivisor}
use Rattle.sp_expr.specs.declared.setting.Setting.TheVariants.{Statement, Annotation}
use Rattle.sp_expr.specs.declared.word.Operator.{Operator}
use Rattle.sp_expr.specs.declared.word.Operator.TheVariants.{Times, Divide, Modulo, ShiftLeft, ShiftRight, Plus, Minus, And, Or, Xor}
use Rattle.sp_expr.specs.declared.word.Word.TheVariants as words
use Rattle.sp_expr.specs.Arithmetic.{combined}
use Rattle.sp_expr.specs.Parsing.{limit, outcome}
use Rattle.sp_expr.specs.Trees.{Tree, Number, Name, Here, Paren, Sign, Not, Binary, IsExpression, spelling, depth_of, value_of}
use Rattle.sp_expr.specs.Undefined.{first_undefined}
use Rattle.sp_expr.specs.Words.{word_of}

-- operators on numbers of sixteen bits
pub record OperatorsByExample : Type 0 where
  pub product : combined Times 300 3 ≡ Some 900
  pub large_product : combined Times 300 300 ≡ Some 24464
  pub quotient : combined Divide 17 5 ≡ Some 3
  pub no_quotient : combined Divide 17 0 ≡ None
  pub remainder : combined Modulo 17 5 ≡ Some 2
  pub no_remainder : combined Modulo 17 0 ≡ None
  pub left : combined ShiftLeft 3 14 ≡ Some 49152
  pub left_over : combined ShiftLeft 3 15 ≡ Some 32768
  pub left_out : combined ShiftLeft 3 16 ≡ Some 0
  pub right : combined ShiftRight 65535 14 ≡ Some 3
  pub right_last : combined ShiftRight 65535 15 ≡ Some 1
  pub right_out : combined ShiftRight 65535 16 ≡ Some 0
  pub sum : combined Plus 65534 1 ≡ Some 65535
  pub large_sum : combined Plus 65535 1 ≡ Some 0
  pub difference : combined Minus 5 3 ≡ Some 2
  pub negative : combined Minus 3 5 ≡ Some 65534
  pub both : combined And 12 10 ≡ Some 8
  pub either : combined Or 12 10 ≡ Some 14
  pub one : combined Xor 12 10 ≡ Some 6

abbrev pub one : Tree
one = Number 1

-- numbers with operators between them, from the left
abbrev pub chain : Tree → List Operator → Tree
chain left [] = left
chain left (operator ∷ operators) = chain (Binary operator left one) operators

-- which trees are expressions: operators of one rank from the left, in any order, and operands of tighter ranks
pub record RanksByExample : Type 0 where
  pub products : IsExpression Statement (chain one (Times ∷ Divide ∷ Modulo ∷ ShiftLeft ∷ ShiftRight ∷ Times ∷ []))
  pub sums : IsExpression Statement (chain one (Plus ∷ Minus ∷ Plus ∷ []))
  pub alternatives : IsExpression Statement (chain one (Or ∷ Xor ∷ Or ∷ []))
  pub from_right : ¬ IsExpression Statement (Binary Minus one (Binary Minus one one))
  pub product_in_sum : IsExpression Statement (Binary Plus one (Binary Times one one))
  pub sum_in_product : ¬ IsExpression Statement (Binary Times (Binary Plus one one) one)
  pub parenthesis_in_product : IsExpression Statement (Binary Times (Paren (Binary Plus one one)) one)
  pub not_of_sum : IsExpression Statement (Not (Binary Minus one one))
  pub not_of_not : IsExpression Statement (Not (Not one))
  pub not_in_sum : ¬ IsExpression Statement (Binary Plus one (Not one))
  pub not_in_and : IsExpression Statement (Binary And (Not one) (Not one))
  pub and_in_not : ¬ IsExpression Statement (Not (Binary And one one))
  pub and_in_or : IsExpression Statement (Binary Or one (Binary And one one))
  pub and_in_xor : IsExpression Statement (Binary Xor one (Binary And one one))
  pub or_in_and : ¬ IsExpression Statement (Binary And (Binary Or one one) one)
  pub xor_in_and : ¬ IsExpression Statement (Binary And (Binary Xor one one) one)

-- a sign stands before the first product of a sum, and there is one at most
pub record SignsByExample : Type 0 where
  pub plus : IsExpression Statement (Sign Plus one)
  pub minus : IsExpression Statement (Sign Minus one)
  pub times : ¬ IsExpression Statement (Sign Times one)
  pub of_product : IsExpression Statement (Sign Minus (Binary Divide one one))
  pub of_sum : ¬ IsExpression Statement (Sign Minus (Binary Plus one one))
  pub before_sum : IsExpression Statement (Binary Plus (Sign Minus one) one)
  pub after_operator : ¬ IsExpression Statement (Binary Plus one (Sign Minus one))
  pub after_times : ¬ IsExpression Statement (Binary Times one (Sign Minus one))
  pub after_not : IsExpression Statement (Not (Sign Minus one))
  pub twice : ¬ IsExpression Statement (Sign Minus (Sign Minus one))

-- `$` and names, where they stand
pub record SettingsByExample : Type 0 where
  pub address : IsExpression Statement (Binary Plus Here one)
  pub no_address : ¬ IsExpression Annotation (Binary Plus Here one)
  pub name : IsExpression Annotation (Paren (Name (codes "LENS")))
  pub word : ¬ IsExpression Annotation (Paren (Name (codes "LEN")))
  pub name_of_statement : IsExpression Statement (Paren (Name (codes "LEN")))

-- how trees are written, and how deep they nest
pub record SpellingsByExample : Type 0 where
  pub leaves : spelling (Binary Plus (Number 7) (Binary Times (Name (codes "X")) Here)) ≡ words.Number 7 ∷ words.Operator Plus ∷ words.Name (codes "X") ∷ words.Operator Times ∷ words.Here ∷ []
  pub prefixes : spelling (Not (Sign Minus (Paren one))) ≡ words.Not ∷ words.Operator Minus ∷ words.Open ∷ words.Number 1 ∷ words.Close ∷ []
  pub signs_are_flat : depth_of (Sign Minus (Binary Plus one one)) ≡ 0
  pub nots_nest : depth_of (Not (Not one)) ≡ 2
  pub side_by_side : depth_of (Binary Plus (Paren one) (Paren (Paren one))) ≡ 2

abbrev pub wrapped : ℕ → Tree
wrapped zero = one
wrapped (suc n) = Paren (wrapped n)

-- 64 parentheses are within the limit, 65 aren't
pub record LimitByExample : Type 0 where
  pub within : depth_of (wrapped 64) ≤ limit
  pub over : limit < depth_of (wrapped 65)

-- a name with the value 5
abbrev pub five : List ℕ → Option ℕ
five name = if pointwise nat_eq name (codes "FIVE") then Some 5 else None

abbrev pub FIVE : Tree
FIVE = Name (codes "FIVE")

-- values at the address 100, FIVE being 5
pub record ValuesByExample : Type 0 where
  pub number : value_of five 100 (Number 65535) ≡ Some 65535
  pub large_number : value_of five 100 (Number 65537) ≡ Some 1
  pub name : value_of five 100 (Paren FIVE) ≡ Some 5
  pub address : value_of five 100 Here ≡ Some 100
  pub minus : value_of five 100 (Sign Minus FIVE) ≡ Some 65531
  pub plus : value_of five 100 (Sign Plus FIVE) ≡ Some 5
  pub inverted : value_of five 100 (Not FIVE) ≡ Some 65530
  pub difference : value_of five 100 (Binary Minus Here FIVE) ≡ Some 95
  pub no_divisor : value_of five 100 (Binary Times (Number 0) (Not (Binary Divide one (Number 0)))) ≡ None

-- which name is undefined, and what comes first
pub record RefusalsByExample : Type 0 where
  pub none : first_undefined five (words.Name (codes "FIVE") ∷ words.Here ∷ []) ≡ None
  pub leftmost : first_undefined five (words.Name (codes "FIVE") ∷ words.Name (codes "X") ∷ words.Name (codes "Y") ∷ []) ≡ Some (codes "X")
  pub undefined : outcome (first_undefined five (spelling (Binary Divide one (Name (codes "X"))))) (value_of five 100 (Binary Divide one (Name (codes "X")))) ≡ Err (Undefined (codes "X"))
  pub divisor : outcome (first_undefined five (spelling (Binary Divide one (Number 0)))) (value_of five 100 (Binary Divide one (Number 0))) ≡ Err ZeroDivisor
  pub value : outcome (first_undefined five (spelling (Binary Divide FIVE one))) (value_of five 100 (Binary Divide FIVE one)) ≡ Ok 5

-- what single tokens stand for
pub record TokensByExample : Type 0 where
  pub number : word_of token.Number (codes "0BH") ≡ Some (words.Number 11)
  pub large_number : word_of token.Number (codes "65537") ≡ Some (words.Number 1)
  pub no_number : word_of token.Number (codes "9223372036854775808") ≡ None
  pub character : word_of token.Text (codes "'A'") ≡ Some (words.Number 65)
  pub quote : word_of token.Text (codes "''''") ≡ Some (words.Number 39)
  pub no_character : word_of token.Text (codes "''") ≡ None
  pub two_characters : word_of token.Text (codes "'AB'") ≡ None
  pub address : word_of token.Symbol (codes "$") ≡ Some words.Here
  pub opens : word_of token.Symbol (codes "(") ≡ Some words.Open
  pub closes : word_of token.Symbol (codes ")") ≡ Some words.Close
  pub plus : word_of token.Symbol (codes "+") ≡ Some (words.Operator Plus)
  pub minus : word_of token.Symbol (codes "-") ≡ Some (words.Operator Minus)
  pub times : word_of token.Symbol (codes "*") ≡ Some (words.Operator Times)
  pub divide : word_of token.Symbol (codes "/") ≡ Some (words.Operator Divide)
  pub comma : word_of token.Symbol (codes ",") ≡ None
  pub modulo : word_of token.Name (codes "mod") ≡ Some (words.Operator Modulo)
  pub left : word_of token.Name (codes "SHL") ≡ Some (words.Operator ShiftLeft)
  pub right : word_of token.Name (codes "SHR") ≡ Some (words.Operator ShiftRight)
  pub inverse : word_of token.Name (codes "NOT") ≡ Some words.Not
  pub both : word_of token.Name (codes "AND") ≡ Some (words.Operator And)
  pub either : word_of token.Name (codes "OR") ≡ Some (words.Operator Or)
  pub one : word_of token.Name (codes "XOR") ≡ Some (words.Operator Xor)
  pub name : word_of token.Name (codes "five") ≡ Some (words.Name (codes "FIVE"))
  pub mnemonic : word_of token.Name (codes "mov") ≡ None
  pub register : word_of token.Name (codes "A") ≡ None
  pub long_name : word_of token.Name (replicate 31 88) ≡ Some (words.Name (replicate 31 88))
  pub longer_name : word_of token.Name (replicate 32 88) ≡ None
