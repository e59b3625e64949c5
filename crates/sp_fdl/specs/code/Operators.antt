-- How the reader takes operators.
use Rattle.std.specs.Prelude.{◌≡◌, ℕ, ◌==◌, if◌then◌else◌, List, [], ◌∷◌, codes, Option, Some, None, Result, Ok, Err}
use Rattle.sp_term.specs.Tree.{Tree, Add, Subtract, Multiply, Divide, Remainder, Equal, Less, LessOrEqual, And, Or, Implies, Iff}
use Rattle.sp_fdl.specs.declared.refusal.FdlRefusal.{FdlRefusal}
use Rattle.sp_fdl.specs.declared.refusal.FdlRefusal.TheVariants as refusal
use Rattle.sp_fdl.specs.declared.sort.Sort.{Sort}
use Rattle.sp_fdl.specs.declared.sort.Sort.TheVariants as sort
use Rattle.sp_fdl.specs.declared.operator.Operator.{Operator}
use Rattle.sp_fdl.specs.declared.operator.Sign.{Sign}
use Rattle.sp_fdl.specs.declared.operator.Operator.TheVariants as operator
use Rattle.sp_fdl.specs.code.Tokens.{◌>>=◌, after_blanks, run_of, after_run}
use Rattle.sp_fdl.specs.code.Names.{is_word}

abbrev pub part_sort : Operator → Sort
part_sort operator.Add = sort.Int
part_sort operator.Subtract = sort.Int
part_sort operator.Multiply = sort.Int
part_sort operator.Divide = sort.Int
part_sort operator.Remainder = sort.Int
part_sort operator.Equal = sort.Int
part_sort operator.Less = sort.Int
part_sort operator.LessOrEqual = sort.Int
part_sort operator.And = sort.Formula
part_sort operator.Or = sort.Formula
part_sort operator.Implies = sort.Formula
part_sort operator.Iff = sort.Formula

abbrev pub whole_sort : Operator → Sort
whole_sort operator.Add = sort.Int
whole_sort operator.Subtract = sort.Int
whole_sort operator.Multiply = sort.Int
whole_sort operator.Divide = sort.Int
whole_sort operator.Remainder = sort.Int
whole_sort operator.Equal = sort.Formula
whole_sort operator.Less = sort.Formula
whole_sort operator.LessOrEqual = sort.Formula
whole_sort operator.And = sort.Formula
whole_sort operator.Or = sort.Formula
whole_sort operator.Implies = sort.Formula
whole_sort operator.Iff = sort.Formula

abbrev pub operated : Operator → Tree → Tree → Tree
operated operator.Add x y = Add x y
operated operator.Subtract x y = Subtract x y
operated operator.Multiply x y = Multiply x y
operated operator.Divide x y = Divide x y
operated operator.Remainder x y = Remainder x y
operated operator.Equal x y = Equal x y
operated operator.Less x y = Less x y
operated operator.LessOrEqual x y = LessOrEqual x y
operated operator.And x y = And x y
operated operator.Or x y = Or x y
operated operator.Implies x y = Implies x y
operated operator.Iff x y = Iff x y

-- an operator, and what follows it
pub record Signed : Type 0 where
  pub operator : Operator
  pub rest : List ℕ

-- what the code found, seen as lists
abbrev pub seen_sign : Option Sign → Option Signed
seen_sign None = None
seen_sign (Some found) = Some (record { operator = found.operator; rest = found.rest.now })

abbrev pub GivesSign : Result Sign FdlRefusal → Option Signed → Type 0
GivesSign (Ok found) right = right ≡ Some (record { operator = found.operator; rest = found.rest.now })
GivesSign (Err refusal.Syntax) right = right ≡ None
GivesSign (Err refusal.Memory) right = ⊥

abbrev pub signed : Operator → List ℕ → Option Signed
signed o rest = Some (record { operator = o; rest = rest })

-- after `-`, and after `<`, the longest sign
abbrev pub from_minus : List ℕ → Option Signed
from_minus [] = signed operator.Subtract []
from_minus (next ∷ rest) = if next == 62 then signed operator.Implies rest else signed operator.Subtract (next ∷ rest)

abbrev pub from_arrow : ℕ → List ℕ → Option Signed
from_arrow next [] = signed operator.Less (next ∷ [])
from_arrow next (last ∷ rest) = if last == 62 then signed operator.Iff rest else signed operator.Less (next ∷ last ∷ rest)

abbrev pub from_less : List ℕ → Option Signed
from_less [] = signed operator.Less []
from_less (next ∷ rest) =
    if next == 45 then from_arrow next rest else (if next == 61 then signed operator.LessOrEqual rest else signed operator.Less (next ∷ rest))

unfoldable pub sign_operator : List ℕ → Option Signed
sign_operator [] = None
sign_operator (first ∷ rest) =
    if first == 60 then from_less rest
    else (if first == 45 then from_minus rest
    else (if first == 43 then signed operator.Add rest
    else (if first == 42 then signed operator.Multiply rest
    else (if first == 61 then signed operator.Equal rest
    else None))))

unfoldable pub word_operator : List ℕ → Option Operator
word_operator run =
    if is_word run (codes "div") then Some operator.Divide
    else (if is_word run (codes "mod") then Some operator.Remainder
    else (if is_word run (codes "and") then Some operator.And
    else (if is_word run (codes "or") then Some operator.Or
    else None)))

-- the operator at the front of a text that begins with this run
abbrev pub from_run : List ℕ → List ℕ → List ℕ → Option Signed
from_run [] rest text = sign_operator text
from_run (first ∷ run) rest text = word_operator (first ∷ run) >>= λ o. signed o rest

unfoldable pub operator_at : List ℕ → Option Signed
operator_at text = from_run (run_of text) (after_run text) text

abbrev pub after_operator : List ℕ → Option Signed
after_operator text = operator_at (after_blanks text)
