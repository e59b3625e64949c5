-- The term that the reader takes from the front of a text, and what follows it.
use Rattle.std.specs.Borrow.{Bor}
use Rattle.std.specs.Prelude.{◌≡◌, ℕ, zero, suc, Bool, true, false, ◌==◌, ⊤, if◌then◌else◌, List, [], ◌∷◌, Option, Some, None, Result, Ok, Err, ℤ}
use Rattle.std.specs.List.{list_any}
use Rattle.std.specs.Char.{is_ascii_digit}
use Rattle.sp_term.specs.declared.var.Var.{Var}
use Rattle.sp_term.specs.declared.var.Var.TheVariants as var
use Rattle.sp_term.specs.Tree.{Tree, Literal, Truth, Variable, ByteAnd, ByteOr, ByteXor, Parity, Bit, Psw, If, Element, Update, Total, Not, ForAll, ForSome}
use Rattle.sp_fdl.specs.declared.sort.Sort.{Sort}
use Rattle.sp_fdl.specs.declared.sort.Sort.TheVariants as sort
use Rattle.sp_fdl.specs.declared.word.Word.{Word}
use Rattle.sp_fdl.specs.declared.word.Word.TheVariants as word
use Rattle.sp_fdl.specs.declared.word.Pairing.{Pairing}
use Rattle.sp_fdl.specs.declared.word.Pairing.TheVariants as pairs
use Rattle.sp_fdl.specs.declared.refusal.FdlRefusal.{FdlRefusal}
use Rattle.sp_fdl.specs.declared.refusal.FdlRefusal.TheVariants as refusal
use Rattle.sp_fdl.specs.declared.found.Found.{Found}
use Rattle.sp_fdl.specs.declared.operator.Sign.{Sign}
use Rattle.sp_fdl.specs.code.Tokens.{◌>>=◌, after_blanks, run_of, after_run, after_mark, after_dots}
use Rattle.sp_fdl.specs.code.Numbers.{literal, negative_literal}
use Rattle.sp_fdl.specs.code.Names.{is_word, word_of, variable_of, variable_sort, bound_number, bit_number}
use Rattle.sp_fdl.specs.code.Operators.{part_sort, whole_sort, operated, after_operator, Signed}

pub record Read : Type 0 where
  pub tree : Tree
  pub sort : Sort
  pub rest : List ℕ

abbrev pub read_as : Tree → Sort → List ℕ → Read
read_as t s text = record { tree = t; sort = s; rest = text }

-- what the code found, seen as trees
abbrev pub seen : Found → Read
seen found = record { tree = found.term.now; sort = found.sort; rest = found.rest.now }

-- an answer of the code is the right one, unless memory ran out
abbrev pub Answers : Result Found FdlRefusal → Option Read → Type 0
Answers (Ok found) right = right ≡ Some (seen found)
Answers (Err refusal.Syntax) right = right ≡ None
Answers (Err refusal.Memory) right = ⊤

abbrev pub AnswersTerm : Result (Bor Tree) FdlRefusal → Option Tree → Type 0
AnswersTerm (Ok t) right = right ≡ Some t.now
AnswersTerm (Err refusal.Syntax) right = right ≡ None
AnswersTerm (Err refusal.Memory) right = ⊤

abbrev pub seen_operator : Sign → Signed
seen_operator found = record { operator = found.operator; rest = found.rest.now }

-- what is read under these bound names
abbrev pub Reader : Type 0
Reader = List ℕ → List ℕ → Option Read

abbrev pub same_sort : Sort → Sort → Bool
same_sort sort.Int sort.Int = true
same_sort sort.Formula sort.Formula = true
same_sort sort.Memory sort.Memory = true
same_sort s r = false

abbrev pub of_sort : Sort → Read → Option Read
of_sort s found = if same_sort found.sort s then Some found else None

-- the function that a word names, and the quantifier
abbrev pub pairing : Pairing → Tree → Tree → Tree
pairing pairs.And x y = ByteAnd x y
pairing pairs.Or x y = ByteOr x y
pairing pairs.Xor x y = ByteXor x y

abbrev pub quantifying : Bool → ℕ → Tree → Tree → Tree → Tree
quantifying true k x y p = ForAll k x y p
quantifying false k x y p = ForSome k x y p

unfoldable pub part : Reader → List ℕ → Sort → List ℕ → Option Read
part r scope s text = r scope (after_blanks text) >>= of_sort s

unfoldable pub part_after : Reader → List ℕ → ℕ → Sort → List ℕ → Option Read
part_after r scope mark s text = after_mark mark text >>= part r scope s

-- a form that ends with the closing parenthesis
unfoldable pub closed : Tree → Sort → List ℕ → Option Read
closed t s text = after_mark 41 text >>= λ rest. Some (read_as t s rest)

-- [x]
unfoldable pub cell : Reader → List ℕ → List ℕ → Option Read
cell r scope text = do
  x ← part_after r scope 91 sort.Int text
  rest ← after_mark 93 x.rest
  Some (read_as x.tree x.sort rest)

unfoldable pub cell_after : Reader → List ℕ → List ℕ → Option Read
cell_after r scope text = after_mark 44 text >>= cell r scope

unfoldable pub negation : Reader → List ℕ → List ℕ → Option Read
negation r scope text = do
  p ← part r scope sort.Formula text
  closed (Not p.tree) sort.Formula p.rest

-- after the left part and the operator
unfoldable pub second : Reader → List ℕ → Read → Signed → Option Read
second r scope x found = do
  left ← of_sort (part_sort found.operator) x
  y ← part r scope (part_sort found.operator) found.rest
  closed (operated found.operator left.tree y.tree) (whole_sort found.operator) y.rest

unfoldable pub joined : Reader → List ℕ → List ℕ → Option Read
joined r scope text = do
  x ← r scope text
  found ← after_operator x.rest
  second r scope x found

unfoldable pub grouped : Reader → List ℕ → List ℕ → Option Read
grouped r scope text =
    if is_word (run_of text) (110 ∷ 111 ∷ 116 ∷ []) then negation r scope (after_run text) else joined r scope text

unfoldable pub pair : Reader → List ℕ → Pairing → List ℕ → Option Read
pair r scope which text = do
  x ← part_after r scope 40 sort.Int text
  y ← part_after r scope 44 sort.Int x.rest
  closed (pairing which x.tree y.tree) sort.Int y.rest

unfoldable pub parity : Reader → List ℕ → List ℕ → Option Read
parity r scope text = do
  x ← part_after r scope 40 sort.Int text
  closed (Parity x.tree) sort.Int x.rest

unfoldable pub bit : Reader → List ℕ → List ℕ → Option Read
bit r scope text = do
  inner ← after_mark 40 text
  k ← bit_number (run_of (after_blanks inner))
  x ← part_after r scope 44 sort.Int (after_run (after_blanks inner))
  closed (Bit k x.tree) sort.Int x.rest

unfoldable pub flags : Reader → List ℕ → List ℕ → Option Read
flags r scope text = do
  s ← part_after r scope 40 sort.Int text
  z ← part_after r scope 44 sort.Int s.rest
  ac ← part_after r scope 44 sort.Int z.rest
  p ← part_after r scope 44 sort.Int ac.rest
  cy ← part_after r scope 44 sort.Int p.rest
  closed (Psw s.tree z.tree ac.tree p.tree cy.tree) sort.Int cy.rest

unfoldable pub choice : Reader → List ℕ → List ℕ → Option Read
choice r scope text = do
  p ← part_after r scope 40 sort.Formula text
  x ← part_after r scope 44 sort.Int p.rest
  y ← part_after r scope 44 sort.Int x.rest
  closed (If p.tree x.tree y.tree) sort.Int y.rest

unfoldable pub element : Reader → List ℕ → List ℕ → Option Read
element r scope text = do
  m ← part_after r scope 40 sort.Memory text
  x ← cell_after r scope m.rest
  closed (Element m.tree x.tree) sort.Int x.rest

unfoldable pub update : Reader → List ℕ → List ℕ → Option Read
update r scope text = do
  m ← part_after r scope 40 sort.Memory text
  x ← cell_after r scope m.rest
  y ← part_after r scope 44 sort.Int x.rest
  closed (Update m.tree x.tree y.tree) sort.Memory y.rest

unfoldable pub total : Reader → List ℕ → List ℕ → Option Read
total r scope text = do
  m ← part_after r scope 40 sort.Memory text
  x ← cell_after r scope m.rest
  y ← cell_after r scope x.rest
  closed (Total m.tree x.tree y.tree) sort.Int y.rest

unfoldable pub bound : Reader → List ℕ → Bool → ℕ → List ℕ → Option Read
bound r scope all k text = do
  x ← part_after r scope 58 sort.Int text
  second ← after_dots x.rest
  y ← part r scope sort.Int second
  p ← part_after r (k ∷ scope) 44 sort.Formula y.rest
  closed (quantifying all k x.tree y.tree p.tree) sort.Formula p.rest

unfoldable pub quantifier : Reader → List ℕ → Bool → List ℕ → Option Read
quantifier r scope all text = do
  inner ← after_mark 40 text
  k ← bound_number (run_of (after_blanks inner))
  bound r scope all k (after_run (after_blanks inner))

abbrev pub number_part : Option ℤ → List ℕ → Option Read
number_part None rest = None
number_part (Some n) rest = Some (read_as (Literal n) sort.Int rest)

-- a variable; a bound one is among the names
abbrev pub in_scope : List ℕ → Var → List ℕ → Option Read
in_scope scope (var.Bound k) rest = if list_any (λ j. j == k) scope then Some (read_as (Variable (var.Bound k)) sort.Int rest) else None
in_scope scope v rest = Some (read_as (Variable v) (variable_sort v) rest)

unfoldable pub variable_part : List ℕ → List ℕ → List ℕ → Option Read
variable_part scope run rest = variable_of run >>= λ v. in_scope scope v rest

-- a literal or a variable
unfoldable pub plain : List ℕ → List ℕ → List ℕ → Option Read
plain scope [] rest = None
plain scope (first ∷ run) rest =
    if is_ascii_digit first then number_part (literal (first ∷ run)) rest else variable_part scope (first ∷ run) rest

abbrev pub worded : Reader → List ℕ → Option Word → List ℕ → List ℕ → Option Read
worded r scope None run rest = plain scope run rest
worded r scope (Some word.True) run rest = Some (read_as (Truth true) sort.Formula rest)
worded r scope (Some word.False) run rest = Some (read_as (Truth false) sort.Formula rest)
worded r scope (Some word.And) run rest = pair r scope pairs.And rest
worded r scope (Some word.Or) run rest = pair r scope pairs.Or rest
worded r scope (Some word.Xor) run rest = pair r scope pairs.Xor rest
worded r scope (Some word.Parity) run rest = parity r scope rest
worded r scope (Some word.Bit) run rest = bit r scope rest
worded r scope (Some word.Flags) run rest = flags r scope rest
worded r scope (Some word.If) run rest = choice r scope rest
worded r scope (Some word.Element) run rest = element r scope rest
worded r scope (Some word.Update) run rest = update r scope rest
worded r scope (Some word.Total) run rest = total r scope rest
worded r scope (Some word.ForAll) run rest = quantifier r scope true rest
worded r scope (Some word.ForSome) run rest = quantifier r scope false rest

unfoldable pub named : Reader → List ℕ → List ℕ → List ℕ → Option Read
named r scope run rest = worded r scope (word_of run) run rest

-- a form by its first byte: 40 is the opening parenthesis
unfoldable pub form : Reader → List ℕ → List ℕ → Option Read
form r scope [] = None
form r scope (first ∷ text) =
    if first == 40 then grouped r scope (after_blanks text)
    else (if first == 45 then number_part (negative_literal (run_of text)) (after_run text)
    else named r scope (run_of (first ∷ text)) (after_run (first ∷ text)))

-- a term of this depth at most
unfoldable pub read_at : ℕ → Reader
read_at zero scope text = None
read_at (suc depth) scope text = form (read_at depth) scope text

-- a whole text
abbrev pub whole : Tree → List ℕ → Option Tree
whole t [] = Some t
whole t (byte ∷ rest) = None

unfoldable pub read_of : List ℕ → Option Tree
read_of text = read_at 2000 [] text >>= λ found. whole found.tree found.rest
