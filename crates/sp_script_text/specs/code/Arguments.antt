-- How the reader takes the arguments of steps. 104 is the ASCII code of h.
use Rattle.std.specs.Prelude.{ℕ, zero, suc, ℤ, ◌+◌, ◌-◌, Bool, true, false, ◌&&◌, not, nat_le, ◌==◌, if◌then◌else◌, List, [], ◌∷◌, codes, length, take, Option, Some, None}
use Rattle.sp_term.specs.declared.var.Var.{Var}
use Rattle.sp_term.specs.declared.var.Var.TheVariants as var
use Rattle.sp_term.specs.Tree.{Tree, Literal, Truth, Variable, Update, Equal, Less, LessOrEqual, Not, And, Or, Implies, Iff, ForAll, ForSome}
use Rattle.sp_fdl.specs.code.Tokens.{◌>>=◌, run_of, after_run}
use Rattle.sp_fdl.specs.code.Numbers.{name_number}
use Rattle.sp_fdl.specs.code.Reading.{read_of}
use Rattle.sp_script_text.specs.code.Words.{word_of, after_word, after_space, trim_end, last_word, before_last_word, is_word}

-- ---- The sort of a term, by its root

abbrev pub is_memory_name : Var → Bool
is_memory_name var.MemEntry = true
is_memory_name var.Mem = true
is_memory_name (var.MemAfter j) = true
is_memory_name (var.Entry x) = false
is_memory_name (var.Now x) = false
is_memory_name (var.After x j) = false
is_memory_name (var.In j) = false
is_memory_name (var.SlotHigh j) = false
is_memory_name (var.SlotLow j) = false
is_memory_name (var.Any j) = false
is_memory_name (var.Bound j) = false

abbrev pub is_memory : Tree → Bool
is_memory (Variable v) = is_memory_name v
is_memory (Update m x y) = true
is_memory _ = false

abbrev pub is_formula : Tree → Bool
is_formula (Truth b) = true
is_formula (Equal x y) = true
is_formula (Less x y) = true
is_formula (LessOrEqual x y) = true
is_formula (Not p) = true
is_formula (And p q) = true
is_formula (Or p q) = true
is_formula (Implies p q) = true
is_formula (Iff p q) = true
is_formula (ForAll k x y p) = true
is_formula (ForSome k x y p) = true
is_formula _ = false

abbrev pub is_int : Tree → Bool
is_int t = not (is_formula t) && not (is_memory t)

abbrev pub literal_at : Tree → Option ℤ
literal_at (Literal n) = Some n
literal_at _ = None

abbrev pub only : (Tree → Bool) → Tree → Option Tree
only test t = if test t then Some t else None

-- ---- Whole texts

unfoldable pub formula_of : List ℕ → Option Tree
formula_of text = read_of text >>= only is_formula

unfoldable pub int_of : List ℕ → Option Tree
int_of text = read_of text >>= only is_int

unfoldable pub memory_of : List ℕ → Option Tree
memory_of text = read_of text >>= only is_memory

unfoldable pub number_of : List ℕ → Option ℤ
number_of text = read_of text >>= literal_at

unfoldable pub hypothesis_of : List ℕ → Option ℕ
hypothesis_of [] = None
hypothesis_of (letter ∷ digits) = if letter == 104 then name_number digits else None

-- ---- The last argument, with the blanks before it

unfoldable pub last_formula : List ℕ → Option Tree
last_formula text = after_space text >>= formula_of

unfoldable pub last_int : List ℕ → Option Tree
last_int text = after_space text >>= int_of

unfoldable pub last_hypothesis : List ℕ → Option ℕ
last_hypothesis text = after_space text >>= hypothesis_of

-- ---- An argument with others after it, with the blanks before it

unfoldable pub next_hypothesis : List ℕ → Option (ℕ × List ℕ)
next_hypothesis text = after_space text >>= λ rest. hypothesis_of (word_of rest) >>= λ k. Some (k, after_word rest)

unfoldable pub next_number : List ℕ → Option (ℤ × List ℕ)
next_number text = after_space text >>= λ rest. number_of (word_of rest) >>= λ n. Some (n, after_word rest)

-- ---- A term and a number after it

unfoldable pub int_and_number : List ℕ → Option (Tree × ℤ)
int_and_number text = do
  rest ← after_space text
  x ← int_of (trim_end (before_last_word rest))
  n ← number_of (last_word rest)
  Some (x, n)

unfoldable pub memory_and_number : List ℕ → Option (Tree × ℤ)
memory_and_number text = do
  rest ← after_space text
  m ← memory_of (trim_end (before_last_word rest))
  n ← number_of (last_word rest)
  Some (m, n)

-- ---- A memory and a term after it. 40 and 41 are the parentheses

-- what follows the parenthesis that closes, after so many that are open
abbrev pub past_close : ℕ → List ℕ → Option (List ℕ)
past_close level [] = None
past_close level (byte ∷ bytes) =
    if byte == 40 then past_close (level + 1) bytes
    else (if byte == 41 then (if nat_le level 1 then Some bytes else past_close (level - 1) bytes)
    else past_close level bytes)

-- what follows a memory, which is a variable, and so a run, or `update` with its arguments in parentheses
unfoldable pub after_memory : List ℕ → Option (List ℕ)
after_memory text = if is_word (run_of text) (codes "update") then past_close 0 (after_run text) else Some (after_run text)

unfoldable pub memory_and_int : List ℕ → Option (Tree × Tree)
memory_and_int text = do
  both ← after_space text
  rest ← after_memory both
  m ← memory_of (take (length both - length rest) both)
  x ← last_int rest
  Some (m, x)

-- ---- Two hypotheses, and a hypothesis or a number with a term after it

unfoldable pub two_hypotheses : List ℕ → Option (ℕ × ℕ)
two_hypotheses text = do
  first ← next_hypothesis text
  j ← last_hypothesis first.1
  Some (first.0, j)

unfoldable pub hypothesis_and_int : List ℕ → Option (ℕ × Tree)
hypothesis_and_int text = do
  first ← next_hypothesis text
  x ← last_int first.1
  Some (first.0, x)

unfoldable pub number_and_int : List ℕ → Option (ℤ × Tree)
number_and_int text = do
  first ← next_number text
  x ← last_int first.1
  Some (first.0, x)

-- ---- Hypotheses with their multipliers

-- one of them, and what follows it
unfoldable pub next_named : List ℕ → Option ((ℤ × ℕ) × List ℕ)
next_named text = next_number text >>= λ first. next_hypothesis first.1 >>= λ second. Some ((first.0, second.0), second.1)

-- those at the front of a text with fewer bytes than the number
unfoldable pub named_within : ℕ → List ℕ → Option (List (ℤ × ℕ))
named_within zero text = None
named_within (suc n) [] = Some []
named_within (suc n) (byte ∷ bytes) = do
  first ← next_number (byte ∷ bytes)
  second ← next_hypothesis first.1
  more ← named_within n second.1
  Some ((first.0, second.0) ∷ more)

abbrev pub named_of : List ℕ → Option (List (ℤ × ℕ))
named_of text = named_within (length text + 1) text

-- ---- `back` at the end

unfoldable pub is_back : List ℕ → Option Bool
is_back [] = Some false
is_back (byte ∷ bytes) = after_space (byte ∷ bytes) >>= λ word. if is_word word (codes "back") then Some true else None
