-- Reading an expression from left to right for its value.
use Rattle.std.specs.Prelude.{ℕ, ◌+◌, ◌-◌, ◌%◌, Bool, true, false, ◌&&◌, nat_lt, if◌then◌else◌, List, [], ◌∷◌, ◌++◌, length, take, slice_index_or, Option, Some, unwrap_or}
use Rattle.sp_expr.specs.declared.word.Operator.{Operator}
use Rattle.sp_expr.specs.declared.word.Word.{Word}
use Rattle.sp_expr.specs.declared.word.Word.TheVariants as words
use Rattle.sp_expr.specs.declared.level.Level.{Level}
use Rattle.sp_expr.specs.code.Level.{empty, value_with, after_operator, after_sign, after_not}

-- what waits between the parentheses here and outside them, the last operand, and whether an operand was the last word
pub record State : Type 0 where
  pub level : Level
  pub outer : List Level
  pub operand : Option ℕ
  pub after : Bool

abbrev pub state : Level → List Level → Option ℕ → Bool → State
state level outer operand after = record { level = level; outer = outer; operand = operand; after = after }

abbrev pub start : State
start = state empty [] (Some 0) false

abbrev pub with_operand : State → Option ℕ → State
with_operand s operand = state s.level s.outer operand true

abbrev pub with_operator : State → Operator → State
with_operator s operator =
    if s.after then state (after_operator operator s.level s.operand) s.outer s.operand false else state (after_sign operator s.level) s.outer s.operand false

abbrev pub closed : State → State
closed s = state (slice_index_or s.outer (length s.outer - 1) empty) (take (length s.outer - 1) s.outer) (value_with s.level s.operand) true

-- the state after a word
abbrev pub step : (List ℕ → Option ℕ) → ℕ → State → Word → State
step names here s (words.Number n) = with_operand s (Some (n % 65536))
step names here s (words.Name name) = with_operand s (Some (unwrap_or (names name) 0 % 65536))
step names here s words.Here = with_operand s (Some (here % 65536))
step names here s (words.Operator operator) = with_operator s operator
step names here s words.Not = state (after_not s.level) s.outer s.operand s.after
step names here s words.Open = state empty (s.outer ++ s.level ∷ []) s.operand false
step names here s words.Close = closed s

unfoldable pub run : (List ℕ → Option ℕ) → ℕ → State → List Word → State
run names here s [] = s
run names here s (word ∷ ws) = run names here (step names here s word) ws

abbrev pub finished : State → Option ℕ
finished s = value_with s.level s.operand

-- whether at most 64 parentheses are opened at once, these many being opened before the words
unfoldable pub fits : ℕ → List Word → Bool
fits opened [] = true
fits opened (words.Open ∷ ws) = nat_lt opened 64 && fits (opened + 1) ws
fits opened (words.Close ∷ ws) = fits (opened - 1) ws
fits opened (words.Not ∷ ws) = fits opened ws
fits opened (words.Here ∷ ws) = fits opened ws
fits opened (words.Operator operator ∷ ws) = fits opened ws
fits opened (words.Number n ∷ ws) = fits opened ws
fits opened (words.Name name ∷ ws) = fits opened ws
