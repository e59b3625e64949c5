-- Which words are an expression, word by word.
use Rattle.std.specs.Prelude.{ℕ, zero, suc, ◌+◌, Bool, true, false, not, nat_le, ◌==◌, if◌then◌else◌, List, [], ◌∷◌, Option, Some, None}
use Rattle.sp_words.specs.code.Tables.{is_annotation_word}
use Rattle.sp_expr.specs.declared.setting.Setting.{Setting}
use Rattle.sp_expr.specs.declared.setting.Setting.TheVariants.{Statement, Annotation}
use Rattle.sp_expr.specs.declared.word.Word.{Word}
use Rattle.sp_expr.specs.declared.word.Word.TheVariants as words
use Rattle.sp_expr.specs.declared.sentence.Place.{Place}
use Rattle.sp_expr.specs.declared.sentence.Place.TheVariants.{Start, Operand, After}
use Rattle.sp_expr.specs.Arithmetic.{rank_of}

-- whether `$` may stand
abbrev pub has_address : Setting → Bool
has_address Statement = true
has_address Annotation = false

-- whether a word that isn't reserved is a name
abbrev pub is_name : Setting → List ℕ → Bool
is_name Statement word = true
is_name Annotation word = not (is_annotation_word word)

-- whether a word is an operand by itself
abbrev pub is_operand : Setting → Word → Bool
is_operand setting (words.Number n) = true
is_operand setting (words.Name name) = is_name setting name
is_operand setting words.Here = has_address setting
is_operand setting (words.Operator operator) = false
is_operand setting words.Not = false
is_operand setting words.Open = false
is_operand setting words.Close = false

-- the place after a word, and how many parentheses are open there; none where the word can't stand
abbrev pub next : Setting → Place → ℕ → Word → Option (Place × ℕ)
next setting After opened (words.Operator operator) = if nat_le (rank_of operator) 2 then Some (Operand, opened) else Some (Start, opened)
next setting After zero words.Close = None
next setting After (suc opened) words.Close = Some (After, opened)
next setting After opened words.Open = None
next setting After opened words.Not = None
next setting After opened words.Here = None
next setting After opened (words.Number n) = None
next setting After opened (words.Name name) = None
next setting Start opened (words.Operator operator) = if rank_of operator == 2 then Some (Operand, opened) else None
next setting Start opened words.Close = None
next setting Start opened words.Open = Some (Start, opened + 1)
next setting Start opened words.Not = Some (Start, opened)
next setting Start opened words.Here = if has_address setting then Some (After, opened) else None
next setting Start opened (words.Number n) = Some (After, opened)
next setting Start opened (words.Name name) = if is_name setting name then Some (After, opened) else None
next setting Operand opened (words.Operator operator) = None
next setting Operand opened words.Close = None
next setting Operand opened words.Open = Some (Start, opened + 1)
next setting Operand opened words.Not = None
next setting Operand opened words.Here = if has_address setting then Some (After, opened) else None
next setting Operand opened (words.Number n) = Some (After, opened)
next setting Operand opened (words.Name name) = if is_name setting name then Some (After, opened) else None

-- an expression ends after an operand, with no parenthesis open
abbrev pub ends : Place → ℕ → Bool
ends After opened = opened == 0
ends Start opened = false
ends Operand opened = false

-- whether words can follow at a place
unfoldable pub accepts_in : Setting → List Word → Option (Place × ℕ) → Bool
accepts_in setting ws None = false
accepts_in setting [] (Some at) = ends at.0 at.1
accepts_in setting (word ∷ ws) (Some at) = accepts_in setting ws (next setting at.0 at.1 word)

abbrev pub is_sentence_in : Setting → List Word → Bool
is_sentence_in setting ws = accepts_in setting ws (Some (Start, 0))

-- of statements
abbrev pub is_sentence : List Word → Bool
is_sentence ws = is_sentence_in Statement ws
