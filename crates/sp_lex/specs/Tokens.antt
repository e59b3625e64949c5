-- Tokens as they are written (8080 Assembly Language Programming Manual, "Assembly language instruction format"; names of at
-- most 31 characters and the symbols of annotation lines are this project's own). Numbers are ASCII codes: 39 is the quote.
use Rattle.std.specs.Prelude.{◌≡◌, ◌⊎◌, ℕ, ◌≤◌, Bool, true, false, ◌==◌, nat_eq, IsTrue, IsSome, List, [], ◌∷◌, ◌++◌, length, codes}
use Rattle.std.specs.Cmp.Lexicographic.{pointwise}
use Rattle.std.specs.List.{list_all, list_any}
use Rattle.std.specs.Char.{is_ascii_digit, is_ascii_alphanumeric}
use Rattle.sp_lex.specs.declared.token.TokenKind.{TokenKind}
use Rattle.sp_lex.specs.declared.token.TokenKind.TheVariants.{Name, Number, Text, Symbol}
use Rattle.sp_lex.specs.Bytes.{is_name_start, is_name_byte, is_plain}
use Rattle.sp_lex.specs.Numbers.{number_of, at_most, limit_of}
use Rattle.sp_lex.specs.Texts.{text_of}

-- a letter, @ or ?, and further letters, digits, @ and ?
abbrev pub IsWord : List ℕ → Type 0
IsWord [] = ⊥
IsWord (first ∷ rest) = IsTrue (is_name_start first) × IsTrue (list_all is_name_byte rest)

-- a digit, and all letters and digits after it
abbrev pub IsNumeral : List ℕ → Type 0
IsNumeral [] = ⊥
IsNumeral (first ∷ rest) = IsTrue (is_ascii_digit first) × IsTrue (list_all is_ascii_alphanumeric rest)

-- a quote, characters, each quote among them written twice, and a quote
abbrev pub IsQuoted : List ℕ → Type 0
IsQuoted text = (characters : List ℕ) × (text ≡ text_of characters)

-- the symbols of one byte: those of annotation lines, and those of other lines
abbrev pub marks : Bool → List ℕ
marks true = codes "$:,+-*/()[]~=<>"
marks false = codes "$:,+-*/()"

abbrev pub is_mark : Bool → ℕ → Bool
is_mark annotation byte = list_any (λ mark. mark == byte) (marks annotation)

-- the symbols of more than one byte, which stand on annotation lines alone
abbrev pub long_symbols : List (List ℕ)
long_symbols = codes "<->" ∷ codes "<=" ∷ codes ">=" ∷ codes "<>" ∷ codes "->" ∷ codes ".." ∷ []

abbrev pub is_long_symbol : List ℕ → Bool
is_long_symbol text = list_any (λ symbol. pointwise nat_eq symbol text) long_symbols

-- a symbol of an annotation line or of another line
abbrev pub IsSymbol : Bool → List ℕ → Type 0
IsSymbol annotation text =
    ((mark : ℕ) × IsTrue (is_mark annotation mark) × (text ≡ mark ∷ []))
    ⊎ (IsTrue annotation × IsTrue (is_long_symbol text))

-- how a token of each kind looks; a word may be too long for a name, and a numeral need not have a value
abbrev pub HasForm : Bool → TokenKind → List ℕ → Type 0
HasForm annotation Name text = IsWord text
HasForm annotation Number text = IsNumeral text
HasForm annotation Text text = IsQuoted text
HasForm annotation Symbol text = IsSymbol annotation text

-- of all tokens that bytes begin with this one is the longest, and these bytes stand after it
pub record IsLongest (annotation : Bool) (kind : TokenKind) (text rest : List ℕ) : Type 0 where
  pub form : HasForm annotation kind text
  pub longest : (k : TokenKind) (other after : List ℕ) → other ++ after ≡ text ++ rest → HasForm annotation k other
      → length other ≤ length text

abbrev pub BeginsNoToken : Bool → List ℕ → Type 0
BeginsNoToken annotation bytes = (kind : TokenKind) (text rest : List ℕ) → text ++ rest ≡ bytes → ¬ HasForm annotation kind text

-- a token that breaks no rule: a name is short, a number has a value, and a text has printed characters and tabs alone
abbrev pub IsToken : Bool → TokenKind → List ℕ → Type 0
IsToken annotation Name text = IsWord text × (length text ≤ 31)
IsToken annotation Number text = IsNumeral text × IsSome (at_most (limit_of annotation) (number_of text))
IsToken annotation Text text = IsQuoted text × IsTrue (list_all is_plain text)
IsToken annotation Symbol text = IsSymbol annotation text
