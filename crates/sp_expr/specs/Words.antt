-- The words of an expression, and the tokens that stand for them (8080 Assembly Language Programming Manual, "Operand field"
-- and "Arithmetic and logical expressions").
use Rattle.std.specs.Prelude.{ℕ, ◌%◌, Bool, nat_eq, nat_le, if◌then◌else◌, List, [], ◌∷◌, length, Option, Some, None, codes}
use Rattle.std.specs.Option.{option_map}
use Rattle.std.specs.Cmp.Lexicographic.{pointwise}
use Rattle.sp_lex.specs.declared.token.Token.{Token}
use Rattle.sp_lex.specs.declared.token.TokenKind.{TokenKind}
use Rattle.sp_lex.specs.declared.token.TokenKind.TheVariants as tokens
use Rattle.sp_lex.specs.Names.{folded}
use Rattle.sp_lex.specs.Numbers.{number_of, at_most}
use Rattle.sp_lex.specs.Texts.{characters_of}
use Rattle.sp_words.specs.declared.operator.NamedOperator.{NamedOperator}
use Rattle.sp_words.specs.declared.operator.NamedOperator.TheVariants as named
use Rattle.sp_words.specs.code.Tables.{operator_named, is_reserved}
use Rattle.sp_expr.specs.declared.word.Operator.TheVariants as op
use Rattle.sp_expr.specs.declared.word.Word.{Word}
use Rattle.sp_expr.specs.declared.word.Word.TheVariants as words
pub use Rattle.sp_lex.specs.Readers.{text_of, IsIn, AreIn}

abbrev pub is_word : List ℕ → List ℕ → Bool
is_word text word = pointwise nat_eq text word

-- an operator that is written as a word
abbrev pub operator_word : NamedOperator → Word
operator_word named.Mod = words.Operator op.Modulo
operator_word named.Shl = words.Operator op.ShiftLeft
operator_word named.Shr = words.Operator op.ShiftRight
operator_word named.Not = words.Not
operator_word named.And = words.Operator op.And
operator_word named.Or = words.Operator op.Or
operator_word named.Xor = words.Operator op.Xor

-- a name, unless it is a reserved word
abbrev pub plain_name : List ℕ → Option Word
plain_name name = if is_reserved name then None else Some (words.Name name)

abbrev pub or_else : Option Word → Option Word → Option Word
or_else None other = other
or_else (Some word) other = Some word

-- the word of a name in upper case
abbrev pub name_word : List ℕ → Option Word
name_word name = or_else (option_map operator_word (operator_named name)) (plain_name name)

-- the word of a symbol
unfoldable pub symbol_word : List ℕ → Option Word
symbol_word text =
    if is_word text (codes "$") then Some words.Here
    else (if is_word text (codes "(") then Some words.Open
    else (if is_word text (codes ")") then Some words.Close
    else (if is_word text (codes "+") then Some (words.Operator op.Plus)
    else (if is_word text (codes "-") then Some (words.Operator op.Minus)
    else (if is_word text (codes "*") then Some (words.Operator op.Times)
    else (if is_word text (codes "/") then Some (words.Operator op.Divide)
    else None))))))

-- the word of a text of one character
abbrev pub character_word : List ℕ → Option Word
character_word [] = None
character_word (character ∷ []) = Some (words.Number character)
character_word (character ∷ next ∷ rest) = None

-- the word that a token of this text stands for; a number counts modulo 65,536
unfoldable pub word_of : TokenKind → List ℕ → Option Word
word_of tokens.Number text = option_map (λ value. words.Number (value % 65536)) (at_most 9223372036854775807 (number_of text))
word_of tokens.Text text = character_word (characters_of text)
word_of tokens.Symbol text = symbol_word text
word_of tokens.Name text = if nat_le (length text) 31 then name_word (folded text) else None

abbrev pub with_word : Option Word → Option (List Word) → Option (List Word)
with_word None rest = None
with_word (Some word) None = None
with_word (Some word) (Some rest) = Some (word ∷ rest)

-- the words that tokens of a source stand for, if each stands for one
unfoldable pub words_of : List ℕ → List Token → Option (List Word)
words_of source [] = Some []
words_of source (token ∷ tokens) = with_word (word_of token.kind (text_of source token)) (words_of source tokens)
