-- The words of a condition, and the tokens that stand for them (this project's own). Numbers are ASCII codes.
use Rattle.std.specs.Prelude.{ℕ, Bool, true, false, ◌||◌, ◌==◌, nat_eq, nat_le, if◌then◌else◌, List, [], ◌∷◌, length, Option, Some, None, codes}
use Rattle.std.specs.Option.{option_map, option_and_then}
use Rattle.std.specs.Cmp.Lexicographic.{pointwise}
use Rattle.sp_lex.specs.declared.token.Token.{Token}
use Rattle.sp_lex.specs.declared.token.TokenKind.{TokenKind}
use Rattle.sp_lex.specs.declared.token.TokenKind.TheVariants as tokens
use Rattle.sp_lex.specs.Names.{folded}
use Rattle.sp_lex.specs.Numbers.{number_of, at_most}
use Rattle.sp_lex.specs.Readers.{text_of, name_at}
use Rattle.sp_logic.specs.declared.note.Comparison.TheVariants.{Equal, Unequal, Less, LessOrEqual, Greater, GreaterOrEqual}
use Rattle.sp_logic.specs.declared.note.Quantifier.TheVariants.{ForAll, ForSome}
use Rattle.sp_logic.specs.declared.note.RegisterPair.TheVariants.{Bc, De, Hl}
use Rattle.sp_words.specs.declared.annotation.AnnotationWord.{AnnotationWord}
use Rattle.sp_words.specs.declared.annotation.AnnotationWord.TheVariants as named
use Rattle.sp_words.specs.code.Tables.{annotation_word_named, is_annotation_word, is_reserved}
use Rattle.sp_note.specs.declared.word.Word.{Word}
use Rattle.sp_note.specs.declared.word.Word.TheVariants as words
use Rattle.sp_note.specs.declared.word.Infix.TheVariants as op
use Rattle.sp_note.specs.declared.word.Bits.TheVariants as bits
use Rattle.sp_note.specs.declared.word.Measure.TheVariants as measure

-- the word of a condition that a word of annotations is
abbrev pub word_named : AnnotationWord → Word
word_named named.Addr = words.Measure measure.Address
word_named named.All = words.Quantifier ForAll
word_named named.And = words.Infix op.And
word_named named.Band = words.Bits bits.And
word_named named.Bor = words.Bits bits.Or
word_named named.Bxor = words.Bits bits.Xor
word_named named.Div = words.Infix op.Divide
word_named named.False = words.Constant false
word_named named.For = words.For
word_named named.In = words.In
word_named named.Len = words.Measure measure.Length
word_named named.Mem = words.Mem
word_named named.Mod = words.Infix op.Modulo
word_named named.Not = words.Not
word_named named.Or = words.Infix op.Or
word_named named.Par = words.Par
word_named named.Some = words.Quantifier ForSome
word_named named.Total = words.Total
word_named named.True = words.Constant true
word_named (named.Loc l) = words.Location l
word_named named.Bc = words.Pair Bc
word_named named.De = words.Pair De
word_named named.Hl = words.Pair Hl
word_named (named.Slot k) = words.StackWord k

-- a name, unless it is a word of annotations or of the assembler
abbrev pub own_name : List ℕ → Option (List ℕ)
own_name name = if is_annotation_word name || is_reserved name then None else Some name

-- the name of the program's own that a token is, in upper case
unfoldable pub own_name_at : List ℕ → Token → Option (List ℕ)
own_name_at source token = option_and_then own_name (name_at source token)

abbrev pub plain_name : List ℕ → Option Word
plain_name name = if is_reserved name then None else Some (words.Name name)

abbrev pub or_plain : Option AnnotationWord → List ℕ → Option Word
or_plain (Some word) name = Some (word_named word)
or_plain None name = plain_name name

-- the word of a name in upper case: a word of annotations, or else a name that isn't reserved
abbrev pub name_word : List ℕ → Option Word
name_word name = or_plain (annotation_word_named name) name

-- the word of a symbol of one byte: ( ) * + , - : < = > [ ] ~
abbrev pub mark_word : ℕ → Option Word
mark_word mark =
    if mark == 40 then Some words.Open
    else (if mark == 41 then Some words.Close
    else (if mark == 42 then Some (words.Infix op.Multiply)
    else (if mark == 43 then Some (words.Infix op.Add)
    else (if mark == 44 then Some words.Comma
    else (if mark == 45 then Some (words.Infix op.Subtract)
    else (if mark == 58 then Some words.Colon
    else (if mark == 60 then Some (words.Infix (op.Compare Less))
    else (if mark == 61 then Some (words.Infix (op.Compare Equal))
    else (if mark == 62 then Some (words.Infix (op.Compare Greater))
    else (if mark == 91 then Some words.OpenBracket
    else (if mark == 93 then Some words.CloseBracket
    else (if mark == 126 then Some words.AtEntry
    else None))))))))))))

abbrev pub is_text : List ℕ → List ℕ → Bool
is_text text symbol = pointwise nat_eq text symbol

-- the word of a symbol of more bytes
abbrev pub long_word : List ℕ → Option Word
long_word text =
    if is_text text (codes "<=") then Some (words.Infix (op.Compare LessOrEqual))
    else (if is_text text (codes ">=") then Some (words.Infix (op.Compare GreaterOrEqual))
    else (if is_text text (codes "<>") then Some (words.Infix (op.Compare Unequal))
    else (if is_text text (codes "->") then Some (words.Infix op.Implies)
    else (if is_text text (codes "<->") then Some (words.Infix op.Iff)
    else (if is_text text (codes "..") then Some words.Range
    else None)))))

abbrev pub symbol_word : List ℕ → Option Word
symbol_word [] = long_word []
symbol_word (mark ∷ []) = mark_word mark
symbol_word (mark ∷ next ∷ rest) = long_word (mark ∷ next ∷ rest)

-- the word that a token of this text stands for
unfoldable pub word_of : TokenKind → List ℕ → Option Word
word_of tokens.Number text = option_map (λ value. words.Number value) (at_most 9223372036854775807 (number_of text))
word_of tokens.Text text = None
word_of tokens.Symbol text = symbol_word text
word_of tokens.Name text = if nat_le (length text) 31 then name_word (folded text) else None

abbrev pub with_word : Option Word → Option (List Word) → Option (List Word)
with_word None rest = None
with_word (Some word) None = None
with_word (Some word) (Some rest) = Some (word ∷ rest)

-- the words that tokens of a source stand for, if each stands for one
unfoldable pub words_of : List ℕ → List Token → Option (List Word)
words_of source [] = Some []
words_of source (token ∷ tokens) = with_word (word_of token.kind (text_of source token)) (words_of source tokens)
