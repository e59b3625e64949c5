-- The items of DB and DW.
use Rattle.std.specs.Prelude.{ℕ, if◌then◌else◌, List, [], ◌∷◌, ◌++◌, Option, Some, None, Result, Ok, Err}
use Rattle.sp_lex.specs.declared.token.Token.{Token}
use Rattle.sp_lex.specs.declared.token.TokenKind.{TokenKind}
use Rattle.sp_lex.specs.declared.token.TokenKind.TheVariants as tokens
use Rattle.sp_lex.specs.Texts.{characters_of}
use Rattle.sp_expr.specs.declared.refusal.ParseRefusal.{ParseRefusal}
use Rattle.sp_expr.specs.declared.refusal.ParseRefusal.TheVariants.{Syntax, TooDeep, Memory}
use Rattle.sp_expr.specs.Words.{text_of}
use Rattle.sp_words.specs.declared.mnemonic.DataKind.{DataKind}
use Rattle.sp_words.specs.declared.mnemonic.DataKind.TheVariants.{Bytes, Words}
use Rattle.sp_words.specs.declared.mnemonic.ExpressionKind.TheVariants as kind
use Rattle.sp_stmt.specs.declared.operand.Operand.{Operand}
use Rattle.sp_stmt.specs.declared.operand.Operand.TheVariants as operand
use Rattle.sp_stmt.specs.code.Expressions.{operand_of}
use Rattle.sp_stmt.specs.Tokens.{is_comma}

-- a token at the front of the first item
abbrev pub in_front : Token → List (List Token) → List (List Token)
in_front token [] = (token ∷ []) ∷ []
in_front token (item ∷ items) = (token ∷ item) ∷ items

-- the items that commas divide; there is one more than there are commas
unfoldable pub items_of : List ℕ → List Token → List (List Token)
items_of source [] = [] ∷ []
items_of source (token ∷ tokens) = if is_comma source token then [] ∷ items_of source tokens else in_front token (items_of source tokens)

-- the items behind the first one, where what stands there begins with the comma
abbrev pub items_behind : List ℕ → List Token → List (List Token)
items_behind source [] = []
items_behind source (comma ∷ rest) = items_of source rest

-- a text of one character or more
abbrev pub text_operand : List ℕ → Result Operand ParseRefusal
text_operand [] = Err Syntax
text_operand (character ∷ characters) = Ok (operand.Text (character ∷ characters))

-- a token that is a text, where an item is it alone
abbrev pub if_text : TokenKind → Token → Option Token
if_text tokens.Text token = Some token
if_text tokens.Name token = None
if_text tokens.Number token = None
if_text tokens.Symbol token = None

abbrev pub lone_text : List Token → Option Token
lone_text [] = None
lone_text (token ∷ []) = if_text token.kind token
lone_text (token ∷ next ∷ rest) = None

-- an item of DB: a text alone, or an expression
abbrev pub byte_item : Option Token → List ℕ → List Token → Result Operand ParseRefusal
byte_item (Some token) source item = text_operand (characters_of (text_of source token))
byte_item None source item = operand_of kind.Byte source item

unfoldable pub item_of : DataKind → List ℕ → List Token → Result Operand ParseRefusal
item_of Bytes source item = byte_item (lone_text item) source item
item_of Words source item = operand_of kind.Word source item

-- of two refusals of one line the one that counts: Syntax, whichever it is
abbrev pub first_refusal : ParseRefusal → ParseRefusal → ParseRefusal
first_refusal one Syntax = Syntax
first_refusal one TooDeep = one
first_refusal one Memory = one

-- operands behind others
abbrev pub behind : Result (List Operand) ParseRefusal → Result (List Operand) ParseRefusal → Result (List Operand) ParseRefusal
behind (Ok front) (Ok rest) = Ok (front ++ rest)
behind (Ok front) (Err refusal) = Err refusal
behind (Err refusal) (Ok rest) = Err refusal
behind (Err one) (Err other) = Err (first_refusal one other)

abbrev pub one_operand : Result Operand ParseRefusal → Result (List Operand) ParseRefusal
one_operand (Ok only) = Ok (only ∷ [])
one_operand (Err refusal) = Err refusal

-- the operands that items are
unfoldable pub data_of : DataKind → List ℕ → List (List Token) → Result (List Operand) ParseRefusal
data_of kind source [] = Ok []
data_of kind source (item ∷ items) = behind (one_operand (item_of kind source item)) (data_of kind source items)
