-- What single tokens of a source are, and lists of tokens that commas divide.
use Rattle.std.specs.Prelude.{◌≡◌, ℕ, ◌≤◌, Bool, false, nat_eq, nat_le, IsTrue, if◌then◌else◌, List, [], ◌∷◌, ◌++◌, length, codes, Option, Some, None, All}
use Rattle.std.specs.Cmp.Lexicographic.{pointwise}
use Rattle.std.specs.List.{slice_range, AllByRecursion}
use Rattle.sp_lex.specs.declared.token.Token.{Token}
use Rattle.sp_lex.specs.declared.token.TokenKind.{TokenKind}
use Rattle.sp_lex.specs.declared.token.TokenKind.TheVariants.{Name, Number, Text, Symbol}
use Rattle.sp_lex.specs.Names.{folded}

-- the token lies in the source
pub record IsIn (source : List ℕ) (token : Token) : Type 0 where
  pub ordered : token.start ≤ token.end
  pub within : token.end ≤ length source

abbrev pub AreIn : List ℕ → List Token → Type 0
AreIn source tokens = All (IsIn source) tokens

abbrev pub text_of : List ℕ → Token → List ℕ
text_of source token = slice_range source token.start token.end

-- the name that a token of this kind and text is, in upper case; a name has at most 31 characters
abbrev pub name_in : TokenKind → List ℕ → Option (List ℕ)
name_in Name text = if nat_le (length text) 31 then Some (folded text) else None
name_in Number text = None
name_in Text text = None
name_in Symbol text = None

unfoldable pub name_at : List ℕ → Token → Option (List ℕ)
name_at source token = name_in token.kind (text_of source token)

-- the text of a token of this kind, if it is a symbol
abbrev pub symbol_in : TokenKind → List ℕ → Option (List ℕ)
symbol_in Symbol text = Some text
symbol_in Name text = None
symbol_in Number text = None
symbol_in Text text = None

unfoldable pub symbol_at : List ℕ → Token → Option (List ℕ)
symbol_at source token = symbol_in token.kind (text_of source token)

-- whether a token of this kind and text is this symbol
abbrev pub is_symbol_in : List ℕ → TokenKind → List ℕ → Bool
is_symbol_in symbol Symbol text = pointwise nat_eq text symbol
is_symbol_in symbol Name text = false
is_symbol_in symbol Number text = false
is_symbol_in symbol Text text = false

unfoldable pub is_symbol : List ℕ → List ℕ → Token → Bool
is_symbol symbol source token = is_symbol_in symbol token.kind (text_of source token)

-- a token at the front of the first item
abbrev pub in_front : Token → List (List Token) → List (List Token)
in_front token [] = (token ∷ []) ∷ []
in_front token (item ∷ items) = (token ∷ item) ∷ items

-- the items that commas divide; there is one more than there are commas
unfoldable pub items_of : List ℕ → List Token → List (List Token)
items_of source [] = [] ∷ []
items_of source (token ∷ tokens) =
    if is_symbol (codes ",") source token then [] ∷ items_of source tokens
    else in_front token (items_of source tokens)

-- the items after the first one, where what stands there begins with the comma
abbrev pub items_after : List ℕ → List Token → List (List Token)
items_after source [] = []
items_after source (comma ∷ rest) = items_of source rest

abbrev pub IsComma : List ℕ → Token → Type 0
IsComma source token = IsTrue (is_symbol (codes ",") source token)

-- no token of an item is a comma
abbrev pub HasNoComma : List ℕ → List Token → Type 0
HasNoComma source item = AllByRecursion (λ token. ¬ IsComma source token) item

-- commas divide tokens into these items: one stands after each item but the last, and none in an item
abbrev pub AreItems : List ℕ → List Token → List (List Token) → Type 0
AreItems source tokens [] = ⊥
AreItems source tokens (item ∷ []) = (tokens ≡ item) × HasNoComma source item
AreItems source tokens (item ∷ next ∷ items) =
    (comma : Token) × (rest : List Token) × (tokens ≡ item ++ comma ∷ rest) × IsComma source comma
    × HasNoComma source item × AreItems source rest (next ∷ items)
