-- What single tokens of a statement stand for.
use Rattle.std.specs.Prelude.{ℕ, Bool, false, nat_eq, nat_le, if◌then◌else◌, List, length, codes, Option, Some, None}
use Rattle.std.specs.Option.{option_and_then}
use Rattle.std.specs.Cmp.Lexicographic.{pointwise}
use Rattle.sp_base.specs.declared.pair.Pair.{Pair}
use Rattle.sp_lex.specs.declared.token.Token.{Token}
use Rattle.sp_lex.specs.declared.token.TokenKind.{TokenKind}
use Rattle.sp_lex.specs.declared.token.TokenKind.TheVariants as tokens
use Rattle.sp_lex.specs.Names.{folded}
use Rattle.sp_words.specs.code.Tables.{is_reserved}
use Rattle.sp_expr.specs.Words.{text_of}
use Rattle.sp_isa.specs.declared.instr.Arg.{Arg}
use Rattle.sp_isa.specs.declared.instr.StackPair.{StackPair}
use Rattle.sp_words.specs.declared.mnemonic.Mnemonic.{Mnemonic}
use Rattle.sp_words.specs.declared.mnemonic.Mnemonic.TheVariants as mnemonic
use Rattle.sp_words.specs.declared.mnemonic.Assignment.{Assignment}
use Rattle.sp_words.specs.code.Tables.{mnemonic_named}
use Rattle.sp_words.specs.code.Tables.{arg_named, pair_named, stack_pair_named}

-- whether a token of this kind and text is this symbol
abbrev pub is_mark : List ℕ → TokenKind → List ℕ → Bool
is_mark mark tokens.Symbol text = pointwise nat_eq text mark
is_mark mark tokens.Name text = false
is_mark mark tokens.Number text = false
is_mark mark tokens.Text text = false

unfoldable pub is_comma : List ℕ → Token → Bool
is_comma source token = is_mark (codes ",") token.kind (text_of source token)

unfoldable pub is_colon : List ℕ → Token → Bool
is_colon source token = is_mark (codes ":") token.kind (text_of source token)

-- the name that a token of this kind and text is, in upper case
abbrev pub name_in : TokenKind → List ℕ → Option (List ℕ)
name_in tokens.Name text = if nat_le (length text) 31 then Some (folded text) else None
name_in tokens.Number text = None
name_in tokens.Text text = None
name_in tokens.Symbol text = None

unfoldable pub name_at : List ℕ → Token → Option (List ℕ)
name_at source token = name_in token.kind (text_of source token)

-- a name, unless it is a reserved word
abbrev pub unless_reserved : List ℕ → Option (List ℕ)
unless_reserved name = if is_reserved name then None else Some name

-- the name that a token gives to what it stands before
unfoldable pub own_name_at : List ℕ → Token → Option (List ℕ)
own_name_at source token = option_and_then unless_reserved (name_at source token)

-- the register or M, the pair, and the mnemonic or directive that a token stands for
unfoldable pub arg_at : List ℕ → Token → Option Arg
arg_at source token = option_and_then arg_named (name_at source token)

unfoldable pub pair_at : List ℕ → Token → Option Pair
pair_at source token = option_and_then pair_named (name_at source token)

unfoldable pub stack_pair_at : List ℕ → Token → Option StackPair
stack_pair_at source token = option_and_then stack_pair_named (name_at source token)

unfoldable pub mnemonic_at : List ℕ → Token → Option Mnemonic
mnemonic_at source token = option_and_then mnemonic_named (name_at source token)

-- EQU or SET
abbrev pub assignment_of : Option Mnemonic → Option Assignment
assignment_of (Some (mnemonic.Assignment form)) = Some form
assignment_of (Some (mnemonic.Alone instr)) = None
assignment_of (Some (mnemonic.Register form)) = None
assignment_of (Some (mnemonic.Pair form)) = None
assignment_of (Some (mnemonic.Stack form)) = None
assignment_of (Some mnemonic.Move) = None
assignment_of (Some (mnemonic.Load load)) = None
assignment_of (Some (mnemonic.Expression kind instr)) = None
assignment_of (Some (mnemonic.Data kind)) = None
assignment_of (Some mnemonic.Space) = None
assignment_of (Some mnemonic.Org) = None
assignment_of (Some mnemonic.End) = None
assignment_of None = None

unfoldable pub assignment_at : List ℕ → Token → Option Assignment
assignment_at source token = assignment_of (mnemonic_at source token)
