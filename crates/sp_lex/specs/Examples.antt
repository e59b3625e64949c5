-- Short forms in which laws spell lines and tokens.
use Rattle.std.specs.Prelude.{ℕ, List, []}
use Rattle.sp_lex.specs.declared.token.LineKind.TheVariants as kind
use Rattle.sp_lex.specs.declared.token.TokenKind.{TokenKind}
use Rattle.sp_lex.specs.declared.token.Token.{Token}
use Rattle.sp_lex.specs.declared.token.SourceLine.{SourceLine}

-- a token, with the places where it begins and ends
abbrev pub token : TokenKind → ℕ → ℕ → Token
token kind start end = record { kind = kind; start = start; end = end }

abbrev pub empty : SourceLine
empty = record { kind = kind.Empty; tokens = [] }

abbrev pub statement : List Token → SourceLine
statement tokens = record { kind = kind.Statement; tokens = tokens }

abbrev pub annotation : List Token → SourceLine
annotation tokens = record { kind = kind.Annotation; tokens = tokens }
