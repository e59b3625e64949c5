-- The statements of a source.
use Rattle.std.specs.Prelude.{ℕ, ◌+◌, Bool, true, false, ◌&&◌, if◌then◌else◌, List, [], ◌∷◌, Option, Some, None, Result, Ok, Err, is_some}
use Rattle.sp_lex.specs.declared.token.LineKind.{LineKind}
use Rattle.sp_lex.specs.declared.token.LineKind.TheVariants as line
use Rattle.sp_lex.specs.declared.token.SourceLine.{SourceLine}
use Rattle.sp_lex.specs.declared.token.Token.{Token}
use Rattle.sp_expr.specs.declared.refusal.ParseRefusal.{ParseRefusal}
use Rattle.sp_expr.specs.declared.refusal.ParseRefusal.TheVariants.{Syntax}
use Rattle.sp_stmt.specs.declared.body.Body.{Body}
use Rattle.sp_words.specs.declared.mnemonic.Assignment.{Assignment}
use Rattle.sp_words.specs.declared.mnemonic.Assignment.TheVariants.{Equ, Set}
use Rattle.sp_words.specs.declared.mnemonic.ExpressionKind.TheVariants as kind
use Rattle.sp_words.specs.declared.mnemonic.Mnemonic.{Mnemonic}
use Rattle.sp_words.specs.declared.mnemonic.Mnemonic.TheVariants as mnemonic
use Rattle.sp_stmt.specs.declared.statement.Code.{Code}
use Rattle.sp_stmt.specs.declared.statement.Code.TheVariants as code
use Rattle.sp_stmt.specs.declared.statement.Statement.{Statement}
use Rattle.sp_stmt.specs.code.Bodies.{body, body_of, with_expression}
use Rattle.sp_stmt.specs.Tokens.{is_colon, own_name_at, mnemonic_at, assignment_at}

abbrev pub statement : ℕ → Option (List ℕ) → Body → Statement
statement number label found = record { line = record { 0 = number }; label = label; code = found.code; operands = found.operands }

abbrev pub with_body : ℕ → Option (List ℕ) → Result Body ParseRefusal → Result Statement ParseRefusal
with_body number label (Ok found) = Ok (statement number label found)
with_body number label (Err refusal) = Err refusal

-- ORG and END have no label
abbrev pub refuses_label : Mnemonic → Bool
refuses_label mnemonic.Org = true
refuses_label mnemonic.End = true
refuses_label (mnemonic.Alone i) = false
refuses_label (mnemonic.Register form) = false
refuses_label (mnemonic.Pair form) = false
refuses_label (mnemonic.Stack form) = false
refuses_label mnemonic.Move = false
refuses_label (mnemonic.Load form) = false
refuses_label (mnemonic.Expression kind i) = false
refuses_label (mnemonic.Data kind) = false
refuses_label mnemonic.Space = false
refuses_label (mnemonic.Assignment form) = false

-- a statement with this label, if any, and this code
abbrev pub with_code : ℕ → Option (List ℕ) → Option Mnemonic → List ℕ → List Token → Result Statement ParseRefusal
with_code number label None source operands = Err Syntax
with_code number label (Some found) source operands =
    if is_some label && refuses_label found then Err Syntax else with_body number label (body_of found source operands)

unfoldable pub coded : ℕ → Option (List ℕ) → List ℕ → List Token → Result Statement ParseRefusal
coded number label source [] = Err Syntax
coded number label source (first ∷ operands) = with_code number label (mnemonic_at source first) source operands

-- what stands behind a label, if it is one; it may stand alone
abbrev pub labelled : ℕ → Option (List ℕ) → List ℕ → List Token → Result Statement ParseRefusal
labelled number None source rest = Err Syntax
labelled number (Some label) source [] = Ok (statement number (Some label) (body code.Nothing []))
labelled number (Some label) source (first ∷ rest) = coded number (Some label) source (first ∷ rest)

abbrev pub assigning : Assignment → List ℕ → Code
assigning Equ name = code.Equ name
assigning Set name = code.Set name

-- EQU and SET behind a name
abbrev pub assigned : ℕ → Assignment → Option (List ℕ) → List ℕ → List Token → Result Statement ParseRefusal
assigned number form None source rest = Err Syntax
assigned number form (Some name) source rest = with_body number None (with_expression kind.Word (assigning form name) source rest)

abbrev pub unlabelled : ℕ → Option Assignment → List ℕ → Token → Token → List Token → Result Statement ParseRefusal
unlabelled number (Some form) source first second rest = assigned number form (own_name_at source first) source rest
unlabelled number None source first second rest = coded number None source (first ∷ second ∷ rest)

-- the statement of a line with this number and these tokens
unfoldable pub statement_of : List ℕ → ℕ → List Token → Result Statement ParseRefusal
statement_of source number [] = coded number None source []
statement_of source number (first ∷ []) = coded number None source (first ∷ [])
statement_of source number (first ∷ second ∷ rest) =
    if is_colon source second then labelled number (own_name_at source first) source rest
    else unlabelled number (assignment_at source second) source first second rest

-- a refusal with the number of its line
pub record Fault : Type 0 where
  pub kind : ParseRefusal
  pub line : ℕ

abbrev pub with_first : Statement → Result (List Statement) Fault → Result (List Statement) Fault
with_first first (Ok statements) = Ok (first ∷ statements)
with_first first (Err fault) = Err fault

abbrev pub then_statements : ℕ → Result Statement ParseRefusal → Result (List Statement) Fault → Result (List Statement) Fault
then_statements number (Err refusal) below = Err (record { kind = refusal; line = number })
then_statements number (Ok first) below = with_first first below

abbrev pub is_statement : LineKind → Bool
is_statement line.Statement = true
is_statement line.Empty = false
is_statement line.Annotation = false

-- annotations and empty lines are passed over
abbrev pub from_line : LineKind → ℕ → Result Statement ParseRefusal → Result (List Statement) Fault → Result (List Statement) Fault
from_line kind number read below = if is_statement kind then then_statements number read below else below

-- the statements of lines, the first of which has this number
unfoldable pub statements_from : List ℕ → ℕ → List SourceLine → Result (List Statement) Fault
statements_from source number [] = Ok []
statements_from source number (first ∷ lines) =
    from_line first.kind number (statement_of source number first.tokens) (statements_from source (number + 1) lines)

-- the statements of a source's lines, or the refusal of the lowest line that has one
abbrev pub statements_of : List ℕ → List SourceLine → Result (List Statement) Fault
statements_of source lines = statements_from source 1 lines
