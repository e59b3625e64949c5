-- The statements of a source (8080 Assembly Language Programming Manual, "Assembly language instruction format": a line has
-- one statement; annotations and the limit on nesting are this project's own).
use Rattle.std.specs.Prelude.{◌≡◌, ◌⊎◌, ℕ, ◌+◌, List, [], ◌∷◌, ◌++◌, length, All}
use Rattle.sp_lex.specs.declared.token.LineKind.{LineKind}
use Rattle.sp_lex.specs.declared.token.LineKind.TheVariants as line
use Rattle.sp_lex.specs.declared.token.SourceLine.{SourceLine}
use Rattle.sp_lex.specs.declared.token.Token.{Token}
use Rattle.sp_stmt.specs.declared.refusal.StatementKind.{StatementKind}
use Rattle.sp_stmt.specs.declared.refusal.StatementKind.TheVariants.{Syntax, TooDeep}
use Rattle.sp_stmt.specs.declared.statement.Statement.{Statement}
use Rattle.sp_stmt.specs.Grammar.{IsLine, IsShallow}

-- a line is this statement, and no expression of it nests too deep
pub record IsStatementOf (source : List ℕ) (number : ℕ) (tokens : List Token) (s : Statement) : Type 0 where
  pub line : IsLine source number tokens s
  pub shallow : All IsShallow s.operands

-- what a line gives: its statement, and nothing where it is empty or an annotation
abbrev pub Gives : LineKind → List ℕ → ℕ → List Token → List Statement → Type 0
Gives line.Statement source number tokens given = (s : Statement) × IsStatementOf source number tokens s × (given ≡ s ∷ [])
Gives line.Empty source number tokens given = given ≡ []
Gives line.Annotation source number tokens given = given ≡ []

-- the statements of lines, the first of which has this number
abbrev pub AreStatementsFrom : List ℕ → ℕ → List SourceLine → List Statement → Type 0
AreStatementsFrom source number [] statements = statements ≡ []
AreStatementsFrom source number (first ∷ lines) statements =
    (given : List Statement) × (below : List Statement) × (statements ≡ given ++ below)
    × Gives first.kind source number first.tokens given × AreStatementsFrom source (number + 1) lines below

-- the statements of a source with these lines, in their order
abbrev pub AreStatementsOf : List ℕ → List SourceLine → List Statement → Type 0
AreStatementsOf source lines statements = AreStatementsFrom source 1 lines statements

-- how a line is no statement: it isn't in the grammar, or one of its expressions nests too deep
abbrev pub BreaksLine : List ℕ → ℕ → List Token → StatementKind → Type 0
BreaksLine source number tokens Syntax = (s : Statement) → ¬ IsLine source number tokens s
BreaksLine source number tokens TooDeep = (s : Statement) × IsLine source number tokens s × ¬ All IsShallow s.operands

-- of lines, the first of which has this number, the lowest that has no statement, and how
pub record IsUnreadFrom (source : List ℕ) (number : ℕ) (lines : List SourceLine) (at : ℕ) (kind : StatementKind) : Type 0 where
  pub above : List SourceLine
  pub broken : SourceLine
  pub below : List SourceLine
  pub whole : lines ≡ above ++ broken ∷ below
  pub number_is : at ≡ number + length above
  pub statements : List Statement
  pub read : AreStatementsFrom source number above statements
  pub statement_line : broken.kind ≡ line.Statement
  pub breaks : BreaksLine source at broken.tokens kind

-- the lowest line of a source that is to be a statement and is none, and how
abbrev pub IsUnread : List ℕ → List SourceLine → ℕ → StatementKind → Type 0
IsUnread source lines at kind = IsUnreadFrom source 1 lines at kind

-- a source has its statements, or a lowest line that is none; and it has only one answer
pub record SourcesHaveOneAnswer : Type 0 where
  pub some : (source : List ℕ) (lines : List SourceLine)
      → ((statements : List Statement) × AreStatementsOf source lines statements)
      ⊎ ((at : ℕ) × (kind : StatementKind) × IsUnread source lines at kind)
  pub one : (source : List ℕ) (lines : List SourceLine) (one other : List Statement)
      → AreStatementsOf source lines one → AreStatementsOf source lines other → one ≡ other
  pub one_fault : (source : List ℕ) (lines : List SourceLine) (at there : ℕ) (kind other : StatementKind)
      → IsUnread source lines at kind → IsUnread source lines there other → (at ≡ there) × (kind ≡ other)
  pub apart : (source : List ℕ) (lines : List SourceLine) (statements : List Statement) (at : ℕ) (kind : StatementKind)
      → AreStatementsOf source lines statements → ¬ IsUnread source lines at kind
