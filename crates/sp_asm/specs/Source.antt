-- The assembly of a source.
use Rattle.std.specs.Prelude.{◌≡◌, ℕ, List}
use Rattle.sp_lex.specs.declared.token.SourceLine.{SourceLine}
use Rattle.sp_lex.specs.Reading.{AreLines}
use Rattle.sp_stmt.specs.declared.statement.Statement.{Statement}
use Rattle.sp_stmt.specs.Source.{AreStatementsOf}
use Rattle.sp_asm.specs.declared.refusal.AsmKind.{AsmKind}
use Rattle.sp_asm.specs.Assembly.{Row, IsAssembly}
use Rattle.sp_asm.specs.Refusals.{IsCause}

-- the statements of a source with these lines have this assembly
abbrev pub Assembles : List ℕ → List SourceLine → List Row → Type 0
Assembles source lines rows = (statements : List Statement) × AreStatementsOf source lines statements × IsAssembly statements rows

-- the source has this assembly
pub record HasAssembly (source : List ℕ) (rows : List Row) : Type 0 where
  pub lines : List SourceLine
  pub read : AreLines source lines
  pub assembles : Assembles source lines rows

-- the source has lines, and this line breaks a rule of the assembler so
pub record IsRefused (source : List ℕ) (at : ℕ) (kind : AsmKind) : Type 0 where
  pub lines : List SourceLine
  pub read : AreLines source lines
  pub cause : IsCause source lines at kind

-- a source has one assembly at most
abbrev pub AssembliesAreOne : Type 0
AssembliesAreOne = (source : List ℕ) (one other : List Row) → HasAssembly source one → HasAssembly source other → one ≡ other

-- a source is refused for one kind at one line, and never where it has an assembly
pub record CausesAreOne : Type 0 where
  pub one : (source : List ℕ) (at there : ℕ) (kind other : AsmKind) → IsRefused source at kind → IsRefused source there other → (at ≡ there) × (kind ≡ other)
  pub apart : (source : List ℕ) (rows : List Row) (at : ℕ) (kind : AsmKind) → HasAssembly source rows → ¬ IsRefused source at kind
