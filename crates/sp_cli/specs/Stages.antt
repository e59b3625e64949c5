-- The stages of commands, and the order of refusals (this project's own).
use Rattle.std.specs.Prelude.{◌≡◌, ◌⊎◌, ℕ, List, [], ◌∷◌, Some}
use Rattle.std.specs.List.{AllByRecursion}
use Rattle.sp_base.specs.Image.{ImageMap}
use Rattle.sp_base.specs.declared.line.Line.{Line}
use Rattle.sp_lex.specs.declared.refusal.TextKind.{TextKind}
use Rattle.sp_lex.specs.declared.token.SourceLine.{SourceLine}
use Rattle.sp_lex.specs.Reading.{AreLines, IsFaultAt}
use Rattle.sp_asm.specs.declared.refusal.AsmKind.{AsmKind}
use Rattle.sp_asm.specs.Assembly.{Row}
use Rattle.sp_asm.specs.Source.{HasAssembly, IsRefused}
use Rattle.sp_hex.specs.declared.refusal.HexKind.{HexKind}
use Rattle.sp_hex.specs.Hex.{StandsFor}
use Rattle.sp_hex.specs.Refusals.{IsCause}
use Rattle.sp_check.specs.Refusals as check
use Rattle.sp_check.specs.Refusals.{HasSoundUnit}
use Rattle.sp_check.specs.declared.refusal.CheckKind.{CheckKind}
use Rattle.sp_check.specs.declared.refusal.CheckKind.TheVariants as kind
use Rattle.sp_prog.specs.Program.{Program}
use Rattle.sp_first.specs.Right.{IsAccepted, IsNotBuilt, IsOpen}
use Rattle.sp_cli.specs.declared.refusal.Input.{Input}
use Rattle.sp_cli.specs.declared.refusal.Input.TheVariants.{Source, Scripts, Image}
use Rattle.sp_cli.specs.declared.refusal.Refusal.{Refusal}
use Rattle.sp_cli.specs.declared.refusal.Refusal.TheVariants as refusal
use Rattle.sp_cli.specs.Command.{Command, Verify, Asm, Run, Check}
use Rattle.sp_cli.specs.Inputs.{Held, content, IsWithin, RefusesFile}

-- a stage that a command goes through: it reads an input; it reads lines and tokens of the source, and its statements, and
-- places them; it verifies a source of the first form; it reads the records of the text of an image; it reads the unit of the
-- source and checks its structure and its flow
pub data Stage : Type 0 where
  Reading : Input → Stage
  Text : Stage
  Statements : Stage
  FirstForm : Stage
  Records : Stage
  Checking : Stage

-- the stages of a command, in their order
abbrev pub stages_of : Command → List Stage
stages_of (Verify source scripts image) = Reading Source ∷ Reading Scripts ∷ FirstForm ∷ []
stages_of (Asm source image) = Reading Source ∷ Text ∷ Statements ∷ []
stages_of (Run image options) = Reading Image ∷ Records ∷ []
stages_of (Check source) = Reading Source ∷ Checking ∷ []

-- the stage makes something of what the inputs hold
abbrev pub Passes : Stage → Held → Type 0
Passes (Reading input) held = IsWithin input (content input held)
Passes Text held = (source : List ℕ) × (lines : List SourceLine) × (held.source ≡ Some source) × AreLines source lines
Passes Statements held = (source : List ℕ) × (rows : List Row) × (held.source ≡ Some source) × HasAssembly source rows
Passes FirstForm held =
    (source scripts : List ℕ) × (held.source ≡ Some source) × (held.scripts ≡ Some scripts) × IsAccepted source scripts
Passes Records held = (text : List ℕ) × (image : ImageMap) × (held.image ≡ Some text) × StandsFor text image
Passes Checking held = (source : List ℕ) × (p : Program) × (held.source ≡ Some source) × HasSoundUnit source p

-- the verifier of the first form refuses a source with its scripts
abbrev pub RefusesProgram : List ℕ → List ℕ → Refusal → Type 0
RefusesProgram source scripts refusal.NotBuilt = IsNotBuilt source scripts
RefusesProgram source scripts (refusal.Open name number) = IsOpen source scripts name × (number ≡ 1)
RefusesProgram source scripts _ = ⊥

-- how a source is refused, as it is printed
abbrev pub check_refusal : Line → CheckKind → Refusal
check_refusal line (kind.Text k) = refusal.Text line k
check_refusal line (kind.Asm k) = refusal.Asm line k
check_refusal line (kind.Note k) = refusal.Note line k
check_refusal line (kind.Unit k) = refusal.Unit line k
check_refusal line (kind.Struct k) = refusal.Struct line k
check_refusal line (kind.Flow k) = refusal.Flow line k

-- the stage refuses what the inputs hold
abbrev pub Refuses : Stage → Held → Refusal → Type 0
Refuses (Reading input) held r = RefusesFile input (content input held) r
Refuses Text held r =
    (source : List ℕ) × (line : Line) × (k : TextKind) × (held.source ≡ Some source) × (r ≡ refusal.Text line k) × IsFaultAt source line.0 k
Refuses Statements held r =
    (source : List ℕ) × (line : Line) × (k : AsmKind) × (held.source ≡ Some source) × (r ≡ refusal.Asm line k) × IsRefused source line.0 k
Refuses FirstForm held r =
    (source scripts : List ℕ) × (held.source ≡ Some source) × (held.scripts ≡ Some scripts) × RefusesProgram source scripts r
Refuses Records held r =
    (text : List ℕ) × (line : Line) × (k : HexKind) × (held.image ≡ Some text) × (r ≡ refusal.Image line k) × IsCause text line.0 k
Refuses Checking held r =
    (source : List ℕ) × (line : Line) × (k : CheckKind) × (held.source ≡ Some source) × (r ≡ check_refusal line k) × check.IsRefused source line.0 k

-- the first row of the order of refusals that stands: the refusal of the first stage that refuses
abbrev pub FirstRow : List Stage → Held → Refusal → Type 0
FirstRow [] held r = ⊥
FirstRow (stage ∷ stages) held r = Refuses stage held r ⊎ (Passes stage held × FirstRow stages held r)

-- the refusal of a command, by what its inputs hold
abbrev pub Stands : Command → Held → Refusal → Type 0
Stands c held r = FirstRow (stages_of c) held r

-- all stages of a command pass
abbrev pub Accepts : Command → Held → Type 0
Accepts c held = AllByRecursion (λ stage. Passes stage held) (stages_of c)

-- a command has one refusal at most, and none where it accepts
pub record RefusalsAreOne : Type 0 where
  pub one : (c : Command) (held : Held) (a b : Refusal) → Stands c held a → Stands c held b → a ≡ b
  pub none : (c : Command) (held : Held) (r : Refusal) → Accepts c held → ¬ Stands c held r
