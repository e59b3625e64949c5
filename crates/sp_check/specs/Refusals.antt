-- Which rule a source breaks first, and when it breaks none (this project's own).
use Rattle.std.specs.Prelude.{◌≡◌, ◌⊎◌, ℕ, List, Result, Ok, Err}
use Rattle.sp_base.specs.Refused.{IsUnlessMemory, at_line}
use Rattle.sp_base.specs.declared.refused.Refused.{Refused}
use Rattle.sp_base.specs.declared.refused.Refused.TheVariants as refused
use Rattle.sp_lex.specs.declared.token.SourceLine.{SourceLine}
use Rattle.sp_lex.specs.Reading.{AreLines, IsFaultAt}
use Rattle.sp_asm.specs.Assembly.{Row}
use Rattle.sp_asm.specs.Source as asm
use Rattle.sp_asm.specs.Source.{Assembles}
use Rattle.sp_note.specs.declared.refusal.NoteKind.{NoteKind}
use Rattle.sp_note.specs.Parts.{NoteLine}
use Rattle.sp_note.specs.Source.{IsUnread}
use Rattle.sp_prog.specs.Program.{Program}
use Rattle.sp_unit.specs.declared.refusal.UnitKind.{UnitKind}
use Rattle.sp_unit.specs.Faults.{IsCause, KeepsRules}
use Rattle.sp_graph.specs.SoundUnits.{IsSoundOf}
use Rattle.sp_graph.specs.Structure.{IsStructured}
use Rattle.sp_struct.specs.declared.refusal.StructKind.{StructKind}
use Rattle.sp_struct.specs.Refusals as structure
use Rattle.sp_flow.specs.declared.refusal.FlowKind.{FlowKind}
use Rattle.sp_flow.specs.Flow as flow
use Rattle.sp_flow.specs.Flow.{IsFlowing}
use Rattle.sp_check.specs.declared.checking.Checked.{Checked}
use Rattle.sp_check.specs.declared.refusal.CheckKind.{CheckKind}
use Rattle.sp_check.specs.declared.refusal.CheckKind.TheVariants as kind
use Rattle.sp_check.specs.Plain.{plain}
use Rattle.sp_check.specs.Units.{IsRead, said, entries, HasUnit}

-- ---- Each row of the order, where no row above it stands

-- the source has an assembly, and this is its lowest annotation line that isn't in the grammar
pub record IsUnreadNote (source : List ℕ) (line : ℕ) (k : NoteKind) : Type 0 where
  pub lines : List SourceLine
  pub rows : List Row
  pub read : AreLines source lines
  pub assembles : Assembles source lines rows
  pub unread : IsUnread source lines line k

-- the source has an assembly and annotations, and they break a rule of units here first
pub record BreaksUnit (source : List ℕ) (line : ℕ) (k : UnitKind) : Type 0 where
  pub rows : List Row
  pub notes : List NoteLine
  pub read : IsRead source rows notes
  pub cause : IsCause (said rows notes) (entries rows notes) line k

-- the source has a unit, which breaks a rule on structure here first
pub record BreaksStructure (source : List ℕ) (line : ℕ) (k : StructKind) : Type 0 where
  pub program : Program
  pub unit : HasUnit source program
  pub refused : structure.IsRefusedAt program line k

-- the source has a unit, which breaks no rule on structure, and a rule on flow here first
pub record BreaksFlow (source : List ℕ) (line : ℕ) (k : FlowKind) : Type 0 where
  pub program : Program
  pub unit : HasUnit source program
  pub structured : IsStructured program
  pub refused : flow.IsRefusedAt program line k

-- ---- The first row that stands

-- why a source has no unit
abbrev pub HasNoUnit : List ℕ → ℕ → CheckKind → Type 0
HasNoUnit source line (kind.Text k) = IsFaultAt source line k
HasNoUnit source line (kind.Asm k) = asm.IsRefused source line k
HasNoUnit source line (kind.Note k) = IsUnreadNote source line k
HasNoUnit source line (kind.Unit k) = BreaksUnit source line k
HasNoUnit source line (kind.Struct k) = ⊥
HasNoUnit source line (kind.Flow k) = ⊥

-- why a source isn't sound
abbrev pub IsRefused : List ℕ → ℕ → CheckKind → Type 0
IsRefused source line (kind.Text k) = IsFaultAt source line k
IsRefused source line (kind.Asm k) = asm.IsRefused source line k
IsRefused source line (kind.Note k) = IsUnreadNote source line k
IsRefused source line (kind.Unit k) = BreaksUnit source line k
IsRefused source line (kind.Struct k) = BreaksStructure source line k
IsRefused source line (kind.Flow k) = BreaksFlow source line k

-- ---- What is right, and what is answered

-- the source has this unit, and it breaks no rule on structure and none on flow
pub record HasSoundUnit (source : List ℕ) (p : Program) : Type 0 where
  pub unit : HasUnit source p
  pub structured : IsStructured p
  pub flows : IsFlowing p

-- this is such a unit, with the depths of its instructions
pub record IsChecked (source : List ℕ) (c : Checked) : Type 0 where
  pub right : HasSoundUnit source c.unit
  pub depths : IsSoundOf c.unit c.sound

-- a source whose lines keep the rules of units is answered by its unit, and one that has none by the first row that stands,
-- unless memory ran out
pub record UnitIsAnswered (source : List ℕ) (result : Result Program (Refused CheckKind)) : Type 0 where
  pub whole : (rows : List Row) (notes : List NoteLine) → IsRead source rows notes → KeepsRules (said rows notes) (entries rows notes)
      → ((p : Program) × (result ≡ Ok p) × HasUnit source p) ⊎ (result ≡ Err refused.Memory)
  pub exact : (line : ℕ) (k : CheckKind) → HasNoUnit source line k → IsUnlessMemory result (Err (at_line line k))

-- so is one whose unit is sound, and one that is refused
pub record CheckIsAnswered (source : List ℕ) (result : Result Checked (Refused CheckKind)) : Type 0 where
  pub whole : (p : Program) → HasSoundUnit source p → ((c : Checked) × (result ≡ Ok c) × IsChecked source c) ⊎ (result ≡ Err refused.Memory)
  pub exact : (line : ℕ) (k : CheckKind) → IsRefused source line k → IsUnlessMemory result (Err (at_line line k))

-- ---- Sources have one answer

-- a source has one unit, apart from where its annotations lie in memory; it has one refusal at most, and none where its lines
-- keep the rules or where its unit is sound
pub record HasOneAnswer (source : List ℕ) : Type 0 where
  pub unit : (p q : Program) → HasUnit source p → HasUnit source q → plain p ≡ plain q
  pub one : (line there : ℕ) (k other : CheckKind) → IsRefused source line k → IsRefused source there other → (line ≡ there) × (k ≡ other)
  pub unread : (rows : List Row) (notes : List NoteLine) (line : ℕ) (k : CheckKind)
      → IsRead source rows notes → KeepsRules (said rows notes) (entries rows notes) → ¬ HasNoUnit source line k
  pub refused : (p : Program) (line : ℕ) (k : CheckKind) → HasSoundUnit source p → ¬ IsRefused source line k
