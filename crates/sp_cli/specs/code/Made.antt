-- What a command makes before anything is written, and how its reads end.
use Rattle.std.specs.Prelude.{◌≡◌, ◌⊎◌, ℕ, ◌≤◌, List, ◌++◌, length, Option, Some, None, Result, Ok, Err, IsErrOf}
use Rattle.std.specs.FinMap as maps
use Rattle.sp_base.specs.declared.calls.Outcome.{Outcome}
use Rattle.sp_base.specs.declared.calls.Outcome.TheVariants as outcome
use Rattle.sp_base.specs.declared.line.Line.{Line}
use Rattle.sp_base.specs.Image.{ImageMap}
use Rattle.sp_base.specs.declared.calls.Access.TheVariants.{Read, Write}
use Rattle.sp_base.specs.declared.files.WriteRefusal.{WriteRefusal}
use Rattle.sp_base.specs.Calls.{Call, call}
use Rattle.sp_base.specs.Files.{Store, Adds, write_outcome}
use Rattle.sp_lex.specs.declared.refusal.TextKind.{TextKind}
use Rattle.sp_lex.specs.declared.token.SourceLine.{SourceLine}
use Rattle.sp_asm.specs.declared.refusal.AsmKind.{AsmKind}
use Rattle.sp_asm.specs.Assembly.{Row, image_of, names_of}
use Rattle.sp_hex.specs.Hex.{text, StandsFor}
use Rattle.sp_check.specs.Refusals as check
use Rattle.sp_check.specs.Refusals.{HasSoundUnit}
use Rattle.sp_check.specs.Units.{instruction_count}
use Rattle.sp_check.specs.declared.refusal.CheckKind.{CheckKind}
use Rattle.sp_prog.specs.Program.{Program}
use Rattle.sp_first.specs.Right.{IsAccepted, IsTheImage}
use Rattle.sp_first.specs.Counts.{AreCounts}
use Rattle.sp_run.specs.declared.settings.Options.{Options}
use Rattle.sp_run.specs.Options.{options_of}
use Rattle.sp_run.specs.Run.{IsRunText}
use Rattle.sp_lex.specs.Reading.{AreLines, IsFaultAt}
use Rattle.sp_asm.specs.Source.{HasAssembly, IsRefused}
use Rattle.sp_hex.specs.Refusals.{IsCause}
use Rattle.sp_hex.specs.declared.refusal.HexKind.{HexKind}
use Rattle.sp_cli.specs.declared.refusal.Refusal.{Refusal}
use Rattle.sp_cli.specs.declared.refusal.Refusal.TheVariants as refusal
use Rattle.sp_cli.specs.declared.refusal.Stop.{Stop}
use Rattle.sp_cli.specs.declared.refusal.Stop.TheVariants as stop
use Rattle.sp_cli.specs.declared.refusal.Input.{Input}
use Rattle.sp_cli.specs.declared.product.Product.{Product}
use Rattle.sp_cli.specs.Command.{Command, image_name, AreHeld}
use Rattle.sp_cli.specs.Inputs.{Held}
use Rattle.sp_cli.specs.Stages.{Stands, Accepts, check_refusal}
use Rattle.sp_cli.specs.Session.{AreReads}
use Rattle.sp_cli.specs.Space.{IsImageOf, IsReport}
use Rattle.sp_cli.specs.Texts.{assembled_text, accepted_text, sound_text}

-- files were only read: they hold what they held, and no write failed
pub record OnlyRead (before after : Store) : Type 0 where
  pub contents : (q : List ℕ) → after.contents q ≡ before.contents q
  pub told : after.told ≡ before.told
  pub reads : before.read_faults ≤ after.read_faults
  pub writes : after.write_faults ≡ before.write_faults

-- the text of an image that the command writes, by what its inputs hold
pub record IsImageText (c : Command) (held : Held) (written : List ℕ) : Type 0 where
  pub image : ImageMap
  pub right : IsImageOf c held image
  pub is : written ≡ text image
  pub stands : StandsFor (text image) image

-- the command accepts what its inputs hold, and these are the text of its image, if it writes one, and its report
pub record IsProductOf (c : Command) (held : Held) (p : Product) : Type 0 where
  pub accepts : Accepts c held
  pub image : (name : List ℕ) → image_name c ≡ Some name → IsImageText c held p.image.items
  pub report : IsReport c held p.report.items

-- the same of files
pub record IsProduct (files : Store) (c : Command) (p : Product) : Type 0 where
  pub held : Held
  pub are_held : AreHeld files c held
  pub product : IsProductOf c held p

-- the command refuses what its inputs hold
pub record IsRefusal (files : Store) (c : Command) (r : Refusal) : Type 0 where
  pub held : Held
  pub are_held : AreHeld files c held
  pub stands : Stands c held r

-- a file, by what is told of it
pub record IsFile (told : Type 0) (file : Option (List ℕ)) (Says : Option (List ℕ) → Type 0) : Type 0 where
  pub content : Option (List ℕ)
  pub is : told → content ≡ file
  pub says : Says content

-- how reads end, by what came of them
abbrev pub EndsReads : {A : Type 0} → Outcome → Result A Stop → Type 0
EndsReads outcome.Done result = ¬ IsErrOf result stop.Fault
EndsReads outcome.Missing result = (input : Input) × (result ≡ Err (stop.Refused (refusal.Missing input)))
EndsReads outcome.TooLarge result = (input : Input) × (result ≡ Err (stop.Refused (refusal.TooLarge input)))
EndsReads outcome.Failed result = result ≡ Err stop.Fault
EndsReads outcome.Memory result = result ≡ Err stop.Memory

-- the same of one read, which gives its bytes exactly where it is done
abbrev pub EndsRead : {A : Type 0} → Outcome → Result A Stop → Type 0
EndsRead {A = A} outcome.Done result = (bytes : A) × (result ≡ Ok bytes)
EndsRead outcome.Missing result = (input : Input) × (result ≡ Err (stop.Refused (refusal.Missing input)))
EndsRead outcome.TooLarge result = (input : Input) × (result ≡ Err (stop.Refused (refusal.TooLarge input)))
EndsRead outcome.Failed result = result ≡ Err stop.Fault
EndsRead outcome.Memory result = result ≡ Err stop.Memory

-- the file of this name was read, with this result
abbrev pub AddsRead : {A : Type 0} → List ℕ → Result A Stop → List Call → List Call → Type 0
AddsRead name result before after = (end : Outcome) × EndsRead end result × Adds (call Read name end) before after

-- the files of these names were read, with this result
pub record AddsReads {A : Type 0} (names : List (List ℕ)) (result : Result A Stop) (before after : List Call) : Type 0 where
  pub calls : List Call
  pub end : Outcome
  pub added : after ≡ before ++ calls
  pub are_reads : AreReads names end calls
  pub ends : EndsReads end result

-- the source has this assembly, and these are the text of its image and its report
pub record IsAssembled (source : List ℕ) (p : Product) : Type 0 where
  pub lines : List SourceLine
  pub rows : List Row
  pub read : AreLines source lines
  pub assembly : HasAssembly source rows
  pub image : p.image.items ≡ text (image_of rows)
  pub stands : StandsFor (text (image_of rows)) (image_of rows)
  pub report : p.report.items ≡ assembled_text (maps.len (image_of rows)) (length (names_of rows))

-- a source isn't assembled
abbrev pub RefusesSource : List ℕ → Refusal → Type 0
RefusesSource source r =
    ((line : Line) × (kind : TextKind) × (r ≡ refusal.Text line kind) × IsFaultAt source line.0 kind)
    ⊎ (((lines : List SourceLine) × AreLines source lines) × ((line : Line) × (kind : AsmKind) × (r ≡ refusal.Asm line kind) × IsRefused source line.0 kind))

-- the source has a sound unit, and this is the report
pub record IsFoundSound (source : List ℕ) (p : Product) : Type 0 where
  pub program : Program
  pub sound : HasSoundUnit source program
  pub report : p.report.items ≡ sound_text (length program.routines) (instruction_count program)

-- a source is refused
abbrev pub RefusesUnit : List ℕ → Refusal → Type 0
RefusesUnit source r = (line : Line) × (k : CheckKind) × (r ≡ check_refusal line k) × check.IsRefused source line.0 k

-- a text stands for no image
abbrev pub RefusesText : List ℕ → Refusal → Type 0
RefusesText text r = (line : Line) × (kind : HexKind) × (r ≡ refusal.Image line kind) × IsCause text line.0 kind

-- a write of the image, if the command has one
abbrev pub AddsWrite : Option (List ℕ) → Result (Unit {0}) WriteRefusal → List Call → List Call → Type 0
AddsWrite None result before after = (result ≡ Ok tt) × (after ≡ before)
AddsWrite (Some name) result before after = Adds (call Write name (write_outcome result)) before after

-- the text of the run of an image under the options that words stand for
abbrev pub IsRunOf : List (List ℕ) → ImageMap → List ℕ → Type 0
IsRunOf words m text = (options : Options) × (options_of words ≡ Some options) × IsRunText m options text

-- a text stands for an image, and this is the text of its run under the options that words stand for
abbrev pub IsRunOfText : List ℕ → List (List ℕ) → Product → Type 0
IsRunOfText bytes words p = (m : ImageMap) × StandsFor bytes m × IsRunOf words m p.report.items

-- a source with its scripts is accepted, and these are the text of its image and its report
pub record IsVerified (source scripts : List ℕ) (p : Product) : Type 0 where
  pub accepted : IsAccepted source scripts
  pub image : ImageMap
  pub right : IsTheImage source image
  pub written : p.image.items ≡ text image
  pub stands : StandsFor (text image) image
  pub routines : ℕ
  pub conditions : ℕ
  pub simplified : ℕ
  pub scripted : ℕ
  pub counts : AreCounts routines conditions simplified scripted
  pub report : p.report.items ≡ accepted_text routines conditions simplified scripted
