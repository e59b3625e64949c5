-- What a command gives: its image, its report, and the text that it ends with (this project's own).
use Rattle.std.specs.Prelude.{◌≡◌, ◌≢◌, ◌⊎◌, ℕ, List, [], ◌++◌, length, Option, Some, IsTrue}
use Rattle.std.specs.List.{flat_map}
use Rattle.std.specs.FinMap as maps
use Rattle.sp_base.specs.Image.{ImageMap}
use Rattle.sp_base.specs.Files.{Store, Output, IsFrontOf}
use Rattle.sp_asm.specs.Assembly.{Row, image_of, names_of}
use Rattle.sp_asm.specs.Source.{HasAssembly}
use Rattle.sp_hex.specs.Hex.{text, StandsFor}
use Rattle.sp_check.specs.Refusals.{HasSoundUnit}
use Rattle.sp_check.specs.Units.{instruction_count}
use Rattle.sp_prog.specs.Program.{Program}
use Rattle.sp_first.specs.Right.{IsTheImage}
use Rattle.sp_first.specs.Counts.{AreCounts}
use Rattle.sp_run.specs.declared.settings.Options.{Options}
use Rattle.sp_run.specs.Options.{options_of}
use Rattle.sp_run.specs.Run.{IsRunText}
use Rattle.sp_cli.specs.Command.{Command, Verify, Asm, Run, Check, HasForm, AreHeld}
use Rattle.sp_cli.specs.Inputs.{Held}
use Rattle.sp_cli.specs.Stages.{Stands, Accepts}
use Rattle.sp_cli.specs.Texts.{accepted_text, assembled_text, sound_text, refusal_text, too_long_text, usage_text}
use Rattle.sp_cli.specs.declared.refusal.Refusal.{Refusal}
use Rattle.sp_cli.specs.declared.status.Status.{Status}
use Rattle.sp_cli.specs.declared.status.Status.TheVariants.{Done, Refused, Usage, ReadFault, WriteFault, SinkFault, Memory, TooLong}

-- ---- The image

-- the image that a command writes: the one right image of the source, or the image of the source's assembly; a run and a
-- check write none
abbrev pub IsImageOf : Command → Held → ImageMap → Type 0
IsImageOf (Verify source scripts image) held m = (bytes : List ℕ) × (held.source ≡ Some bytes) × IsTheImage bytes m
IsImageOf (Asm source image) held m = (bytes : List ℕ) × (rows : List Row) × (held.source ≡ Some bytes) × HasAssembly bytes rows × (m ≡ image_of rows)
IsImageOf (Run image options) held m = ⊥
IsImageOf (Check source) held m = ⊥

-- a file holds the text of that image, and the text stands for it
pub record HoldsImage (c : Command) (held : Held) (file : Option (List ℕ)) : Type 0 where
  pub image : ImageMap
  pub right : IsImageOf c held image
  pub written : file ≡ Some (text image)
  pub stands : StandsFor (text image) image

-- a file holds the front of that text
pub record HoldsFront (c : Command) (held : Held) (file : Option (List ℕ)) : Type 0 where
  pub image : ImageMap
  pub front : List ℕ
  pub right : IsImageOf c held image
  pub is_front : IsFrontOf front (text image)
  pub written : file ≡ Some front

-- ---- The texts

-- what a command reports where all is done
abbrev pub IsReport : Command → Held → List ℕ → Type 0
IsReport (Verify source scripts image) held report =
    (routines conditions simplified scripted : ℕ) × AreCounts routines conditions simplified scripted
    × (report ≡ accepted_text routines conditions simplified scripted)
IsReport (Asm source image) held report =
    (bytes : List ℕ) × (rows : List Row) × (held.source ≡ Some bytes) × HasAssembly bytes rows
    × (report ≡ assembled_text (maps.len (image_of rows)) (length (names_of rows)))
IsReport (Run image words) held report =
    (bytes : List ℕ) × (m : ImageMap) × (options : Options) × (held.image ≡ Some bytes) × StandsFor bytes m
    × (options_of words ≡ Some options) × IsRunText m options report
IsReport (Check source) held report =
    (bytes : List ℕ) × (p : Program) × (held.source ≡ Some bytes) × HasSoundUnit bytes p
    × (report ≡ sound_text (length p.routines) (instruction_count p))

-- an evaluation takes too long, with so many nodes; these commands evaluate nothing
abbrev pub IsTooLong : Command → Held → ℕ → Type 0
IsTooLong c held count = ⊥

-- the texts that a command puts before its last one, in their order; these commands put none
abbrev pub ArePutBefore : Command → Held → List (List ℕ) → Type 0
ArePutBefore c held texts = texts ≡ []

-- the last text of a command that ends in this status
abbrev pub IsLastText : Status → Command → Held → List ℕ → Type 0
IsLastText Done c held last = Accepts c held × IsReport c held last
IsLastText Refused c held last = (r : Refusal) × Stands c held r × (last ≡ refusal_text r)
IsLastText TooLong c held last = (count : ℕ) × IsTooLong c held count × (last ≡ too_long_text count)
IsLastText _ c held last = ⊥

-- the whole text that a command puts where it ends in this status
pub record IsTextOf (s : Status) (c : Command) (held : Held) (text : List ℕ) : Type 0 where
  pub before : List (List ℕ)
  pub last : List ℕ
  pub are_before : ArePutBefore c held before
  pub is_last : IsLastText s c held last
  pub whole : text ≡ flat_map (λ t. t) before ++ last

-- a text that a command puts
abbrev pub IsText : Command → Held → List ℕ → Type 0
IsText c held text = (s : Status) × IsTextOf s c held text

-- the sink took this text, where it tells what it takes
abbrev pub Took : Output → Output → List ℕ → Type 0
Took before after text = IsTrue before.told → after.taken ≡ before.taken ++ text

-- the sink took a front of this text
abbrev pub TookFront : Output → Output → List ℕ → Type 0
TookFront before after text = (front : List ℕ) × IsFrontOf front text × (after.taken ≡ before.taken ++ front)

-- the words are in the form of a command, which puts the text of this status by what its inputs hold
pub record Ends (s : Status) (words : List (List ℕ)) (files : Store) (before after : Output) : Type 0 where
  pub command : Command
  pub form : HasForm words command
  pub held : Held
  pub are_held : AreHeld files command held
  pub text : List ℕ
  pub is_text : IsTextOf s command held text
  pub put : Took before after text

-- the words are in the form of a command that accepts what its inputs hold
pub record IsAcceptedBy (words : List (List ℕ)) (files : Store) : Type 0 where
  pub command : Command
  pub form : HasForm words command
  pub held : Held
  pub are_held : AreHeld files command held
  pub accepts : Accepts command held

-- ---- What stands afterwards, by the status

-- a command ended before it wrote: it puts the text of another status than Done
abbrev pub EndsEarly : Command → Held → Type 0
EndsEarly c held = (s : Status) × (text : List ℕ) × (s ≢ Done) × IsTextOf s c held text

-- what the image file holds, which held `before`
abbrev pub ImageAfter : Status → Command → Held → Option (List ℕ) → Option (List ℕ) → Type 0
ImageAfter Done c held before after = HoldsImage c held after
ImageAfter WriteFault c held before after = (after ≡ before) ⊎ HoldsFront c held after
-- whole where the text that was put was the report, else as before
ImageAfter SinkFault c held before after = (EndsEarly c held × (after ≡ before)) ⊎ (Accepts c held × HoldsImage c held after)
ImageAfter Memory c held before after = (after ≡ before) ⊎ HoldsImage c held after
ImageAfter _ c held before after = after ≡ before

-- what the sink took of a command, where it tells what it takes
abbrev pub SinkAfter : Status → Command → Held → Output → Output → Type 0
SinkAfter Usage c held before after = ⊥
SinkAfter ReadFault c held before after = after.taken ≡ before.taken
SinkAfter WriteFault c held before after = after.taken ≡ before.taken
SinkAfter SinkFault c held before after = (text : List ℕ) × IsText c held text × TookFront before after text
-- nothing where memory ran out before a put
SinkAfter Memory c held before after = (after.taken ≡ before.taken) ⊎ ((text : List ℕ) × IsText c held text × TookFront before after text)
SinkAfter s c held before after = (text : List ℕ) × IsTextOf s c held text × (after.taken ≡ before.taken ++ text)

-- what the sink took where the words are in no form
abbrev pub SinkAfterUsage : Status → Output → Output → Type 0
SinkAfterUsage Usage before after = after.taken ≡ before.taken ++ usage_text
SinkAfterUsage SinkFault before after = TookFront before after usage_text
SinkAfterUsage Memory before after = TookFront before after usage_text
SinkAfterUsage _ before after = ⊥
