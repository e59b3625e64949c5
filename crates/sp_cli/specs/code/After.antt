-- How a command ends.
use Rattle.std.specs.Prelude.{◌≡◌, ℕ, List, Some, IsTrue}
use Rattle.sp_base.specs.Files.{Store, Output}
use Rattle.sp_cli.specs.declared.status.Status.{Status}
use Rattle.sp_cli.specs.Command.{Command, image_name, AreHeld}
use Rattle.sp_cli.specs.Inputs.{Held}
use Rattle.sp_cli.specs.Space.{Took, ImageAfter, SinkAfter, IsTextOf}
use Rattle.sp_cli.specs.Stages.{Accepts}
use Rattle.sp_cli.specs.declared.status.Status.TheVariants.{Done, Refused, Usage, WriteFault, TooLong}

-- what a status says of what the inputs held
abbrev pub Says : Status → Command → Held → Output → Output → Type 0
Says Done c held before after = (text : List ℕ) × IsTextOf Done c held text × Took before after text
Says Refused c held before after = (text : List ℕ) × IsTextOf Refused c held text × Took before after text
Says TooLong c held before after = (text : List ℕ) × IsTextOf TooLong c held text × Took before after text
Says Usage c held before after = ⊥
Says WriteFault c held before after = Accepts c held
Says _ c held before after = Unit {0}

-- a command with these inputs ended in a status, and left this
pub record After (c : Command) (s : Status) (files left : Store) (before after : Output) : Type 0 where
  pub held : Held
  pub are_held : AreHeld files c held
  pub says : Says s c held before after
  pub image : (name : List ℕ) → image_name c ≡ Some name → IsTrue files.told → ImageAfter s c held (files.contents name) (left.contents name)
  pub sink : IsTrue before.told → SinkAfter s c held before after
