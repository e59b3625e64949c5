-- What stands after a command, whatever its status, and what each status says.
use Rattle.std.specs.Prelude.{◌≡◌, ◌≢◌, ◌↔◌, ◌⊎◌, ℕ, List, [], ◌∷◌, Option, Some, None}
use Rattle.sp_base.specs.declared.calls.Access.TheVariants.{Write}
use Rattle.sp_base.specs.declared.calls.Outcome.{Outcome}
use Rattle.sp_base.specs.declared.calls.Outcome.TheVariants as outcome
use Rattle.sp_base.specs.Calls.{Call, call}
use Rattle.sp_base.specs.Files.{Output}
use Rattle.sp_cli.specs.declared.refusal.Refusal.{Refusal}
use Rattle.sp_cli.specs.declared.status.Status.{Status}
use Rattle.sp_cli.specs.declared.status.Status.TheVariants as status
use Rattle.sp_cli.specs.Command.{Command}
use Rattle.sp_cli.specs.Inputs.{Held}
use Rattle.sp_cli.specs.Session.{AreWrites, FollowsReads}
use Rattle.sp_cli.specs.Space.{HoldsFront, ImageAfter, IsReport, IsText, IsTextOf, SinkAfter, TookFront}
use Rattle.sp_cli.specs.Stages.{Accepts, Stands}
use Rattle.sp_cli.specs.Texts.{refusal_text}

-- the image file holds what it held, or a front of the text of the command's image; the sink took nothing, or a front of a
-- text of the command
pub record KeepPromises : Type 0 where
  pub file : (s : Status) (c : Command) (held : Held) (before after : Option (List ℕ)) → ImageAfter s c held before after
      → (after ≡ before) ⊎ HoldsFront c held after
  pub sink : (s : Status) (c : Command) (held : Held) (before after : Output) → SinkAfter s c held before after
      → (after.taken ≡ before.taken) ⊎ ((text : List ℕ) × IsText c held text × TookFront before after text)

-- a file may stay as it was, whatever it held, unless the command is done or its sink failed; a sink may take nothing where
-- memory ran out
pub record MayStay : Type 0 where
  pub file : (s : Status) (c : Command) (held : Held) (file : Option (List ℕ)) → s ≢ status.Done → s ≢ status.SinkFault
      → ImageAfter s c held file file
  pub sink : (c : Command) (held : Held) (output : Output) → SinkAfter status.Memory c held output output

-- the text of Done is the report of a command that accepts, that of Refused the line of the refusal that stands; no other
-- status of these commands has a text
pub record SayStatuses : Type 0 where
  pub done : (c : Command) (held : Held) (text : List ℕ) → IsTextOf status.Done c held text ↔ (Accepts c held × IsReport c held text)
  pub refused : (c : Command) (held : Held) (text : List ℕ)
      → IsTextOf status.Refused c held text ↔ ((r : Refusal) × Stands c held r × (text ≡ refusal_text r))
  pub none : (s : Status) (c : Command) (held : Held) (text : List ℕ) → s ≢ status.Done → s ≢ status.Refused → ¬ IsTextOf s c held text

-- a command is done where all its reads were, ends with a read fault where one failed, and refuses where all were done or one
-- found no file or one too large
pub record FollowReads : Type 0 where
  pub done : (end : Outcome) → FollowsReads end status.Done ↔ (end ≡ outcome.Done)
  pub fault : (end : Outcome) → FollowsReads end status.ReadFault ↔ (end ≡ outcome.Failed)
  pub refused : (end : Outcome) → FollowsReads end status.Refused ↔ ((end ≢ outcome.Failed) × (end ≢ outcome.Memory))

-- an image is written once at most, and never where the command has none
pub record WriteOnce : Type 0 where
  pub none : (s : Status) (calls : List Call) → AreWrites None s calls ↔ (calls ≡ [])
  pub once : (s : Status) (name : List ℕ) (calls : List Call) → AreWrites (Some name) s calls
      → (calls ≡ []) ⊎ ((end : Outcome) × (calls ≡ call Write name end ∷ []))
  pub done : (name : List ℕ) (calls : List Call) → AreWrites (Some name) status.Done calls ↔ (calls ≡ call Write name outcome.Done ∷ [])
  pub refused : (name : List ℕ) (calls : List Call) → AreWrites (Some name) status.Refused calls ↔ (calls ≡ [])
