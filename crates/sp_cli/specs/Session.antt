-- The calls that a command makes on files (this project's own).
use Rattle.std.specs.Prelude.{◌≡◌, ◌≢◌, ◌⊎◌, ℕ, List, [], ◌∷◌, ◌++◌, Option, Some, None}
use Rattle.sp_base.specs.declared.calls.Access.TheVariants.{Read, Write}
use Rattle.sp_base.specs.declared.calls.Outcome.{Outcome}
use Rattle.sp_base.specs.declared.calls.Outcome.TheVariants as outcome
use Rattle.sp_base.specs.Calls.{Call, call}
use Rattle.sp_cli.specs.declared.status.Status.{Status}
use Rattle.sp_cli.specs.declared.status.Status.TheVariants as status
use Rattle.sp_cli.specs.Command.{Command, image_name, read_names}

-- files of these names are read in their order: all of them, or up to the first read that isn't done, whose outcome this is. A read that
-- ran out of memory may be no call
abbrev pub AreReads : List (List ℕ) → Outcome → List Call → Type 0
AreReads [] end calls = (end ≡ outcome.Done) × (calls ≡ [])
AreReads (name ∷ names) end calls =
    ((rest : List Call) × (calls ≡ call Read name outcome.Done ∷ rest) × AreReads names end rest)
    ⊎ ((end ≢ outcome.Done) × ((calls ≡ call Read name end ∷ []) ⊎ ((end ≡ outcome.Memory) × (calls ≡ []))))

-- the status of a command whose reads end so
abbrev pub FollowsReads : Outcome → Status → Type 0
FollowsReads outcome.Done s = s ≢ status.ReadFault
FollowsReads outcome.Missing s = (s ≡ status.Refused) ⊎ ((s ≡ status.SinkFault) ⊎ (s ≡ status.Memory))
FollowsReads outcome.TooLarge s = (s ≡ status.Refused) ⊎ ((s ≡ status.SinkFault) ⊎ (s ≡ status.Memory))
FollowsReads outcome.Failed s = s ≡ status.ReadFault
FollowsReads outcome.Memory s = s ≡ status.Memory

-- the write of an image, by the status: one at most, and none where the command ends before it writes
abbrev pub AreWrites : Option (List ℕ) → Status → List Call → Type 0
AreWrites None s calls = calls ≡ []
AreWrites (Some name) status.Done calls = calls ≡ call Write name outcome.Done ∷ []
AreWrites (Some name) status.WriteFault calls = calls ≡ call Write name outcome.Failed ∷ []
AreWrites (Some name) status.SinkFault calls = (calls ≡ []) ⊎ (calls ≡ call Write name outcome.Done ∷ [])
AreWrites (Some name) status.Memory calls = (calls ≡ []) ⊎ ((end : Outcome) × (end ≢ outcome.Failed) × (calls ≡ call Write name end ∷ []))
AreWrites (Some name) _ calls = calls ≡ []

-- a command that ends in this status reads exactly its inputs, none after the first that isn't given, and then writes its image at most once
pub record IsSession (c : Command) (s : Status) (calls : List Call) : Type 0 where
  pub reads : List Call
  pub writes : List Call
  pub end : Outcome
  pub whole : calls ≡ reads ++ writes
  pub are_reads : AreReads (read_names c) end reads
  pub follows : FollowsReads end s
  pub are_writes : AreWrites (image_name c) s writes
  pub early : end ≢ outcome.Done → writes ≡ []

-- the calls that were added are such a session
abbrev pub AddsSession : Command → Status → List Call → List Call → Type 0
AddsSession c s before after = (calls : List Call) × (after ≡ before ++ calls) × IsSession c s calls
