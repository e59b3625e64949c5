-- How a put ends a command.
use Rattle.std.specs.Prelude.{◌≡◌, ◌⊎◌, ℕ, List, IsTrue}
use Rattle.sp_base.specs.Files.{Output, Rose}
use Rattle.sp_cli.specs.declared.status.Status.{Status}
use Rattle.sp_cli.specs.declared.status.Status.TheVariants.{SinkFault, Memory}
use Rattle.sp_cli.specs.Space.{Took, TookFront}

-- a put ends in the status whose text it is, with all of it taken, or in a fault of the sink, or for want of memory
abbrev pub PutEnds : Status → List ℕ → Output → Output → Status → Type 0
PutEnds status text before after result =
    ((result ≡ status) × Took before after text)
    ⊎ (((result ≡ SinkFault) × Rose before.faults after.faults × (IsTrue before.told → TookFront before after text))
    ⊎ ((result ≡ Memory) × (IsTrue before.told → TookFront before after text)))
