-- The files that commands read (this project's own).
use Rattle.std.specs.Prelude.{◌≡◌, ◌⊎◌, ℕ, ◌<◌, ◌≤◌, List, length, Option, Some, None}
use Rattle.sp_cli.specs.declared.refusal.Input.{Input}
use Rattle.sp_cli.specs.declared.refusal.Input.TheVariants.{Source, Scripts, Image}
use Rattle.sp_cli.specs.declared.refusal.Refusal.{Refusal}
use Rattle.sp_cli.specs.declared.refusal.Refusal.TheVariants.{Missing, TooLarge}

-- the most bytes of an input
abbrev pub limit : Input → ℕ
limit Source = 1048576
limit Scripts = 4194304
limit Image = 1048576

-- what the file of each input holds, if there is such a file; nothing for an input that a command doesn't read
pub record Held : Type 0 where
  pub source : Option (List ℕ)
  pub scripts : Option (List ℕ)
  pub image : Option (List ℕ)

abbrev pub content : Input → Held → Option (List ℕ)
content Source held = held.source
content Scripts held = held.scripts
content Image held = held.image

-- there is a file, within the limit of the input
abbrev pub IsWithin : Input → Option (List ℕ) → Type 0
IsWithin input file = (bytes : List ℕ) × (file ≡ Some bytes) × (length bytes ≤ limit input)

-- there is no file, or it has more bytes than the limit
abbrev pub RefusesFile : Input → Option (List ℕ) → Refusal → Type 0
RefusesFile input file r =
    ((r ≡ Missing input) × (file ≡ None))
    ⊎ ((r ≡ TooLarge input) × ((bytes : List ℕ) × (file ≡ Some bytes) × (limit input < length bytes)))
