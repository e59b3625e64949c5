-- Command lines (this project's own).
use Rattle.std.specs.Prelude.{◌≡◌, ◌≢◌, ℕ, ⊤, List, [], ◌∷◌, Option, Some, None, IsSome, IsTrue, codes, map, string_bytes, String}
use Rattle.std.specs.declared.alloc.Global.{Global}
use Rattle.sp_base.specs.Files.{Store}
use Rattle.sp_run.specs.Options.{options_of}
use Rattle.sp_cli.specs.Inputs.{Held}

-- the words of a command line
abbrev pub words_of : List (String Global) → List (List ℕ)
words_of words = map string_bytes words

-- a command with the names of its files, and the option words of a run
pub data Command : Type 0 where
  Verify : (source scripts image : List ℕ) → Command
  Asm : (source image : List ℕ) → Command
  Run : (image : List ℕ) (options : List (List ℕ)) → Command
  Check : (source : List ℕ) → Command

-- a word that doesn't begin with `-`
abbrev pub IsFileName : List ℕ → Type 0
IsFileName [] = ⊤
IsFileName (byte ∷ bytes) = byte ≢ 45

-- the option words of a run stand for options
abbrev pub HasOptions : Command → Type 0
HasOptions (Verify source scripts image) = ⊤
HasOptions (Asm source image) = ⊤
HasOptions (Run image options) = IsSome (options_of options)
HasOptions (Check source) = ⊤

-- the words, without the program's name, are in the form of the command
abbrev pub HasForm : List (List ℕ) → Command → Type 0
HasForm words (Verify source scripts image) = (words ≡ codes "verify" ∷ source ∷ scripts ∷ image ∷ []) × IsFileName source × IsFileName scripts × IsFileName image
HasForm words (Asm source image) = (words ≡ codes "asm" ∷ source ∷ image ∷ []) × IsFileName source × IsFileName image
HasForm words (Run image options) = (words ≡ codes "run" ∷ image ∷ options) × IsFileName image × IsSome (options_of options)
HasForm words (Check source) = (words ≡ codes "check" ∷ source ∷ []) × IsFileName source

-- the words are in no form
abbrev pub HasNoForm : List (List ℕ) → Type 0
HasNoForm words = (c : Command) → ¬ HasForm words c

-- the words are in the form of a command
abbrev pub HasSomeForm : List (List ℕ) → Type 0
HasSomeForm words = (c : Command) × HasForm words c

-- the name of the file that a command may write
abbrev pub image_name : Command → Option (List ℕ)
image_name (Verify source scripts image) = Some image
image_name (Asm source image) = Some image
image_name (Run image options) = None
image_name (Check source) = None

-- the names of the files that a command reads, in the order in which it reads them
abbrev pub read_names : Command → List (List ℕ)
read_names (Verify source scripts image) = source ∷ scripts ∷ []
read_names (Asm source image) = source ∷ []
read_names (Run image options) = image ∷ []
read_names (Check source) = source ∷ []

-- what the inputs of a command hold, where files hold this by their names
abbrev pub held_by : (List ℕ → Option (List ℕ)) → Command → Held
held_by files (Verify source scripts image) = record { source = files source; scripts = files scripts; image = None }
held_by files (Asm source image) = record { source = files source; scripts = None; image = None }
held_by files (Run image options) = record { source = None; scripts = None; image = files image }
held_by files (Check source) = record { source = files source; scripts = None; image = None }

-- where the files tell what they hold, the inputs of the command hold this
abbrev pub AreHeld : Store → Command → Held → Type 0
AreHeld files c held = IsTrue files.told → held ≡ held_by files.contents c
