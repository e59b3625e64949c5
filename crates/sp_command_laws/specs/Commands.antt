-- Command lines, files and refusals that differ little.
use Rattle.std.specs.Prelude.{◌≡◌, ◌↔◌, ◌⊎◌, ℕ, ◌<◌, ◌≤◌, List, [], ◌∷◌, ◌++◌, map, Option, Some, None, codes, replicate}
use Rattle.std.specs.List.{filter_map}
use Rattle.sp_base.specs.declared.calls.Access.TheVariants.{Read}
use Rattle.sp_base.specs.declared.calls.Outcome.TheVariants as outcome
use Rattle.sp_base.specs.Calls.{Call, call}
use Rattle.sp_lex.specs.declared.refusal.TextKind.TheVariants.{OpenQuote}
use Rattle.sp_asm.specs.declared.refusal.AsmKind.TheVariants.{Syntax}
use Rattle.sp_hex.specs.declared.refusal.HexKind.TheVariants.{NoEnd}
use Rattle.sp_unit.specs.declared.refusal.UnitKind.TheVariants.{NoStack}
use Rattle.sp_cli.specs.declared.refusal.Input.{Input}
use Rattle.sp_cli.specs.declared.refusal.Input.TheVariants.{Source, Scripts, Image}
use Rattle.sp_cli.specs.declared.refusal.Refusal.{Refusal}
use Rattle.sp_cli.specs.declared.refusal.Refusal.TheVariants as refusal
use Rattle.sp_cli.specs.Command.{Command, Verify, Asm, Run, Check, HasForm, HasNoForm, held_by, image_name, read_names}
use Rattle.sp_cli.specs.Inputs.{Held, IsWithin, RefusesFile, content, limit}
use Rattle.sp_cli.specs.Session.{AreReads}
use Rattle.sp_cli.specs.Stages.{Stage, Reading, Text, Statements, FirstForm, Records, Checking, Accepts, Stands, stages_of}

-- three names of files, and one that begins like an option
abbrev pub a : List ℕ
a = codes "a"

abbrev pub b : List ℕ
b = codes "b"

abbrev pub c : List ℕ
c = codes "c"

abbrev pub dashed : List ℕ
dashed = codes "-a"

-- words and their command, if there is one
pub record HaveForms : Type 0 where
  pub verify : HasForm (codes "verify" ∷ a ∷ b ∷ c ∷ []) (Verify a b c)
  pub no_source : HasNoForm (codes "verify" ∷ dashed ∷ b ∷ c ∷ [])
  pub no_scripts : HasNoForm (codes "verify" ∷ a ∷ dashed ∷ c ∷ [])
  pub no_image : HasNoForm (codes "verify" ∷ a ∷ b ∷ dashed ∷ [])
  pub too_few : HasNoForm (codes "verify" ∷ a ∷ b ∷ [])
  pub too_many : HasNoForm (codes "verify" ∷ a ∷ b ∷ c ∷ c ∷ [])
  pub asm : HasForm (codes "asm" ∷ a ∷ c ∷ []) (Asm a c)
  pub asm_no_source : HasNoForm (codes "asm" ∷ dashed ∷ c ∷ [])
  pub asm_no_image : HasNoForm (codes "asm" ∷ a ∷ dashed ∷ [])
  pub inner_dash : HasForm (codes "asm" ∷ codes "a-" ∷ c ∷ []) (Asm (codes "a-") c)
  pub run : HasForm (codes "run" ∷ c ∷ codes "--pc" ∷ codes "5" ∷ []) (Run c (codes "--pc" ∷ codes "5" ∷ []))
  pub run_no_image : HasNoForm (codes "run" ∷ dashed ∷ [])
  pub run_no_value : HasNoForm (codes "run" ∷ c ∷ codes "--pc" ∷ [])
  pub check : HasForm (codes "check" ∷ a ∷ []) (Check a)
  pub check_no_source : HasNoForm (codes "check" ∷ dashed ∷ [])
  pub check_two : HasNoForm (codes "check" ∷ a ∷ b ∷ [])
  pub capitals : HasNoForm (codes "ASM" ∷ a ∷ c ∷ [])
  pub nothing : HasNoForm []

-- the input that a stage reads, if it reads one
abbrev pub input_of : Stage → Option Input
input_of (Reading input) = Some input
input_of Text = None
input_of Statements = None
input_of FirstForm = None
input_of Records = None
input_of Checking = None

-- the files that a command reads are its inputs, in the order of its stages; no other input is held, and a run and a check
-- write nothing
pub record NameFiles : Type 0 where
  pub inputs : (files : List ℕ → Option (List ℕ)) (command : Command)
      → map files (read_names command) ≡ map (λ input. content input (held_by files command)) (filter_map input_of (stages_of command))
  pub verify : stages_of (Verify a b c) ≡ Reading Source ∷ Reading Scripts ∷ FirstForm ∷ []
  pub none_else : held_by (λ name. Some name) (Asm a c) ≡ record { source = Some a; scripts = None; image = None }
  pub written : image_name (Asm a c) ≡ Some c
  pub written_by_verify : image_name (Verify a b c) ≡ Some c
  pub run_writes_nothing : image_name (Run c []) ≡ None
  pub check : stages_of (Check a) ≡ Reading Source ∷ Checking ∷ []
  pub check_writes_nothing : image_name (Check a) ≡ None

-- the limits of inputs
pub record LimitFiles : Type 0 where
  pub source : (n : ℕ) → IsWithin Source (Some (replicate n 0)) ↔ (n ≤ 1048576)
  pub scripts : (n : ℕ) → IsWithin Scripts (Some (replicate n 0)) ↔ (n ≤ 4194304)
  pub image : (n : ℕ) → IsWithin Image (Some (replicate n 0)) ↔ (n ≤ 1048576)
  pub none : (input : Input) → ¬ IsWithin input None
  pub missing : (input : Input) (r : Refusal) → RefusesFile input None r ↔ (r ≡ refusal.Missing input)
  pub too_large : (input : Input) (n : ℕ) (r : Refusal)
      → RefusesFile input (Some (replicate n 0)) r ↔ ((r ≡ refusal.TooLarge input) × (limit input < n))

abbrev pub holding : Option (List ℕ) → Option (List ℕ) → Option (List ℕ) → Held
holding source scripts image = record { source = source; scripts = scripts; image = image }

-- the refusal of the first stage that refuses, where later ones would too
pub record OrderRefusals : Type 0 where
  pub source_first : Stands (Verify a b c) (holding None None None) (refusal.Missing Source)
  pub scripts_next : Stands (Verify a b c) (holding (Some (codes "'")) None None) (refusal.Missing Scripts)
  pub text : Stands (Asm a c) (holding (Some (codes "'")) None None) (refusal.Text (record { 0 = 1 }) OpenQuote)
  pub text_before_statements :
      Stands (Asm a c) (holding (Some (codes "5" ++ 10 ∷ codes "'")) None None) (refusal.Text (record { 0 = 2 }) OpenQuote)
  pub statements : Stands (Asm a c) (holding (Some (codes "5")) None None) (refusal.Asm (record { 0 = 1 }) Syntax)
  pub assembled : Accepts (Asm a c) (holding (Some []) None None)
  pub records : Stands (Run c []) (holding None None (Some [])) (refusal.Image (record { 0 = 0 }) NoEnd)
  pub checked_text : Stands (Check a) (holding (Some (codes "'")) None None) (refusal.Text (record { 0 = 1 }) OpenQuote)
  pub checked_unit : Stands (Check a) (holding (Some []) None None) (refusal.Unit (record { 0 = 0 }) NoStack)
  pub loaded : Accepts (Run c []) (holding None None (Some (codes ":00000001FF")))

-- a read that is done, and one that isn't
abbrev pub done : List ℕ → Call
done name = call Read name outcome.Done

-- all files are read in their order, or the last read is the one that isn't done; one that ran out of memory may be left out
pub record OrderReads : Type 0 where
  pub all : (names : List (List ℕ)) (calls : List Call) → AreReads names outcome.Done calls ↔ (calls ≡ map done names)
  pub missing : (calls : List Call)
      → AreReads (a ∷ b ∷ []) outcome.Missing calls
      ↔ ((calls ≡ call Read a outcome.Missing ∷ []) ⊎ (calls ≡ done a ∷ call Read b outcome.Missing ∷ []))
  pub memory : (calls : List Call)
      → AreReads (a ∷ []) outcome.Memory calls ↔ ((calls ≡ call Read a outcome.Memory ∷ []) ⊎ (calls ≡ []))
