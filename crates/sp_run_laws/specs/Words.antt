-- Option words that differ little, and what they stand for.
use Rattle.std.specs.Prelude.{◌≡◌, ℕ, true, List, [], ◌∷◌, Option, Some, None, codes}
use Rattle.sp_base.specs.declared.location.Reg.{Reg}
use Rattle.sp_base.specs.declared.location.Reg.TheVariants as reg
use Rattle.sp_base.specs.declared.pair.Pair.TheVariants as pair
use Rattle.sp_isa.specs.declared.instr.Arg.TheVariants as arg
use Rattle.sp_words.specs.Registers.{arg_name}
use Rattle.sp_run.specs.declared.settings.Flag.TheVariants as flag
use Rattle.sp_run.specs.declared.settings.Options.{Options}
use Rattle.sp_run.specs.declared.settings.Setting.{Setting}
use Rattle.sp_run.specs.declared.settings.Setting.TheVariants.{Register, Pair, Flag, Input, Cell}
use Rattle.sp_run.specs.declared.targets.Target.TheVariants as target
use Rattle.sp_run.specs.Options.{options_of}
use Rattle.sp_run.specs.Settings.{named, setting_of}

abbrev pub options : Option ℕ → ℕ → List Setting → Option Options
options pc steps settings = Some (record { pc = pc; steps = steps; settings = settings })

-- options and their values
pub record StandForOptions : Type 0 where
  pub none : options_of [] ≡ options None 10000 []
  pub counter : options_of (codes "--pc" ∷ codes "100H" ∷ []) ≡ options (Some 256) 10000 []
  pub joined_counter : options_of (codes "--pc=100H" ∷ []) ≡ options (Some 256) 10000 []
  pub last_address : options_of (codes "--pc=65535" ∷ []) ≡ options (Some 65535) 10000 []
  pub no_address : options_of (codes "--pc=65536" ∷ []) ≡ None
  pub counter_twice : options_of (codes "--pc=1" ∷ codes "--pc=1" ∷ []) ≡ None
  pub steps : options_of (codes "--steps" ∷ codes "5" ∷ []) ≡ options None 5 []
  pub joined_steps : options_of (codes "--steps=5" ∷ []) ≡ options None 5 []
  pub most_steps : options_of (codes "--steps=1000000" ∷ []) ≡ options None 1000000 []
  pub more_steps : options_of (codes "--steps=1000001" ∷ []) ≡ None
  pub no_decimal : options_of (codes "--steps=5H" ∷ []) ≡ None
  pub steps_twice : options_of (codes "--steps=5" ∷ codes "--steps=5" ∷ []) ≡ None
  pub both : options_of (codes "--steps=5" ∷ codes "--pc=1" ∷ []) ≡ options (Some 1) 5 []
  pub setting : options_of (codes "--set" ∷ codes "B=5" ∷ []) ≡ options None 10000 (Register reg.B 5 ∷ [])
  pub joined_setting : options_of (codes "--set=B=5" ∷ []) ≡ None
  pub settings :
      options_of (codes "--set" ∷ codes "B=5" ∷ codes "--pc=1" ∷ codes "--set" ∷ codes "B=6" ∷ [])
      ≡ options (Some 1) 10000 (Register reg.B 5 ∷ Register reg.B 6 ∷ [])
  pub no_setting : options_of (codes "--set" ∷ codes "B=5" ∷ codes "--set" ∷ codes "B=256" ∷ []) ≡ None
  pub without_value : options_of (codes "--pc" ∷ []) ≡ None
  pub option_as_value : options_of (codes "--pc" ∷ codes "--steps" ∷ codes "5" ∷ []) ≡ None
  pub unknown : options_of (codes "--port" ∷ codes "5" ∷ []) ≡ None
  pub no_option : options_of (codes "5" ∷ []) ≡ None

-- settings: registers, pairs, flags, inputs and cells, each in its range
pub record StandForSettings : Type 0 where
  pub registers : (r : Reg) → named (arg_name (arg.Reg r)) ≡ Some (target.Register r)
  pub byte : setting_of (codes "B=255") ≡ Some (Register reg.B 255)
  pub no_byte : setting_of (codes "B=256") ≡ None
  pub small_letters : setting_of (codes "sp=0ffh") ≡ Some (Pair pair.Sp 255)
  pub bc : setting_of (codes "BC=65535") ≡ Some (Pair pair.B 65535)
  pub no_word : setting_of (codes "BC=65536") ≡ None
  pub de : setting_of (codes "DE=5") ≡ Some (Pair pair.D 5)
  pub hl : setting_of (codes "HL=5") ≡ Some (Pair pair.H 5)
  pub sign : setting_of (codes "S=1") ≡ Some (Flag flag.S true)
  pub zero : setting_of (codes "Z=1") ≡ Some (Flag flag.Z true)
  pub half_carry : setting_of (codes "AC=1") ≡ Some (Flag flag.Ac true)
  pub parity : setting_of (codes "P=1") ≡ Some (Flag flag.P true)
  pub carry : setting_of (codes "CY=1") ≡ Some (Flag flag.Cy true)
  pub no_bit : setting_of (codes "CY=2") ≡ None
  pub input : setting_of (codes "IN=255") ≡ Some (Input 255)
  pub no_input : setting_of (codes "IN=256") ≡ None
  pub cell : setting_of (codes "0BH=255") ≡ Some (Cell 11 255)
  pub no_cell : setting_of (codes "0BH=256") ≡ None
  pub last_cell : setting_of (codes "65535=5") ≡ Some (Cell 65535 5)
  pub past_cells : setting_of (codes "65536=5") ≡ None
  pub no_name : setting_of (codes "X=5") ≡ None
  pub nothing_set : setting_of (codes "=5") ≡ None
  pub no_value : setting_of (codes "B=") ≡ None
  pub no_sign : setting_of (codes "B") ≡ None
  pub two_signs : setting_of (codes "B=5=5") ≡ None
