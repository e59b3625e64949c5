-- Where a run starts (this project's own).
use Rattle.std.specs.Prelude.{◌≡◌, ℕ, Bool, true, false, List, [], fold, Option, Some, None}
use Rattle.std.specs.List.{filter_map}
use Rattle.sp_base.specs.declared.location.Loc.{Loc}
use Rattle.sp_base.specs.declared.location.Loc.TheVariants as loc
use Rattle.sp_base.specs.Image.{ImageMap}
use Rattle.sp_isa.specs.Core.{Core, IsBlank, with_reg, with_flag, with_cell, with_pc}
use Rattle.sp_isa.specs.Operands.{with_pair}
use Rattle.sp_hex.specs.Load.{IsLoaded}
use Rattle.sp_model.specs.State.{State}
use Rattle.sp_run.specs.declared.settings.Flag.{Flag}
use Rattle.sp_run.specs.declared.settings.Flag.TheVariants as flag
use Rattle.sp_run.specs.declared.settings.Setting.{Setting}
use Rattle.sp_run.specs.declared.settings.Setting.TheVariants as setting
use Rattle.sp_run.specs.declared.settings.Options.{Options}

-- a flag as a location
abbrev pub flag_loc : Flag → Loc
flag_loc flag.S = loc.S
flag_loc flag.Z = loc.Z
flag_loc flag.Ac = loc.Ac
flag_loc flag.P = loc.P
flag_loc flag.Cy = loc.Cy

abbrev pub bit : Bool → ℕ
bit false = 0
bit true = 1

-- the core with a setting made; an input is no part of the core
unfoldable pub with_setting : Setting → Core → Core
with_setting (setting.Register r byte) core = with_reg r byte core
with_setting (setting.Pair p word) core = with_pair p word core
with_setting (setting.Flag f on) core = with_flag (flag_loc f) (bit on) core
with_setting (setting.Input byte) core = core
with_setting (setting.Cell a byte) core = with_cell a byte core

-- the core with settings made in their order
abbrev pub with_settings : List Setting → Core → Core
with_settings settings core = fold (λ core setting. with_setting setting core) core settings

-- the input that a setting gives
abbrev pub input_of : Setting → Option ℕ
input_of (setting.Input byte) = Some byte
input_of _ = None

-- the inputs that settings give, in their order
abbrev pub inputs_of : List Setting → List ℕ
inputs_of settings = filter_map input_of settings

-- the core with another program counter, if one is given
abbrev pub with_counter : Option ℕ → Core → Core
with_counter (Some pc) core = with_pc pc core
with_counter None core = core

-- a run of an image starts with this core: all is 0 and not halted, then the image is loaded, then the settings are made,
-- and then the program counter is set
pub record IsStartCore (image : ImageMap) (options : Options) (core : Core) : Type 0 where
  pub blank : Core
  pub loaded : Core
  pub all_zero : IsBlank blank
  pub has_image : IsLoaded image blank loaded
  pub set : core ≡ with_counter options.pc (with_settings options.settings loaded)

-- a run of an image starts with this state: the inputs are those of the settings, and nothing was put out
pub record IsStart (image : ImageMap) (options : Options) (s : State) : Type 0 where
  pub core : IsStartCore image options s.core
  pub inputs : s.inputs ≡ inputs_of options.settings
  pub outputs : s.outputs ≡ []
