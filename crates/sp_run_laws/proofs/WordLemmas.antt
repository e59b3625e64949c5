-- Option words, computed.
use Rattle.std.proofs.Common.{◌≡◌, Some, refl}
use Rattle.sp_base.specs.declared.location.Reg.{Reg}
use Rattle.sp_base.specs.declared.location.Reg.TheVariants as reg
use Rattle.sp_isa.specs.declared.instr.Arg.TheVariants as arg
use Rattle.sp_lex.specs.Numbers.{number_of}
use Rattle.sp_words.specs.Registers.{arg_name}
use Rattle.sp_run.specs.declared.targets.Target.TheVariants as target
use Rattle.sp_run.specs.Options.{options_of}
use Rattle.sp_run.specs.Settings.{named, setting_of}
use Rattle.sp_run.specs.Words.{given_from}
use Rattle.sp_run_laws.specs.Words.{StandForOptions, StandForSettings}

pub stand_for_options : StandForOptions
unfolding options_of given_from named setting_of number_of
stand_for_options = record {
  none = refl;
  counter = refl;
  joined_counter = refl;
  last_address = refl;
  no_address = refl;
  counter_twice = refl;
  steps = refl;
  joined_steps = refl;
  most_steps = refl;
  more_steps = refl;
  no_decimal = refl;
  steps_twice = refl;
  both = refl;
  setting = refl;
  joined_setting = refl;
  settings = refl;
  no_setting = refl;
  without_value = refl;
  option_as_value = refl;
  unknown = refl;
  no_option = refl;
}

named_registers : (r : Reg) → named (arg_name (arg.Reg r)) ≡ Some (target.Register r)
unfolding named
named_registers reg.A = refl
named_registers reg.B = refl
named_registers reg.C = refl
named_registers reg.D = refl
named_registers reg.E = refl
named_registers reg.H = refl
named_registers reg.L = refl

pub stand_for_settings : StandForSettings
unfolding options_of given_from named setting_of number_of
stand_for_settings = record {
  registers = named_registers;
  byte = refl;
  no_byte = refl;
  small_letters = refl;
  bc = refl;
  no_word = refl;
  de = refl;
  hl = refl;
  sign = refl;
  zero = refl;
  half_carry = refl;
  parity = refl;
  carry = refl;
  no_bit = refl;
  input = refl;
  no_input = refl;
  cell = refl;
  no_cell = refl;
  last_cell = refl;
  past_cells = refl;
  no_name = refl;
  nothing_set = refl;
  no_value = refl;
  no_sign = refl;
  two_signs = refl;
}
