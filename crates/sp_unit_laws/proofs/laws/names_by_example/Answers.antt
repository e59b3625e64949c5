use Rattle.std.proofs.Common.{refl}
use Rattle.sp_unit_laws.proofs.laws.names_by_example.Goals as goal

pub returns : goal.returns
returns c = record {
  byte = refl;
  byte_at_entry = refl;
  word = refl;
  bytes_alone = refl;
  element = refl;
  element_at_entry = refl;
  element_of_byte = refl;
  element_of_word = refl;
  assembler = refl;
  assembler_at_entry = refl;
  unknown = refl;
  address = refl;
  length = refl;
  address_of_number = refl;
  length_of_number = refl;
  literal = refl;
  register = refl;
  pair = refl;
  any_cell = refl;
  stack_word = refl;
  total = refl;
  negative = refl;
  parity = refl;
  difference = refl;
  of_part = refl;
  truth = refl;
}
