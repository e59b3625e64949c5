use Rattle.sp_script_text.proofs.ExampleLemmas.{hypothesis_stands, zero_falls, leading_falls, upper_falls, blanks_stands, comma_falls, back_stands, back_first_falls, formula_stands, sort_falls, glued_falls, numbers_stands, nameless_falls, memory_stands, memory_last_falls}
use Rattle.sp_script_text.proofs.laws.steps_by_example.Goals as goal

pub returns : goal.returns
returns c = record {
  hypothesis = hypothesis_stands;
  zero = zero_falls;
  leading = leading_falls;
  case = upper_falls;
  blanks = blanks_stands;
  comma = comma_falls;
  back = back_stands;
  back_first = back_first_falls;
  formula = formula_stands;
  sort = sort_falls;
  glued = glued_falls;
  numbers = numbers_stands;
  nameless = nameless_falls;
  memory = memory_stands;
  memory_last = memory_last_falls;
}
