use Rattle.sp_script_text.proofs.ExampleLemmas.{comment_stands, indented_falls, head_stands, zero_head_falls, number_head_falls, name_head_falls, end_stands, end_falls}
use Rattle.sp_script_text.proofs.laws.lines_by_example.Goals as goal

pub returns : goal.returns
returns c = record {
  comment = comment_stands;
  indented = indented_falls;
  head = head_stands;
  zero = zero_head_falls;
  number = number_head_falls;
  name = name_head_falls;
  last = end_stands;
  no_last = end_falls;
}
