use Rattle.sp_asm.proofs.ExampleLemmas.{example_twice, example_later, example_undefined, example_past_end, example_undefined_item, example_range, example_overlap}
use Rattle.sp_asm.proofs.laws.causes_by_example.Goals as goal

pub returns : goal.returns
returns c = record {
  twice = example_twice;
  later = example_later;
  undefined = example_undefined;
  past_end = example_past_end;
  undefined_item = example_undefined_item;
  range = example_range;
  overlap = example_overlap;
}
