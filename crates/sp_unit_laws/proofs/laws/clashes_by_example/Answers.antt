use Rattle.std.proofs.Common.{◌≡◌, refl}
use Rattle.std.specs.Ordering.{nat_cmp}
use Rattle.std.specs.FinMap as maps
use Rattle.sp_unit_laws.specs.Breaks.{cells}
use Rattle.sp_unit_laws.proofs.laws.clashes_by_example.Goals as goal

held : maps.entries (maps.from_sorted {R = nat_cmp} cells) ≡ cells
held = maps.entries-from_sorted nat_cmp cells tt

pub returns : goal.returns
returns c = record {
  backwards = refl;
  one_cell = rw held refl;
  last = rw held refl;
  past_last = refl;
  beside_image = rw held refl;
  in_image = rw held refl;
  no_cell = refl;
  cell = refl;
  at_the_end = refl;
  past_the_end = refl;
  word_past_the_end = refl;
  below_stack = refl;
  touches_stack = refl;
  above_stack = refl;
  last_of_stack = refl;
  once = refl;
  twice = refl;
  port = refl;
  past_port = refl;
  past_in_port = refl;
  changes = rw held refl;
  changes_image = rw held refl;
  reads_image = refl;
}
