use Rattle.sp_fdl.proofs.ExampleLemmas.{blanks_stand, ends_fall, runs_stand, runs_fall, zeros_stand, numbers_stand, zeros_fall, names_fall, signs_stand, signs_fall, width_falls, sorts_fall, scope_stands, scope_falls, ends_of_scope_fall}
use Rattle.sp_fdl.proofs.laws.texts_by_example.Goals as goal

pub returns : goal.returns
returns c = record {
  blanks = blanks_stand;
  ends = ends_fall;
  runs = runs_stand;
  glued = runs_fall;
  zeros = zeros_stand;
  number = numbers_stand;
  leading = zeros_fall;
  run = names_fall;
  signs = signs_stand;
  minus = signs_fall;
  wide = width_falls;
  sorts = sorts_fall;
  scope = scope_stands;
  unbound = scope_falls;
  unbound_end = ends_of_scope_fall;
}
