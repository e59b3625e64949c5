use Rattle.std.proofs.Common.{refl}
use Rattle.sp_eval.specs.Nodes.{count_from}
use Rattle.sp_eval.proofs.laws.nodes_are_counted.Goals as goal

pub returns : goal.returns
unfolding count_from
returns c = record {
  comparison = λ f entry now. refl;
  negation = λ f entry now. refl;
  both_sides = λ f entry now. refl;
  both_of_or = λ f entry now. refl;
  both_of_implies = λ f entry now. refl;
  indices = λ f entry now. refl;
  false_at_once = λ f entry now. refl;
  true_at_once = λ f entry now. refl;
  no_index = λ f entry now. refl;
  cells = λ f entry now. refl;
  no_cell = λ f entry now. refl;
  no_addresses = λ f entry now. refl;
  parts = λ f entry now. refl;
}
