use Rattle.std.proofs.Common.{arith, refl}
use Rattle.sp_graph_laws.proofs.laws.limits_by_example.Goals as goal

pub returns : goal.returns
returns c = record {
  most = λ all e. (refl, omega (arith, e));
  not_too_many = λ all count e g. omega (arith, e, g.0);
  one_more = λ all e. (omega (arith, e), omega (arith, e));
  not_given = λ all given e g. omega (arith, e, g.1);
  exact = λ all count e g. omega (arith, e, g.1);
  greatest = λ all e. (omega (arith, e), omega (arith, e));
}
