use Rattle.std.proofs.Common.{arith}
use Rattle.sp_eval.proofs.laws.bounds_are_of_all_parts.Goals as goal

pub returns : goal.returns
returns c = record {
  literal = (omega arith, omega arith);
  wide_literal = λ h. let l = h.1 in absurd (omega (arith, l));
  sum = λ h. let l = h.1.0 in absurd (omega (arith, l));
  difference = λ h. let l = h.1.0 in absurd (omega (arith, l));
  product = (omega arith, (omega arith, omega arith, omega arith));
  wide_product = λ h. let l = h.1.0 in absurd (omega (arith, l));
  quotient = λ h. let l = h.1.0 in absurd (omega (arith, l));
  rest = (omega arith, (omega arith, (omega arith, omega arith, omega arith), omega arith));
  inside = λ h. let l = h.1.1 in absurd (omega (arith, l));
  index = λ h. let l = h.2.1.0 in absurd (omega (arith, l));
  low_index = λ h. let l = h.2.1.0 in absurd (omega (arith, l));
  narrow_index = (omega arith, omega arith, (omega arith, (omega arith, omega arith, omega arith)));
}
