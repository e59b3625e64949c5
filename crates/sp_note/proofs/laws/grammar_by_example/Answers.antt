use Rattle.std.proofs.Common.{refl, arith}
use Rattle.sp_note.proofs.laws.grammar_by_example.Goals as goal

pub returns : goal.returns
returns c = record {
  implies_right = (omega arith, omega arith, refl, tt, (omega arith, omega arith, refl, tt, tt));
  implies_left = λ h. let l = h.0 in absurd (omega (arith, l));
  and_left = (omega arith, omega arith, refl, (omega arith, omega arith, refl, tt, tt), tt);
  and_right = λ h. let r = h.1 in absurd (omega (arith, r));
  and_in_or = (omega arith, omega arith, refl, (omega arith, omega arith, refl, tt, tt), tt);
  or_in_and = λ h. let l = h.0 in absurd (omega (arith, l));
  two_comparisons = λ h. let l = h.0 in absurd (omega (arith, l));
  not_comparison = (omega arith, (omega arith, omega arith, refl, tt, tt));
  comparison_of_not = λ h. let l = h.0 in absurd (omega (arith, l));
  far_right = (omega arith, omega arith, refl, tt, (omega arith, omega arith, tt, tt, (omega arith, omega arith, refl, tt, tt)));
  not_far = λ h. let e = h.2 in absurd cc;
  not_far_in_parentheses = (omega arith, omega arith, refl, (omega arith, omega arith, tt, tt, tt), tt);
  total_of_comparison = λ h. let l = h.0 in absurd (omega (arith, l));
  cell_of_comparison = (omega arith, omega arith, refl, tt, tt);
}
