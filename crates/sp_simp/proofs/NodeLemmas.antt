-- No rule makes a tree have more nodes.
use Rattle.std.proofs.Common.{Some, ◌+◌, ◌≤◌, ◌≡◌, refl, arith}
use Rattle.std.specs.Prelude.{◌-ℤ◌}
use Rattle.sp_term.specs.Tree.{Tree, nodes, Literal, Truth, Variable, Add, Subtract, Multiply, Divide, Remainder, ByteAnd, ByteOr, ByteXor, Parity, Bit, Psw, If, Element, Update, Total, Equal, Less, LessOrEqual, Not, And, Or, Implies, Iff, ForAll, ForSome}
use Rattle.sp_simp.specs.declared.relation.Relation.{Relation}
use Rattle.sp_simp.specs.declared.relation.Relation.TheVariants as relation
use Rattle.sp_simp.specs.Rules.{Right, Is, Made, MadePlus, MadeModulo, rule, written, compared, base}
use Rattle.sp_simp.specs.Simple.{Leads, stays, is, made, made_plus, made_modulo, IsSimpleForm, of_literal, of_truth, of_variable, of_add, of_subtract, of_multiply, of_divide, of_remainder, of_byte_and, of_byte_or, of_byte_xor, of_parity, of_bit, of_psw, of_if, of_element, of_update, of_total, of_equal, of_less, of_less_or_equal, of_not, of_and, of_or, of_implies, of_iff, of_for_all, of_for_some}
use Rattle.sp_simp.specs.code.Rows.{Row, row_fold_add, row_fold_subtract, row_fold_multiply, row_fold_divide, row_fold_remainder, row_fold_byte_and, row_fold_byte_or, row_fold_byte_xor, row_fold_parity, row_fold_bit, row_fold_flags, row_same_difference, row_literal_last, row_factor_first, row_plus_zero, row_minus_literal, row_join_offsets, row_left_offset_out, row_right_offset_out, row_whole_again, row_zero_times, row_one_times, row_join_factors, row_factor_in, row_over_one, row_small_quotient, row_quotient_of_multiple, row_modulo_one, row_small_remainder, row_remainder_twice, row_remainder_in_sum, row_offset_reduced, row_remainder_of_multiple, row_and_itself, row_or_itself, row_xor_itself, row_zero_and, row_and_zero, row_full_and, row_and_full, row_zero_or, row_or_zero, row_zero_xor, row_xor_zero, row_bit_seven, row_bit_six, row_bit_four, row_bit_two, row_bit_zero, row_bit_one, row_bit_three, row_bit_five, row_if_true, row_if_false, row_if_same, row_element_same, row_element_other, row_update_again, row_compare_same, row_compare_intervals, row_compare_left_offset, row_compare_right_offset, row_compare_offsets, row_compare_bases, row_equal_turned, row_choice_first, row_choice_second, row_choice_neither, row_not_truth, row_not_not, row_not_less_or_equal, row_not_less, row_true_and, row_and_true, row_false_and, row_and_false, row_and_same, row_false_or, row_or_false, row_true_or, row_or_true, row_or_same, row_true_implies, row_false_implies, row_implies_true, row_implies_false, row_implies_same, row_true_iff, row_iff_true, row_false_iff, row_iff_false, row_iff_same, row_for_all_true, row_for_all_empty, row_for_some_false, row_for_some_empty, row_empty_total, row_total_of_one}
use Rattle.sp_simp.proofs.RootLemmas.{base_nodes}
use Rattle.sp_simp.proofs.RowLemmas.{rule_row}

pub some_nodes : (t : Tree) → 1 ≤ nodes t
some_nodes (Literal n) = omega arith
some_nodes (Truth b) = omega arith
some_nodes (Variable v) = omega arith
some_nodes (Add x y) = omega arith
some_nodes (Subtract x y) = omega arith
some_nodes (Multiply x y) = omega arith
some_nodes (Divide x y) = omega arith
some_nodes (Remainder x y) = omega arith
some_nodes (ByteAnd x y) = omega arith
some_nodes (ByteOr x y) = omega arith
some_nodes (ByteXor x y) = omega arith
some_nodes (Parity x) = omega arith
some_nodes (Bit k x) = omega arith
some_nodes (Psw x y z u v) = omega arith
some_nodes (If x y z) = omega arith
some_nodes (Element x y) = omega arith
some_nodes (Update x y z) = omega arith
some_nodes (Total x y z) = omega arith
some_nodes (Equal x y) = omega arith
some_nodes (Less x y) = omega arith
some_nodes (LessOrEqual x y) = omega arith
some_nodes (Not x) = omega arith
some_nodes (And x y) = omega arith
some_nodes (Or x y) = omega arith
some_nodes (Implies x y) = omega arith
some_nodes (Iff x y) = omega arith
some_nodes (ForAll k x y z) = omega arith
some_nodes (ForSome k x y z) = omega arith

compared_nodes : (r : Relation) (x y : Tree) → nodes (compared r x y) ≡ 1 + nodes x + nodes y
compared_nodes relation.Equal x y = refl
compared_nodes relation.Less x y = refl
compared_nodes relation.LessOrEqual x y = refl

row_nodes : {t : Tree} {p : Right} → Row t p → nodes (written p) ≤ nodes t
row_nodes (row_fold_add c d) = omega arith
row_nodes (row_fold_subtract c d) = omega arith
row_nodes (row_fold_multiply c d) = omega arith
row_nodes (row_fold_divide c d) = omega arith
row_nodes (row_fold_remainder c d) = omega arith
row_nodes (row_fold_byte_and c d) = omega arith
row_nodes (row_fold_byte_or c d) = omega arith
row_nodes (row_fold_byte_xor c d) = omega arith
row_nodes (row_fold_parity c) = omega arith
row_nodes (row_fold_bit k c) = omega arith
row_nodes (row_fold_flags s z ac p cy) = omega arith
row_nodes (row_same_difference x) = omega (arith, some_nodes x)
row_nodes (row_literal_last c x h0) = omega (arith, some_nodes x)
row_nodes (row_factor_first x c h0) = omega (arith, some_nodes x)
row_nodes (row_plus_zero x) = omega (arith, some_nodes x)
row_nodes (row_minus_literal x c) = omega (arith, some_nodes x)
row_nodes (row_join_offsets x c d) = omega (arith, some_nodes x)
row_nodes (row_left_offset_out x y c h0) = omega (arith, some_nodes x, some_nodes y)
row_nodes (row_right_offset_out x y c) = omega (arith, some_nodes x, some_nodes y)
row_nodes (row_whole_again x c h0) = omega (arith, some_nodes x)
row_nodes (row_zero_times x) = omega (arith, some_nodes x)
row_nodes (row_one_times x) = omega (arith, some_nodes x)
row_nodes (row_join_factors c d x) = omega (arith, some_nodes x)
row_nodes (row_factor_in c d x) = omega (arith, some_nodes x)
row_nodes (row_over_one x) = omega (arith, some_nodes x)
row_nodes (row_small_quotient x c h0) = omega (arith, some_nodes x)
row_nodes (row_quotient_of_multiple c y x h0) = omega (arith, some_nodes y, some_nodes x)
row_nodes (row_modulo_one x) = omega (arith, some_nodes x)
row_nodes (row_small_remainder x c h0) = omega (arith, some_nodes x)
row_nodes (row_remainder_twice x c d h0) = omega (arith, some_nodes x)
row_nodes (row_remainder_in_sum x y c d h0) = omega (arith, some_nodes x, some_nodes y)
row_nodes (row_offset_reduced x c d h0) = omega (arith, some_nodes x)
row_nodes (row_remainder_of_multiple c y x h0) = omega (arith, some_nodes y, some_nodes x)
row_nodes (row_and_itself x) = omega (arith, some_nodes x)
row_nodes (row_or_itself x) = omega (arith, some_nodes x)
row_nodes (row_xor_itself x) = omega (arith, some_nodes x)
row_nodes (row_zero_and x) = omega (arith, some_nodes x)
row_nodes (row_and_zero x) = omega (arith, some_nodes x)
row_nodes (row_full_and x) = omega (arith, some_nodes x)
row_nodes (row_and_full x) = omega (arith, some_nodes x)
row_nodes (row_zero_or x) = omega (arith, some_nodes x)
row_nodes (row_or_zero x) = omega (arith, some_nodes x)
row_nodes (row_zero_xor x) = omega (arith, some_nodes x)
row_nodes (row_xor_zero x) = omega (arith, some_nodes x)
row_nodes (row_bit_seven s z ac p cy h0) = omega (arith, some_nodes s, some_nodes z, some_nodes ac, some_nodes p, some_nodes cy)
row_nodes (row_bit_six s z ac p cy h0) = omega (arith, some_nodes s, some_nodes z, some_nodes ac, some_nodes p, some_nodes cy)
row_nodes (row_bit_four s z ac p cy h0) = omega (arith, some_nodes s, some_nodes z, some_nodes ac, some_nodes p, some_nodes cy)
row_nodes (row_bit_two s z ac p cy h0) = omega (arith, some_nodes s, some_nodes z, some_nodes ac, some_nodes p, some_nodes cy)
row_nodes (row_bit_zero s z ac p cy h0) = omega (arith, some_nodes s, some_nodes z, some_nodes ac, some_nodes p, some_nodes cy)
row_nodes (row_bit_one s z ac p cy) = omega (arith, some_nodes s, some_nodes z, some_nodes ac, some_nodes p, some_nodes cy)
row_nodes (row_bit_three s z ac p cy) = omega (arith, some_nodes s, some_nodes z, some_nodes ac, some_nodes p, some_nodes cy)
row_nodes (row_bit_five s z ac p cy) = omega (arith, some_nodes s, some_nodes z, some_nodes ac, some_nodes p, some_nodes cy)
row_nodes (row_if_true x y) = omega (arith, some_nodes x, some_nodes y)
row_nodes (row_if_false x y) = omega (arith, some_nodes x, some_nodes y)
row_nodes (row_if_same p x) = omega (arith, some_nodes p, some_nodes x)
row_nodes (row_element_same m x v) = omega (arith, some_nodes m, some_nodes x, some_nodes v)
row_nodes (row_element_other m x v y h0) = omega (arith, some_nodes m, some_nodes x, some_nodes v, some_nodes y)
row_nodes (row_update_again m x v w) = omega (arith, some_nodes m, some_nodes x, some_nodes v, some_nodes w)
row_nodes (row_compare_same r x) = omega (arith, some_nodes x, compared_nodes r x x)
row_nodes (row_compare_intervals r x y i j b h0 h1 h2) = omega (arith, some_nodes x, some_nodes y, compared_nodes r x y)
row_nodes (row_compare_left_offset r x c d) = omega (arith, some_nodes x, compared_nodes r (Add x (Literal c)) (Literal d), compared_nodes r x (Literal (d -ℤ c)))
row_nodes (row_compare_right_offset r x c d) = omega (arith, some_nodes x, compared_nodes r (Literal d) (Add x (Literal c)), compared_nodes r (Literal (d -ℤ c)) x)
row_nodes (row_compare_offsets r x y h0 h1) = omega (arith, some_nodes x, some_nodes y, compared_nodes r x y, compared_nodes r (Literal (base x).1) (Literal (base y).1))
row_nodes (row_compare_bases r x y h0 h1 h2) = omega (arith, some_nodes x, some_nodes y, compared_nodes r x y, compared_nodes r (base x).0 (base y).0, base_nodes x, base_nodes y)
row_nodes (row_equal_turned c x h0) = omega (arith, some_nodes x)
row_nodes (row_choice_first p c d h0) = omega (arith, some_nodes p)
row_nodes (row_choice_second p c d h0) = omega (arith, some_nodes p)
row_nodes (row_choice_neither p c d e h0 h1) = omega (arith, some_nodes p)
row_nodes (row_not_truth b) = omega arith
row_nodes (row_not_not p) = omega (arith, some_nodes p)
row_nodes (row_not_less_or_equal x y) = omega (arith, some_nodes x, some_nodes y)
row_nodes (row_not_less x y) = omega (arith, some_nodes x, some_nodes y)
row_nodes (row_true_and p) = omega (arith, some_nodes p)
row_nodes (row_and_true p) = omega (arith, some_nodes p)
row_nodes (row_false_and p) = omega (arith, some_nodes p)
row_nodes (row_and_false p) = omega (arith, some_nodes p)
row_nodes (row_and_same p) = omega (arith, some_nodes p)
row_nodes (row_false_or p) = omega (arith, some_nodes p)
row_nodes (row_or_false p) = omega (arith, some_nodes p)
row_nodes (row_true_or p) = omega (arith, some_nodes p)
row_nodes (row_or_true p) = omega (arith, some_nodes p)
row_nodes (row_or_same p) = omega (arith, some_nodes p)
row_nodes (row_true_implies p) = omega (arith, some_nodes p)
row_nodes (row_false_implies p) = omega (arith, some_nodes p)
row_nodes (row_implies_true p) = omega (arith, some_nodes p)
row_nodes (row_implies_false p) = omega (arith, some_nodes p)
row_nodes (row_implies_same p) = omega (arith, some_nodes p)
row_nodes (row_true_iff p) = omega (arith, some_nodes p)
row_nodes (row_iff_true p) = omega (arith, some_nodes p)
row_nodes (row_false_iff p) = omega (arith, some_nodes p)
row_nodes (row_iff_false p) = omega (arith, some_nodes p)
row_nodes (row_iff_same p) = omega (arith, some_nodes p)
row_nodes (row_for_all_true k x y) = omega (arith, some_nodes x, some_nodes y)
row_nodes (row_for_all_empty k c d p h0) = omega (arith, some_nodes p)
row_nodes (row_for_some_false k x y) = omega (arith, some_nodes x, some_nodes y)
row_nodes (row_for_some_empty k c d p h0) = omega (arith, some_nodes p)
row_nodes (row_empty_total m c d h0) = omega (arith, some_nodes m)
row_nodes (row_total_of_one m x) = omega (arith, some_nodes m, some_nodes x)

pub rule_nodes : (t : Tree) (p : Right) → rule t ≡ Some p → nodes (written p) ≤ nodes t
rule_nodes t p e = row_nodes (rule_row t p e)

pub leads_nodes : {t r : Tree} → Leads t r → nodes r ≤ nodes t
leads_nodes (stays t e) = omega arith
leads_nodes (is t r e) = rule_nodes t (Is r) e
leads_nodes (made t x r e m) = omega (arith, rule_nodes t (Made x) e, leads_nodes m)
leads_nodes (made_plus t x y r c e m n) = omega (arith, rule_nodes t (MadePlus x c) e, leads_nodes m, leads_nodes n)
leads_nodes (made_modulo t x y r c e m n) = omega (arith, rule_nodes t (MadeModulo x c) e, leads_nodes m, leads_nodes n)

pub simple_nodes : {t r : Tree} → IsSimpleForm t r → nodes r ≤ nodes t
simple_nodes (of_literal n) = omega arith
simple_nodes (of_truth b) = omega arith
simple_nodes (of_variable v) = omega arith
simple_nodes (of_add x y a b r f g m) = omega (arith, leads_nodes m, simple_nodes f, simple_nodes g)
simple_nodes (of_subtract x y a b r f g m) = omega (arith, leads_nodes m, simple_nodes f, simple_nodes g)
simple_nodes (of_multiply x y a b r f g m) = omega (arith, leads_nodes m, simple_nodes f, simple_nodes g)
simple_nodes (of_divide x y a b r f g m) = omega (arith, leads_nodes m, simple_nodes f, simple_nodes g)
simple_nodes (of_remainder x y a b r f g m) = omega (arith, leads_nodes m, simple_nodes f, simple_nodes g)
simple_nodes (of_byte_and x y a b r f g m) = omega (arith, leads_nodes m, simple_nodes f, simple_nodes g)
simple_nodes (of_byte_or x y a b r f g m) = omega (arith, leads_nodes m, simple_nodes f, simple_nodes g)
simple_nodes (of_byte_xor x y a b r f g m) = omega (arith, leads_nodes m, simple_nodes f, simple_nodes g)
simple_nodes (of_parity x a r f m) = omega (arith, leads_nodes m, simple_nodes f)
simple_nodes (of_bit k x a r f m) = omega (arith, leads_nodes m, simple_nodes f)
simple_nodes (of_psw x y z u v a b c d e r f g h i j m) = omega (arith, leads_nodes m, simple_nodes f, simple_nodes g, simple_nodes h, simple_nodes i, simple_nodes j)
simple_nodes (of_if x y z a b c r f g h m) = omega (arith, leads_nodes m, simple_nodes f, simple_nodes g, simple_nodes h)
simple_nodes (of_element x y a b r f g m) = omega (arith, leads_nodes m, simple_nodes f, simple_nodes g)
simple_nodes (of_update x y z a b c r f g h m) = omega (arith, leads_nodes m, simple_nodes f, simple_nodes g, simple_nodes h)
simple_nodes (of_total x y z a b c r f g h m) = omega (arith, leads_nodes m, simple_nodes f, simple_nodes g, simple_nodes h)
simple_nodes (of_equal x y a b r f g m) = omega (arith, leads_nodes m, simple_nodes f, simple_nodes g)
simple_nodes (of_less x y a b r f g m) = omega (arith, leads_nodes m, simple_nodes f, simple_nodes g)
simple_nodes (of_less_or_equal x y a b r f g m) = omega (arith, leads_nodes m, simple_nodes f, simple_nodes g)
simple_nodes (of_not x a r f m) = omega (arith, leads_nodes m, simple_nodes f)
simple_nodes (of_and x y a b r f g m) = omega (arith, leads_nodes m, simple_nodes f, simple_nodes g)
simple_nodes (of_or x y a b r f g m) = omega (arith, leads_nodes m, simple_nodes f, simple_nodes g)
simple_nodes (of_implies x y a b r f g m) = omega (arith, leads_nodes m, simple_nodes f, simple_nodes g)
simple_nodes (of_iff x y a b r f g m) = omega (arith, leads_nodes m, simple_nodes f, simple_nodes g)
simple_nodes (of_for_all k x y z a b c r f g h m) = omega (arith, leads_nodes m, simple_nodes f, simple_nodes g, simple_nodes h)
simple_nodes (of_for_some k x y z a b c r f g h m) = omega (arith, leads_nodes m, simple_nodes f, simple_nodes g, simple_nodes h)
