use Rattle.std.proofs.Common.{refl}
use Rattle.sp_lex.specs.Numbers.{number_of}
use Rattle.sp_lex.proofs.laws.numbers_end_with_their_base.Goals as goal

pub returns-clause-hexadecimal : goal.returns-clause-hexadecimal
unfolding number_of
returns-clause-hexadecimal c = refl

pub returns-clause-binary : goal.returns-clause-binary
unfolding number_of
returns-clause-binary c = refl

pub returns-clause-octal : goal.returns-clause-octal
unfolding number_of
returns-clause-octal c = refl

pub returns-clause-octal_too : goal.returns-clause-octal_too
unfolding number_of
returns-clause-octal_too c = refl

pub returns-clause-decimal : goal.returns-clause-decimal
unfolding number_of
returns-clause-decimal c = refl

pub returns-clause-plain : goal.returns-clause-plain
unfolding number_of
returns-clause-plain c = refl

pub returns-clause-small_letters : goal.returns-clause-small_letters
unfolding number_of
returns-clause-small_letters c = refl

pub returns-clause-no_binary_digit : goal.returns-clause-no_binary_digit
unfolding number_of
returns-clause-no_binary_digit c = refl

pub returns-clause-no_octal_digit : goal.returns-clause-no_octal_digit
unfolding number_of
returns-clause-no_octal_digit c = refl

pub returns-clause-no_decimal_digit : goal.returns-clause-no_decimal_digit
unfolding number_of
returns-clause-no_decimal_digit c = refl

pub returns-clause-no_last_letter : goal.returns-clause-no_last_letter
unfolding number_of
returns-clause-no_last_letter c = refl

pub returns-clause-no_number : goal.returns-clause-no_number
unfolding number_of
returns-clause-no_number c = refl
