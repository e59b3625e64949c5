use Rattle.std.proofs.Common.{refl}
use Rattle.sp_lex.specs.Numbers.{number_of}
use Rattle.sp_lex.specs.Texts.{unquoted}
use Rattle.sp_words.specs.code.Tables.{mnemonic_named, operator_named, arg_named, pair_named, stack_pair_named, is_reserved}
use Rattle.sp_expr.specs.Words.{word_of, symbol_word}
use Rattle.sp_expr.proofs.laws.tokens_by_example.Goals as goal

pub returns : goal.returns
unfolding word_of symbol_word number_of unquoted mnemonic_named operator_named arg_named pair_named stack_pair_named is_reserved
returns c = record {
  number = refl;
  large_number = refl;
  no_number = refl;
  character = refl;
  quote = refl;
  no_character = refl;
  two_characters = refl;
  address = refl;
  opens = refl;
  closes = refl;
  plus = refl;
  minus = refl;
  times = refl;
  divide = refl;
  comma = refl;
  modulo = refl;
  left = refl;
  right = refl;
  inverse = refl;
  both = refl;
  either = refl;
  one = refl;
  name = refl;
  mnemonic = refl;
  register = refl;
  long_name = refl;
  longer_name = refl;
}
