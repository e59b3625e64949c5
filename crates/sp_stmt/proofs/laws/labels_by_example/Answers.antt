use Rattle.std.proofs.Common.{refl}
use Rattle.sp_words.specs.code.Tables.{is_reserved, operator_named, mnemonic_named, arg_named, pair_named, stack_pair_named}
use Rattle.sp_lex.specs.Numbers.{number_of}
use Rattle.sp_lex.specs.Texts.{unquoted}
use Rattle.sp_expr.specs.code.Nesting.{nests_within}
use Rattle.sp_expr.specs.code.Sentence.{accepts_in}
use Rattle.sp_expr.specs.Words.{symbol_word, word_of, words_of}
use Rattle.sp_stmt.specs.Tokens.{is_comma, is_colon, name_at, own_name_at, arg_at, pair_at, stack_pair_at, mnemonic_at, assignment_at}
use Rattle.sp_stmt.specs.code.Bodies.{register_instr, pair_instr, stack_instr, move_instr, load_body, body_of}
use Rattle.sp_stmt.specs.code.Data.{items_of, item_of, data_of}
use Rattle.sp_stmt.specs.code.Expressions.{expression_of, operand_of}
use Rattle.sp_stmt.specs.code.Reading.{coded, statement_of}
use Rattle.sp_stmt.proofs.SourceLemmas.{is_line, is_no_line}
use Rattle.sp_stmt.proofs.laws.labels_by_example.Goals as goal

pub returns : goal.returns
unfolding statement_of coded body_of register_instr pair_instr stack_instr move_instr load_body items_of item_of data_of operand_of expression_of is_comma is_colon name_at own_name_at arg_at pair_at stack_pair_at mnemonic_at assignment_at mnemonic_named arg_named pair_named stack_pair_named number_of unquoted nests_within is_reserved accepts_in operator_named symbol_word word_of words_of
returns c = record {
  before_code = is_line refl;
  no_reserved = is_no_line refl;
  not_before_org = is_no_line refl;
  not_before_end = is_no_line refl;
  not_before_equ = is_no_line refl;
  alone = is_line refl;
  no_colon = is_no_line refl;
  folded = is_line refl;
}
