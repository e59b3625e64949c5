-- Small sources, each computed: its lines, its statements, its places and its rows.
use Rattle.std.proofs.Common.{ℕ, List, [], ◌∷◌, ◌++◌, None, Result, Ok, Err, refl, lit<, lit≤}
use Rattle.std.specs.Prelude.{codes, replicate, Contains}
use Rattle.std.specs.List.{IsDistinct}
use Rattle.sp_base.specs.Lines.{rows_of}
use Rattle.sp_lex.specs.declared.token.SourceLine.{SourceLine}
use Rattle.sp_lex.specs.Numbers.{number_of}
use Rattle.sp_lex.specs.Pieces.{tokens_from}
use Rattle.sp_lex.specs.Texts.{unquoted}
use Rattle.sp_lex.specs.code.Lines.{Fault, line_at, lines_from, lines_of}
use Rattle.sp_lex.specs.code.Pieces.{cuts, piece_at, fault_of, text_rest, symbol_len}
use Rattle.sp_words.specs.code.Tables.{is_reserved, operator_named, mnemonic_named, arg_named, pair_named, stack_pair_named}
use Rattle.sp_expr.specs.declared.word.Operator.TheVariants.{Divide, Plus}
use Rattle.sp_expr.specs.declared.word.Word.{Word}
use Rattle.sp_expr.specs.declared.word.Word.TheVariants as words
use Rattle.sp_expr.specs.code.Evaluation.{run}
use Rattle.sp_expr.specs.code.Nesting.{nests_within}
use Rattle.sp_expr.specs.code.Sentence.{accepts_in}
use Rattle.sp_expr.specs.Undefined.{first_undefined}
use Rattle.sp_expr.specs.Words.{symbol_word, word_of, words_of}
use Rattle.sp_stmt.specs.declared.operand.Operand.{Operand}
use Rattle.sp_stmt.specs.declared.operand.Operand.TheVariants as operand
use Rattle.sp_stmt.specs.declared.statement.Code.TheVariants as code
use Rattle.sp_stmt.specs.declared.statement.Statement.{Statement}
use Rattle.sp_stmt.specs.Tokens.{is_comma, is_colon, name_at, own_name_at, arg_at, pair_at, stack_pair_at, mnemonic_at, assignment_at}
use Rattle.sp_stmt.specs.code.Bodies.{register_instr, pair_instr, stack_instr, move_instr, load_body, body_of}
use Rattle.sp_stmt.specs.code.Data.{items_of, item_of, data_of}
use Rattle.sp_stmt.specs.code.Expressions.{expression_of, operand_of}
use Rattle.sp_stmt.specs.code.Reading.{coded, statement_of, statements_from}
use Rattle.sp_asm.specs.declared.refusal.AsmKind.TheVariants.{TooDeep, Later, Undefined, ZeroDivisor}
use Rattle.sp_asm.specs.Assembly.{Place, Row, names_above, names_at}
use Rattle.sp_asm.specs.Examples.{statement}
use Rattle.sp_asm.specs.Source.{IsRefused}
use Rattle.sp_asm.specs.Values.{are_in_range}
use Rattle.sp_reading_laws.specs.Sources.{Gives, DividesByZero, SetsAgain, EndsThere, NestsTo64, negated, parenthesized, source_of, x_is}
use Rattle.sp_reading_laws.proofs.AssemblyLemmas.{valued, divided, unnamed, placed, assembled, too_deep, refused_first, refused_second, first_round, second_round}

-- the lines of a source, where it has lines
abbrev lines_in : Result (List SourceLine) Fault → List SourceLine
lines_in (Ok lines) = lines
lines_in (Err fault) = []

abbrev first_of : (o : Operand) → Contains (o ∷ []) o
first_of o = (0, lit< tt, refl)

abbrev X : List ℕ
X = codes "X"

abbrev number : ℕ → List Word
number n = words.Number n ∷ []

abbrev name : List Word
name = words.Name X ∷ []

abbrev quotient : ℕ → ℕ → List Word
quotient m n = words.Number m ∷ words.Operator Divide ∷ words.Number n ∷ []

-- statements by their lines
abbrev equ : ℕ → List Word → Statement
equ line ws = statement line None (code.Equ X) (operand.Word ws ∷ [])

abbrev set : ℕ → List Word → Statement
set line ws = statement line None (code.Set X) (operand.Word ws ∷ [])

abbrev db : ℕ → List Word → Statement
db line ws = statement line None code.Data (operand.Byte ws ∷ [])

abbrev end : ℕ → List Operand → Statement
end line operands = statement line None code.End operands

abbrev place : Statement → ℕ → ℕ → Place
place s address value = record { statement = s; address = address; value = value }

abbrev with_values : Place → List ℕ → Row
with_values p values = record { place = p; values = values }

-- 1/0+X, and X+1
abbrev quotient_and_name : List Word
quotient_and_name = words.Number 1 ∷ words.Operator Divide ∷ words.Number 0 ∷ words.Operator Plus ∷ words.Name X ∷ []

abbrev name_and_one : List Word
name_and_one = words.Name X ∷ words.Operator Plus ∷ words.Number 1 ∷ []

-- Y EQU X
abbrev other_equ : Statement
other_equ = statement 1 None (code.Equ (codes "Y")) (operand.Word name ∷ [])

-- ---- Zero divisors

abbrev equ_given_1 : Place
equ_given_1 = place (equ 1 (quotient 1 1)) 0 1

abbrev equ_given_rows : List Row
equ_given_rows = with_values equ_given_1 [] ∷ []

pub equ_given_is : Gives (source_of (codes "X EQU 1/1" ∷ [])) ([]) (x_is 1)
unfolding rows_of lines_from line_at cuts piece_at fault_of text_rest symbol_len number_of tokens_from statements_from statement_of coded
    body_of register_instr pair_instr stack_instr move_instr load_body items_of item_of data_of operand_of expression_of is_comma is_colon
    name_at own_name_at arg_at pair_at stack_pair_at mnemonic_at assignment_at mnemonic_named arg_named pair_named stack_pair_named unquoted
    nests_within is_reserved accepts_in operator_named symbol_word word_of words_of first_undefined run are_in_range IsDistinct
equ_given_is =
    let source = source_of (codes "X EQU 1/1" ∷ []) in
    record {
      rows = equ_given_rows;
      assembly =
          assembled source (lines_in (lines_of source)) refl equ_given_rows refl (
            placed [] equ_given_1 refl refl (1 ∷ [], (valued (names_above []) 0 (quotient 1 1) refl 1 refl refl, tt), refl) (lit< tt)
                (lit≤ tt),
            tt,
          ) (
            refl,
            tt,
          )
          tt;
      bytes_are = refl;
      names_are = refl;
    }

pub equ_by_zero_is : IsRefused (source_of (codes "X EQU 1/0" ∷ [])) 1 ZeroDivisor
unfolding rows_of lines_from line_at cuts piece_at fault_of text_rest symbol_len number_of tokens_from statements_from statement_of coded
    body_of register_instr pair_instr stack_instr move_instr load_body items_of item_of data_of operand_of expression_of is_comma is_colon
    name_at own_name_at arg_at pair_at stack_pair_at mnemonic_at assignment_at mnemonic_named arg_named pair_named stack_pair_named unquoted
    nests_within is_reserved accepts_in operator_named symbol_word word_of words_of first_undefined run are_in_range IsDistinct
equ_by_zero_is =
    let source = source_of (codes "X EQU 1/0" ∷ []) in
    refused_first source (lines_in (lines_of source)) refl (equ 1 (quotient 1 0) ∷ []) 1 ZeroDivisor refl
    (first_round (equ 1 (quotient 1 0) ∷ []) ([]) [] (equ 1 (quotient 1 0)) refl
    tt
    refl refl (
      operand.Word (quotient 1 0),
      first_of (operand.Word (quotient 1 0)),
      divided (names_above []) 0 (quotient 1 0) refl refl
          refl,
    ))

abbrev item_1 : Place
item_1 = place (db 1 (quotient 1 1)) 0 0

abbrev item_rows : List Row
item_rows = with_values item_1 (1 ∷ []) ∷ []

pub item_is : Gives (source_of (codes "DB 1/1" ∷ [])) ((0, 1) ∷ []) []
unfolding rows_of lines_from line_at cuts piece_at fault_of text_rest symbol_len number_of tokens_from statements_from statement_of coded
    body_of register_instr pair_instr stack_instr move_instr load_body items_of item_of data_of operand_of expression_of is_comma is_colon
    name_at own_name_at arg_at pair_at stack_pair_at mnemonic_at assignment_at mnemonic_named arg_named pair_named stack_pair_named unquoted
    nests_within is_reserved accepts_in operator_named symbol_word word_of words_of first_undefined run are_in_range IsDistinct
item_is =
    let source = source_of (codes "DB 1/1" ∷ []) in
    record {
      rows = item_rows;
      assembly =
          assembled source (lines_in (lines_of source)) refl item_rows refl (
            placed [] item_1 refl refl refl (lit< tt) (lit≤ tt),
            tt,
          ) (
            ((valued (names_at (item_1 ∷ []) []) 0 (quotient 1 1) refl 1 refl refl, tt), refl),
            tt,
          )
          (tt, tt);
      bytes_are = refl;
      names_are = refl;
    }

abbrev item_by_zero_1 : Place
item_by_zero_1 = place (db 1 (quotient 1 0)) 0 0

pub item_by_zero_is : IsRefused (source_of (codes "DB 1/0" ∷ [])) 1 ZeroDivisor
unfolding rows_of lines_from line_at cuts piece_at fault_of text_rest symbol_len number_of tokens_from statements_from statement_of coded
    body_of register_instr pair_instr stack_instr move_instr load_body items_of item_of data_of operand_of expression_of is_comma is_colon
    name_at own_name_at arg_at pair_at stack_pair_at mnemonic_at assignment_at mnemonic_named arg_named pair_named stack_pair_named unquoted
    nests_within is_reserved accepts_in operator_named symbol_word word_of words_of first_undefined run are_in_range IsDistinct
item_by_zero_is =
    let source = source_of (codes "DB 1/0" ∷ []) in
    refused_second source (lines_in (lines_of source)) refl (db 1 (quotient 1 0) ∷ []) 1 ZeroDivisor refl
    (second_round (db 1 (quotient 1 0) ∷ []) (item_by_zero_1 ∷ []) item_by_zero_1 ([]) refl (
      placed [] item_by_zero_1 refl refl refl (lit< tt) (lit≤ tt),
      tt,
    )
    refl refl (
      operand.Byte (quotient 1 0),
      first_of (operand.Byte (quotient 1 0)),
      divided (names_at (item_by_zero_1 ∷ []) []) 0
          (quotient 1 0) refl refl refl,
    ) tt)

abbrev name_first_1 : Place
name_first_1 = place (db 1 quotient_and_name) 0 0

pub name_first_is : IsRefused (source_of (codes "DB 1/0+X" ∷ [])) 1 Undefined
unfolding rows_of lines_from line_at cuts piece_at fault_of text_rest symbol_len number_of tokens_from statements_from statement_of coded
    body_of register_instr pair_instr stack_instr move_instr load_body items_of item_of data_of operand_of expression_of is_comma is_colon
    name_at own_name_at arg_at pair_at stack_pair_at mnemonic_at assignment_at mnemonic_named arg_named pair_named stack_pair_named unquoted
    nests_within is_reserved accepts_in operator_named symbol_word word_of words_of first_undefined run are_in_range IsDistinct
name_first_is =
    let source = source_of (codes "DB 1/0+X" ∷ []) in
    refused_second source (lines_in (lines_of source)) refl (db 1 quotient_and_name ∷ []) 1 Undefined refl
    (second_round (db 1 quotient_and_name ∷ []) (name_first_1 ∷ []) name_first_1 ([]) refl (
      placed [] name_first_1 refl refl refl (lit< tt) (lit≤ tt),
      tt,
    )
    refl refl (
      operand.Byte (quotient_and_name),
      first_of (operand.Byte (quotient_and_name)),
      unnamed (names_at (name_first_1 ∷ []) []) 0
          (quotient_and_name) X refl,
    ) tt)

abbrev rounds_1 : Place
rounds_1 = place (db 1 (quotient 1 0)) 0 0

pub rounds_is : IsRefused (source_of (codes "DB 1/0" ∷ codes "X EQU 1/0" ∷ [])) 2 ZeroDivisor
unfolding rows_of lines_from line_at cuts piece_at fault_of text_rest symbol_len number_of tokens_from statements_from statement_of coded
    body_of register_instr pair_instr stack_instr move_instr load_body items_of item_of data_of operand_of expression_of is_comma is_colon
    name_at own_name_at arg_at pair_at stack_pair_at mnemonic_at assignment_at mnemonic_named arg_named pair_named stack_pair_named unquoted
    nests_within is_reserved accepts_in operator_named symbol_word word_of words_of first_undefined run are_in_range IsDistinct
rounds_is =
    let source = source_of (codes "DB 1/0" ∷ codes "X EQU 1/0" ∷ []) in
    refused_first source (lines_in (lines_of source)) refl (db 1 (quotient 1 0) ∷ equ 2 (quotient 1 0) ∷ []) 2 ZeroDivisor refl
    (first_round (db 1 (quotient 1 0) ∷ equ 2 (quotient 1 0) ∷ []) ([]) (rounds_1 ∷ []) (equ 2 (quotient 1 0)) refl (
      placed [] rounds_1 refl refl refl (lit< tt) (lit≤ tt),
      tt,
    )
    refl refl (
      operand.Word (quotient 1 0),
      first_of (operand.Word (quotient 1 0)),
      divided (names_above (rounds_1 ∷ [])) 1 (quotient 1 0)
          refl refl refl,
    ))

pub divides_by_zero : DividesByZero
divides_by_zero = record {
  equ = equ_given_is;
  equ_by_zero = equ_by_zero_is;
  item = item_is;
  item_by_zero = item_by_zero_is;
  name_first = name_first_is;
  rounds = rounds_is;
}

-- ---- SET

abbrev last_above_1 : Place
last_above_1 = place (set 1 (number 1)) 0 1

abbrev last_above_2 : Place
last_above_2 = place (db 2 name) 0 0

abbrev last_above_3 : Place
last_above_3 = place (set 3 (number 2)) 1 2

abbrev last_above_4 : Place
last_above_4 = place (db 4 name) 1 0

abbrev last_above_rows : List Row
last_above_rows = with_values last_above_1 [] ∷ with_values last_above_2 (1 ∷ []) ∷ with_values last_above_3 []
    ∷ with_values last_above_4 (2 ∷ []) ∷ []

pub last_above_is : Gives (source_of (codes "X SET 1" ∷ codes "DB X" ∷ codes "X SET 2" ∷ codes "DB X" ∷ [])) ((0, 1) ∷ (1, 2) ∷ []) (x_is 2)
unfolding rows_of lines_from line_at cuts piece_at fault_of text_rest symbol_len number_of tokens_from statements_from statement_of coded
    body_of register_instr pair_instr stack_instr move_instr load_body items_of item_of data_of operand_of expression_of is_comma is_colon
    name_at own_name_at arg_at pair_at stack_pair_at mnemonic_at assignment_at mnemonic_named arg_named pair_named stack_pair_named unquoted
    nests_within is_reserved accepts_in operator_named symbol_word word_of words_of first_undefined run are_in_range IsDistinct
last_above_is =
    let source = source_of (codes "X SET 1" ∷ codes "DB X" ∷ codes "X SET 2" ∷ codes "DB X" ∷ []) in
    record {
      rows = last_above_rows;
      assembly =
          assembled source (lines_in (lines_of source)) refl last_above_rows refl (
            placed [] last_above_1 refl refl (1 ∷ [], (valued (names_above []) 0 (number 1) refl 1 refl refl, tt), refl) (lit< tt)
                (lit≤ tt),
            (
              placed (last_above_1 ∷ []) last_above_2 refl refl refl (lit< tt) (lit≤ tt),
              (
                placed (last_above_1 ∷ last_above_2 ∷ []) last_above_3 refl refl
                    (2 ∷ [], (valued (names_above (last_above_1 ∷ last_above_2 ∷ [])) 1 (number 2) refl 2 refl refl, tt), refl) (lit< tt)
                    (lit≤ tt),
                (
                  placed (last_above_1 ∷ last_above_2 ∷ last_above_3 ∷ []) last_above_4 refl refl refl (lit< tt) (lit≤ tt),
                  tt,
                ),
              ),
            ),
          ) (
            refl,
            (
              (
                (
                  valued (names_at (last_above_1 ∷ last_above_2 ∷ last_above_3 ∷ last_above_4 ∷ []) (last_above_1 ∷ [])) 0 (name) refl 1 refl
                      refl,
                  tt,
                ),
                refl,
              ),
              (
                refl,
                (
                  (
                    (
                      valued (names_at (last_above_1 ∷ last_above_2 ∷ last_above_3 ∷ last_above_4 ∷ [])
                          (last_above_1 ∷ last_above_2 ∷ last_above_3 ∷ [])) 1 (name) refl 2 refl refl,
                      tt,
                    ),
                    refl,
                  ),
                  tt,
                ),
              ),
            ),
          )
          ((refl, tt), (tt, tt));
      bytes_are = refl;
      names_are = refl;
    }

abbrev of_itself_1 : Place
of_itself_1 = place (set 1 (number 1)) 0 1

abbrev of_itself_2 : Place
of_itself_2 = place (set 2 name_and_one) 0 2

abbrev of_itself_3 : Place
of_itself_3 = place (db 3 name) 0 0

abbrev of_itself_rows : List Row
of_itself_rows = with_values of_itself_1 [] ∷ with_values of_itself_2 [] ∷ with_values of_itself_3 (2 ∷ []) ∷ []

pub of_itself_is : Gives (source_of (codes "X SET 1" ∷ codes "X SET X+1" ∷ codes "DB X" ∷ [])) ((0, 2) ∷ []) (x_is 2)
unfolding rows_of lines_from line_at cuts piece_at fault_of text_rest symbol_len number_of tokens_from statements_from statement_of coded
    body_of register_instr pair_instr stack_instr move_instr load_body items_of item_of data_of operand_of expression_of is_comma is_colon
    name_at own_name_at arg_at pair_at stack_pair_at mnemonic_at assignment_at mnemonic_named arg_named pair_named stack_pair_named unquoted
    nests_within is_reserved accepts_in operator_named symbol_word word_of words_of first_undefined run are_in_range IsDistinct
of_itself_is =
    let source = source_of (codes "X SET 1" ∷ codes "X SET X+1" ∷ codes "DB X" ∷ []) in
    record {
      rows = of_itself_rows;
      assembly =
          assembled source (lines_in (lines_of source)) refl of_itself_rows refl (
            placed [] of_itself_1 refl refl (1 ∷ [], (valued (names_above []) 0 (number 1) refl 1 refl refl, tt), refl) (lit< tt) (lit≤ tt),
            (
              placed (of_itself_1 ∷ []) of_itself_2 refl refl
                  (2 ∷ [], (valued (names_above (of_itself_1 ∷ [])) 0 (name_and_one) refl 2 refl refl, tt), refl) (lit< tt) (lit≤ tt),
              (
                placed (of_itself_1 ∷ of_itself_2 ∷ []) of_itself_3 refl refl refl (lit< tt) (lit≤ tt),
                tt,
              ),
            ),
          ) (
            refl,
            (
              refl,
              (
                (
                  (
                    valued (names_at (of_itself_1 ∷ of_itself_2 ∷ of_itself_3 ∷ []) (of_itself_1 ∷ of_itself_2 ∷ [])) 0 (name) refl 2 refl
                        refl,
                    tt,
                  ),
                  refl,
                ),
                tt,
              ),
            ),
          )
          (tt, tt);
      bytes_are = refl;
      names_are = refl;
    }

abbrev above_first_1 : Place
above_first_1 = place (db 1 name) 0 0

abbrev above_first_2 : Place
above_first_2 = place (set 2 (number 1)) 1 1

pub above_first_is : IsRefused (source_of (codes "DB X" ∷ codes "X SET 1" ∷ [])) 1 Later
unfolding rows_of lines_from line_at cuts piece_at fault_of text_rest symbol_len number_of tokens_from statements_from statement_of coded
    body_of register_instr pair_instr stack_instr move_instr load_body items_of item_of data_of operand_of expression_of is_comma is_colon
    name_at own_name_at arg_at pair_at stack_pair_at mnemonic_at assignment_at mnemonic_named arg_named pair_named stack_pair_named unquoted
    nests_within is_reserved accepts_in operator_named symbol_word word_of words_of first_undefined run are_in_range IsDistinct
above_first_is =
    let source = source_of (codes "DB X" ∷ codes "X SET 1" ∷ []) in
    refused_second source (lines_in (lines_of source)) refl (db 1 name ∷ set 2 (number 1) ∷ []) 1 Later refl
    (second_round (db 1 name ∷ set 2 (number 1) ∷ []) (above_first_1 ∷ above_first_2 ∷ []) above_first_1 (above_first_2 ∷ []) refl (
      placed [] above_first_1 refl refl refl (lit< tt) (lit≤ tt),
      (
        placed (above_first_1 ∷ []) above_first_2 refl refl
            (1 ∷ [], (valued (names_above (above_first_1 ∷ [])) 1 (number 1) refl 1 refl refl, tt), refl) (lit< tt) (lit≤ tt),
        tt,
      ),
    )
    refl refl (
      operand.Byte (name),
      first_of (operand.Byte (name)),
      unnamed (names_at (above_first_1 ∷ above_first_2 ∷ []) []) 0 (name) X
          refl,
    ) tt)

abbrev above_equ_1 : Place
above_equ_1 = place (db 1 name) 0 0

abbrev above_equ_2 : Place
above_equ_2 = place (equ 2 (number 1)) 1 1

abbrev above_equ_rows : List Row
above_equ_rows = with_values above_equ_1 (1 ∷ []) ∷ with_values above_equ_2 [] ∷ []

pub above_equ_is : Gives (source_of (codes "DB X" ∷ codes "X EQU 1" ∷ [])) ((0, 1) ∷ []) (x_is 1)
unfolding rows_of lines_from line_at cuts piece_at fault_of text_rest symbol_len number_of tokens_from statements_from statement_of coded
    body_of register_instr pair_instr stack_instr move_instr load_body items_of item_of data_of operand_of expression_of is_comma is_colon
    name_at own_name_at arg_at pair_at stack_pair_at mnemonic_at assignment_at mnemonic_named arg_named pair_named stack_pair_named unquoted
    nests_within is_reserved accepts_in operator_named symbol_word word_of words_of first_undefined run are_in_range IsDistinct
above_equ_is =
    let source = source_of (codes "DB X" ∷ codes "X EQU 1" ∷ []) in
    record {
      rows = above_equ_rows;
      assembly =
          assembled source (lines_in (lines_of source)) refl above_equ_rows refl (
            placed [] above_equ_1 refl refl refl (lit< tt) (lit≤ tt),
            (
              placed (above_equ_1 ∷ []) above_equ_2 refl refl
                  (1 ∷ [], (valued (names_above (above_equ_1 ∷ [])) 1 (number 1) refl 1 refl refl, tt), refl) (lit< tt) (lit≤ tt),
              tt,
            ),
          ) (
            ((valued (names_at (above_equ_1 ∷ above_equ_2 ∷ []) []) 0 (name) refl 1 refl refl, tt), refl),
            (
              refl,
              tt,
            ),
          )
          (tt, tt);
      bytes_are = refl;
      names_are = refl;
    }

pub equ_above_equ_is : IsRefused (source_of (codes "Y EQU X" ∷ codes "X EQU 1" ∷ [])) 1 Later
unfolding rows_of lines_from line_at cuts piece_at fault_of text_rest symbol_len number_of tokens_from statements_from statement_of coded
    body_of register_instr pair_instr stack_instr move_instr load_body items_of item_of data_of operand_of expression_of is_comma is_colon
    name_at own_name_at arg_at pair_at stack_pair_at mnemonic_at assignment_at mnemonic_named arg_named pair_named stack_pair_named unquoted
    nests_within is_reserved accepts_in operator_named symbol_word word_of words_of first_undefined run are_in_range IsDistinct
equ_above_equ_is =
    let source = source_of (codes "Y EQU X" ∷ codes "X EQU 1" ∷ []) in
    refused_first source (lines_in (lines_of source)) refl (other_equ ∷ equ 2 (number 1) ∷ []) 1 Later refl
    (first_round (other_equ ∷ equ 2 (number 1) ∷ []) (equ 2 (number 1) ∷ []) [] (other_equ) refl
    tt
    refl refl (operand.Word (name), first_of (operand.Word (name)), unnamed (names_above []) 0 (name) X refl))

pub sets_again : SetsAgain
sets_again = record {
  last_above = last_above_is;
  of_itself = of_itself_is;
  above_first = above_first_is;
  above_equ = above_equ_is;
  equ_above_equ = equ_above_equ_is;
}

-- ---- END

abbrev with_end_1 : Place
with_end_1 = place (db 1 (number 1)) 0 0

abbrev with_end_2 : Place
with_end_2 = place (end 2 []) 1 0

abbrev with_end_rows : List Row
with_end_rows = with_values with_end_1 (1 ∷ []) ∷ with_values with_end_2 [] ∷ []

pub with_end_is : Gives (source_of (codes "DB 1" ∷ codes "END" ∷ codes "DB 2" ∷ [])) ((0, 1) ∷ []) []
unfolding rows_of lines_from line_at cuts piece_at fault_of text_rest symbol_len number_of tokens_from statements_from statement_of coded
    body_of register_instr pair_instr stack_instr move_instr load_body items_of item_of data_of operand_of expression_of is_comma is_colon
    name_at own_name_at arg_at pair_at stack_pair_at mnemonic_at assignment_at mnemonic_named arg_named pair_named stack_pair_named unquoted
    nests_within is_reserved accepts_in operator_named symbol_word word_of words_of first_undefined run are_in_range IsDistinct
with_end_is =
    let source = source_of (codes "DB 1" ∷ codes "END" ∷ codes "DB 2" ∷ []) in
    record {
      rows = with_end_rows;
      assembly =
          assembled source (lines_in (lines_of source)) refl with_end_rows refl (
            placed [] with_end_1 refl refl refl (lit< tt) (lit≤ tt),
            (
              placed (with_end_1 ∷ []) with_end_2 refl refl refl (lit< tt) (lit≤ tt),
              tt,
            ),
          ) (
            ((valued (names_at (with_end_1 ∷ with_end_2 ∷ []) []) 0 (number 1) refl 1 refl refl, tt), refl),
            (
              (tt, refl),
              tt,
            ),
          )
          (tt, tt);
      bytes_are = refl;
      names_are = refl;
    }

abbrev without_1 : Place
without_1 = place (db 1 (number 1)) 0 0

abbrev without_2 : Place
without_2 = place (db 2 (number 2)) 1 0

abbrev without_rows : List Row
without_rows = with_values without_1 (1 ∷ []) ∷ with_values without_2 (2 ∷ []) ∷ []

pub without_is : Gives (source_of (codes "DB 1" ∷ codes "DB 2" ∷ [])) ((0, 1) ∷ (1, 2) ∷ []) []
unfolding rows_of lines_from line_at cuts piece_at fault_of text_rest symbol_len number_of tokens_from statements_from statement_of coded
    body_of register_instr pair_instr stack_instr move_instr load_body items_of item_of data_of operand_of expression_of is_comma is_colon
    name_at own_name_at arg_at pair_at stack_pair_at mnemonic_at assignment_at mnemonic_named arg_named pair_named stack_pair_named unquoted
    nests_within is_reserved accepts_in operator_named symbol_word word_of words_of first_undefined run are_in_range IsDistinct
without_is =
    let source = source_of (codes "DB 1" ∷ codes "DB 2" ∷ []) in
    record {
      rows = without_rows;
      assembly =
          assembled source (lines_in (lines_of source)) refl without_rows refl (
            placed [] without_1 refl refl refl (lit< tt) (lit≤ tt),
            (
              placed (without_1 ∷ []) without_2 refl refl refl (lit< tt) (lit≤ tt),
              tt,
            ),
          ) (
            ((valued (names_at (without_1 ∷ without_2 ∷ []) []) 0 (number 1) refl 1 refl refl, tt), refl),
            (
              ((valued (names_at (without_1 ∷ without_2 ∷ []) (without_1 ∷ [])) 1 (number 2) refl 2 refl refl, tt), refl),
              tt,
            ),
          )
          ((refl, tt), (tt, tt));
      bytes_are = refl;
      names_are = refl;
    }

abbrev expression_1 : Place
expression_1 = place (equ 1 (number 5)) 0 5

abbrev expression_2 : Place
expression_2 = place (end 2 (operand.Word name ∷ [])) 0 0

abbrev expression_rows : List Row
expression_rows = with_values expression_1 [] ∷ with_values expression_2 (5 ∷ []) ∷ []

pub expression_is : Gives (source_of (codes "X EQU 5" ∷ codes "END X" ∷ [])) ([]) (x_is 5)
unfolding rows_of lines_from line_at cuts piece_at fault_of text_rest symbol_len number_of tokens_from statements_from statement_of coded
    body_of register_instr pair_instr stack_instr move_instr load_body items_of item_of data_of operand_of expression_of is_comma is_colon
    name_at own_name_at arg_at pair_at stack_pair_at mnemonic_at assignment_at mnemonic_named arg_named pair_named stack_pair_named unquoted
    nests_within is_reserved accepts_in operator_named symbol_word word_of words_of first_undefined run are_in_range IsDistinct
expression_is =
    let source = source_of (codes "X EQU 5" ∷ codes "END X" ∷ []) in
    record {
      rows = expression_rows;
      assembly =
          assembled source (lines_in (lines_of source)) refl expression_rows refl (
            placed [] expression_1 refl refl (5 ∷ [], (valued (names_above []) 0 (number 5) refl 5 refl refl, tt), refl) (lit< tt)
                (lit≤ tt),
            (
              placed (expression_1 ∷ []) expression_2 refl refl refl (lit< tt) (lit≤ tt),
              tt,
            ),
          ) (
            refl,
            (
              ((valued (names_at (expression_1 ∷ expression_2 ∷ []) (expression_1 ∷ [])) 0 (name) refl 5 refl refl, tt), refl),
              tt,
            ),
          )
          tt;
      bytes_are = refl;
      names_are = refl;
    }

abbrev undefined_1 : Place
undefined_1 = place (end 1 (operand.Word name ∷ [])) 0 0

pub undefined_is : IsRefused (source_of (codes "END X" ∷ codes "X EQU 5" ∷ [])) 1 Undefined
unfolding rows_of lines_from line_at cuts piece_at fault_of text_rest symbol_len number_of tokens_from statements_from statement_of coded
    body_of register_instr pair_instr stack_instr move_instr load_body items_of item_of data_of operand_of expression_of is_comma is_colon
    name_at own_name_at arg_at pair_at stack_pair_at mnemonic_at assignment_at mnemonic_named arg_named pair_named stack_pair_named unquoted
    nests_within is_reserved accepts_in operator_named symbol_word word_of words_of first_undefined run are_in_range IsDistinct
undefined_is =
    let source = source_of (codes "END X" ∷ codes "X EQU 5" ∷ []) in
    refused_second source (lines_in (lines_of source)) refl (end 1 (operand.Word name ∷ []) ∷ []) 1 Undefined refl
    (second_round (end 1 (operand.Word name ∷ []) ∷ []) (undefined_1 ∷ []) undefined_1 ([]) refl (
      placed [] undefined_1 refl refl refl (lit< tt) (lit≤ tt),
      tt,
    )
    refl refl (operand.Word (name), first_of (operand.Word (name)), unnamed (names_at (undefined_1 ∷ []) []) 0 (name) X refl) tt)

abbrev end_quotient_1 : Place
end_quotient_1 = place (end 1 (operand.Word (quotient 1 1) ∷ [])) 0 0

abbrev end_quotient_rows : List Row
end_quotient_rows = with_values end_quotient_1 (1 ∷ []) ∷ []

pub end_quotient_is : Gives (source_of (codes "END 1/1" ∷ [])) ([]) []
unfolding rows_of lines_from line_at cuts piece_at fault_of text_rest symbol_len number_of tokens_from statements_from statement_of coded
    body_of register_instr pair_instr stack_instr move_instr load_body items_of item_of data_of operand_of expression_of is_comma is_colon
    name_at own_name_at arg_at pair_at stack_pair_at mnemonic_at assignment_at mnemonic_named arg_named pair_named stack_pair_named unquoted
    nests_within is_reserved accepts_in operator_named symbol_word word_of words_of first_undefined run are_in_range IsDistinct
end_quotient_is =
    let source = source_of (codes "END 1/1" ∷ []) in
    record {
      rows = end_quotient_rows;
      assembly =
          assembled source (lines_in (lines_of source)) refl end_quotient_rows refl (
            placed [] end_quotient_1 refl refl refl (lit< tt) (lit≤ tt),
            tt,
          ) (
            ((valued (names_at (end_quotient_1 ∷ []) []) 0 (quotient 1 1) refl 1 refl refl, tt), refl),
            tt,
          )
          tt;
      bytes_are = refl;
      names_are = refl;
    }

abbrev end_by_zero_1 : Place
end_by_zero_1 = place (end 1 (operand.Word (quotient 1 0) ∷ [])) 0 0

pub end_by_zero_is : IsRefused (source_of (codes "END 1/0" ∷ [])) 1 ZeroDivisor
unfolding rows_of lines_from line_at cuts piece_at fault_of text_rest symbol_len number_of tokens_from statements_from statement_of coded
    body_of register_instr pair_instr stack_instr move_instr load_body items_of item_of data_of operand_of expression_of is_comma is_colon
    name_at own_name_at arg_at pair_at stack_pair_at mnemonic_at assignment_at mnemonic_named arg_named pair_named stack_pair_named unquoted
    nests_within is_reserved accepts_in operator_named symbol_word word_of words_of first_undefined run are_in_range IsDistinct
end_by_zero_is =
    let source = source_of (codes "END 1/0" ∷ []) in
    refused_second source (lines_in (lines_of source)) refl (end 1 (operand.Word (quotient 1 0) ∷ []) ∷ []) 1 ZeroDivisor refl
    (second_round (end 1 (operand.Word (quotient 1 0) ∷ []) ∷ []) (end_by_zero_1 ∷ []) end_by_zero_1 ([]) refl (
      placed [] end_by_zero_1 refl refl refl (lit< tt) (lit≤ tt),
      tt,
    )
    refl refl (
      operand.Word (quotient 1 0),
      first_of (operand.Word (quotient 1 0)),
      divided (names_at (end_by_zero_1 ∷ []) []) 0
          (quotient 1 0) refl refl refl,
    ) tt)

pub ends_there : EndsThere
ends_there = record {
  with_end = with_end_is;
  without = without_is;
  expression = expression_is;
  undefined = undefined_is;
  quotient = end_quotient_is;
  by_zero = end_by_zero_is;
}

-- ---- Nesting

abbrev opened : List Word
opened = replicate 64 words.Open ++ words.Number 1 ∷ replicate 64 words.Close

abbrev inverted : List Word
inverted = replicate 64 words.Not ++ words.Number 1 ∷ []

abbrev parentheses_1 : Place
parentheses_1 = place (db 1 opened) 0 0

abbrev parentheses_rows : List Row
parentheses_rows = with_values parentheses_1 (1 ∷ []) ∷ []

pub parentheses_is : Gives (parenthesized 64) ((0, 1) ∷ []) []
unfolding rows_of lines_from line_at cuts piece_at fault_of text_rest symbol_len number_of tokens_from statements_from statement_of coded
    body_of register_instr pair_instr stack_instr move_instr load_body items_of item_of data_of operand_of expression_of is_comma is_colon
    name_at own_name_at arg_at pair_at stack_pair_at mnemonic_at assignment_at mnemonic_named arg_named pair_named stack_pair_named unquoted
    nests_within is_reserved accepts_in operator_named symbol_word word_of words_of first_undefined run are_in_range IsDistinct
parentheses_is =
    let source = parenthesized 64 in
    record {
      rows = parentheses_rows;
      assembly =
          assembled source (lines_in (lines_of source)) refl parentheses_rows refl (
            placed [] parentheses_1 refl refl refl (lit< tt) (lit≤ tt),
            tt,
          ) (
            ((valued (names_at (parentheses_1 ∷ []) []) 0 (opened) refl 1 refl refl, tt), refl),
            tt,
          )
          (tt, tt);
      bytes_are = refl;
      names_are = refl;
    }

abbrev nots_1 : Place
nots_1 = place (db 1 inverted) 0 0

abbrev nots_rows : List Row
nots_rows = with_values nots_1 (1 ∷ []) ∷ []

pub nots_is : Gives (negated 64) ((0, 1) ∷ []) []
unfolding rows_of lines_from line_at cuts piece_at fault_of text_rest symbol_len number_of tokens_from statements_from statement_of coded
    body_of register_instr pair_instr stack_instr move_instr load_body items_of item_of data_of operand_of expression_of is_comma is_colon
    name_at own_name_at arg_at pair_at stack_pair_at mnemonic_at assignment_at mnemonic_named arg_named pair_named stack_pair_named unquoted
    nests_within is_reserved accepts_in operator_named symbol_word word_of words_of first_undefined run are_in_range IsDistinct
nots_is =
    let source = negated 64 in
    record {
      rows = nots_rows;
      assembly =
          assembled source (lines_in (lines_of source)) refl nots_rows refl (
            placed [] nots_1 refl refl refl (lit< tt) (lit≤ tt),
            tt,
          ) (
            ((valued (names_at (nots_1 ∷ []) []) 0 (inverted) refl 1 refl refl, tt), refl),
            tt,
          )
          (tt, tt);
      bytes_are = refl;
      names_are = refl;
    }

pub too_many_is : IsRefused (parenthesized 65) 1 TooDeep
unfolding rows_of lines_from line_at cuts piece_at fault_of text_rest symbol_len number_of tokens_from statements_from statement_of coded
    body_of register_instr pair_instr stack_instr move_instr load_body items_of item_of data_of operand_of expression_of is_comma is_colon
    name_at own_name_at arg_at pair_at stack_pair_at mnemonic_at assignment_at mnemonic_named arg_named pair_named stack_pair_named unquoted
    nests_within is_reserved accepts_in operator_named symbol_word word_of words_of first_undefined run are_in_range IsDistinct
too_many_is = too_deep (parenthesized 65) (lines_in (lines_of (parenthesized 65))) refl 1 refl

pub too_many_nots_is : IsRefused (negated 65) 1 TooDeep
unfolding rows_of lines_from line_at cuts piece_at fault_of text_rest symbol_len number_of tokens_from statements_from statement_of coded
    body_of register_instr pair_instr stack_instr move_instr load_body items_of item_of data_of operand_of expression_of is_comma is_colon
    name_at own_name_at arg_at pair_at stack_pair_at mnemonic_at assignment_at mnemonic_named arg_named pair_named stack_pair_named unquoted
    nests_within is_reserved accepts_in operator_named symbol_word word_of words_of first_undefined run are_in_range IsDistinct
too_many_nots_is = too_deep (negated 65) (lines_in (lines_of (negated 65))) refl 1 refl

pub nests_to_64 : NestsTo64
nests_to_64 = record { parentheses = parentheses_is; too_many = too_many_is; nots = nots_is; too_many_nots = too_many_nots_is }
