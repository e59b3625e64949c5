use Rattle.std.proofs.Common.{[], ◌∷◌, codes, refl}
use Rattle.sp_base.specs.Lines.{rows_of}
use Rattle.sp_lex.specs.declared.refusal.TextKind.TheVariants.{BadByte}
use Rattle.sp_lex.specs.declared.token.TokenKind.TheVariants.{Name, Number, Symbol}
use Rattle.sp_lex.specs.Examples.{annotation, statement, token}
use Rattle.sp_lex.specs.Numbers.{number_of}
use Rattle.sp_lex.specs.Pieces.{tokens_from}
use Rattle.sp_lex.specs.code.Lines.{line_at, lines_from}
use Rattle.sp_lex.specs.code.Pieces.{cuts, piece_at, fault_of, text_rest, symbol_len}
use Rattle.sp_lex.proofs.SourceLemmas.{fault_found, lines_found}
use Rattle.sp_lex.proofs.laws.tokens_are_the_longest.Goals as goal

pub returns-clause-three : goal.returns-clause-three
unfolding rows_of lines_from line_at cuts piece_at fault_of text_rest symbol_len number_of tokens_from
returns-clause-three c = lines_found (codes ";#<->") (annotation (token Symbol 2 5 ∷ []) ∷ []) refl

pub returns-clause-two : goal.returns-clause-two
unfolding rows_of lines_from line_at cuts piece_at fault_of text_rest symbol_len number_of tokens_from
returns-clause-two c = lines_found (codes ";#<=>") (annotation (token Symbol 2 4 ∷ token Symbol 4 5 ∷ []) ∷ []) refl

pub returns-clause-one : goal.returns-clause-one
unfolding rows_of lines_from line_at cuts piece_at fault_of text_rest symbol_len number_of tokens_from
returns-clause-one c = lines_found (codes ";#<-") (annotation (token Symbol 2 3 ∷ token Symbol 3 4 ∷ []) ∷ []) refl

pub returns-clause-third_dot : goal.returns-clause-third_dot
unfolding rows_of lines_from line_at cuts piece_at fault_of text_rest symbol_len number_of tokens_from
returns-clause-third_dot c = fault_found (codes ";#...") 1 BadByte refl

pub returns-clause-arrow : goal.returns-clause-arrow
unfolding rows_of lines_from line_at cuts piece_at fault_of text_rest symbol_len number_of tokens_from
returns-clause-arrow c = lines_found (codes ";#->1") (annotation (token Symbol 2 4 ∷ token Number 4 5 ∷ []) ∷ []) refl

pub returns-clause-plain : goal.returns-clause-plain
unfolding rows_of lines_from line_at cuts piece_at fault_of text_rest symbol_len number_of tokens_from
returns-clause-plain c = lines_found (codes "+-") (statement (token Symbol 0 1 ∷ token Symbol 1 2 ∷ []) ∷ []) refl

pub returns-clause-no_statement : goal.returns-clause-no_statement
unfolding rows_of lines_from line_at cuts piece_at fault_of text_rest symbol_len number_of tokens_from
returns-clause-no_statement c = fault_found (codes "<=") 1 BadByte refl

pub returns-clause-name : goal.returns-clause-name
unfolding rows_of lines_from line_at cuts piece_at fault_of text_rest symbol_len number_of tokens_from
returns-clause-name c = lines_found (codes "A1B 1") (statement (token Name 0 3 ∷ token Number 4 5 ∷ []) ∷ []) refl
