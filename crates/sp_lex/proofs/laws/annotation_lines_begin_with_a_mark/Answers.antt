use Rattle.std.proofs.Common.{[], ◌∷◌, codes, refl}
use Rattle.sp_base.specs.Lines.{rows_of}
use Rattle.sp_lex.specs.declared.token.TokenKind.TheVariants.{Name}
use Rattle.sp_lex.specs.Examples.{annotation, empty, statement, token}
use Rattle.sp_lex.specs.Numbers.{number_of}
use Rattle.sp_lex.specs.Pieces.{tokens_from}
use Rattle.sp_lex.specs.code.Lines.{line_at, lines_from}
use Rattle.sp_lex.specs.code.Pieces.{cuts, piece_at, fault_of, text_rest, symbol_len}
use Rattle.sp_lex.proofs.SourceLemmas.{lines_found}
use Rattle.sp_lex.proofs.laws.annotation_lines_begin_with_a_mark.Goals as goal

pub returns-clause-first : goal.returns-clause-first
unfolding rows_of lines_from line_at cuts piece_at fault_of text_rest symbol_len number_of tokens_from
returns-clause-first c = lines_found (codes ";#A") (annotation (token Name 2 3 ∷ []) ∷ []) refl

pub returns-clause-after_blanks : goal.returns-clause-after_blanks
unfolding rows_of lines_from line_at cuts piece_at fault_of text_rest symbol_len number_of tokens_from
returns-clause-after_blanks c = lines_found (32 ∷ 9 ∷ codes ";#A") (annotation (token Name 4 5 ∷ []) ∷ []) refl

pub returns-clause-apart : goal.returns-clause-apart
unfolding rows_of lines_from line_at cuts piece_at fault_of text_rest symbol_len number_of tokens_from
returns-clause-apart c = lines_found (codes "; #A") (empty ∷ []) refl

pub returns-clause-after_token : goal.returns-clause-after_token
unfolding rows_of lines_from line_at cuts piece_at fault_of text_rest symbol_len number_of tokens_from
returns-clause-after_token c = lines_found (codes "A;#B") (statement (token Name 0 1 ∷ []) ∷ []) refl

pub returns-clause-comment : goal.returns-clause-comment
unfolding rows_of lines_from line_at cuts piece_at fault_of text_rest symbol_len number_of tokens_from
returns-clause-comment c = lines_found (codes ";#A;#B") (annotation (token Name 2 3 ∷ []) ∷ []) refl

pub returns-clause-alone : goal.returns-clause-alone
unfolding rows_of lines_from line_at cuts piece_at fault_of text_rest symbol_len number_of tokens_from
returns-clause-alone c = lines_found (codes ";#") (annotation [] ∷ []) refl
