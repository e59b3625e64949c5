use Rattle.std.proofs.Common.{[], ◌∷◌, refl}
use Rattle.sp_base.specs.Lines.{rows_of}
use Rattle.sp_lex.specs.declared.refusal.TextKind.TheVariants.{BadByte}
use Rattle.sp_lex.specs.declared.token.TokenKind.TheVariants.{Text}
use Rattle.sp_lex.specs.Examples.{empty, statement, token}
use Rattle.sp_lex.specs.Numbers.{number_of}
use Rattle.sp_lex.specs.Pieces.{tokens_from}
use Rattle.sp_lex.specs.code.Lines.{line_at, lines_from}
use Rattle.sp_lex.specs.code.Pieces.{cuts, piece_at, fault_of, text_rest, symbol_len}
use Rattle.sp_lex.proofs.SourceLemmas.{fault_found, lines_found}
use Rattle.sp_lex.proofs.laws.bytes_past_127_stand_in_comments.Goals as goal

pub returns-clause-accented : goal.returns-clause-accented
unfolding rows_of lines_from line_at cuts piece_at fault_of text_rest symbol_len number_of tokens_from
returns-clause-accented c = lines_found (59 ∷ 195 ∷ 169 ∷ []) (empty ∷ []) refl

pub returns-clause-outside : goal.returns-clause-outside
unfolding rows_of lines_from line_at cuts piece_at fault_of text_rest symbol_len number_of tokens_from
returns-clause-outside c = fault_found (195 ∷ 169 ∷ []) 1 BadByte refl

pub returns-clause-quoted : goal.returns-clause-quoted
unfolding rows_of lines_from line_at cuts piece_at fault_of text_rest symbol_len number_of tokens_from
returns-clause-quoted c = fault_found (39 ∷ 195 ∷ 39 ∷ []) 1 BadByte refl

pub returns-clause-delete : goal.returns-clause-delete
unfolding rows_of lines_from line_at cuts piece_at fault_of text_rest symbol_len number_of tokens_from
returns-clause-delete c = fault_found (59 ∷ 127 ∷ []) 1 BadByte refl

pub returns-clause-control : goal.returns-clause-control
unfolding rows_of lines_from line_at cuts piece_at fault_of text_rest symbol_len number_of tokens_from
returns-clause-control c = fault_found (59 ∷ 31 ∷ []) 1 BadByte refl

pub returns-clause-tab : goal.returns-clause-tab
unfolding rows_of lines_from line_at cuts piece_at fault_of text_rest symbol_len number_of tokens_from
returns-clause-tab c = lines_found (59 ∷ 9 ∷ []) (empty ∷ []) refl

pub returns-clause-quoted_tab : goal.returns-clause-quoted_tab
unfolding rows_of lines_from line_at cuts piece_at fault_of text_rest symbol_len number_of tokens_from
returns-clause-quoted_tab c = lines_found (39 ∷ 9 ∷ 39 ∷ []) (statement (token Text 0 3 ∷ []) ∷ []) refl

pub returns-clause-quoted_control : goal.returns-clause-quoted_control
unfolding rows_of lines_from line_at cuts piece_at fault_of text_rest symbol_len number_of tokens_from
returns-clause-quoted_control c = fault_found (39 ∷ 31 ∷ 39 ∷ []) 1 BadByte refl
