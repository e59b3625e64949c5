use Rattle.std.proofs.Common.{[], ◌∷◌, ◌++◌, codes, refl}
use Rattle.sp_base.specs.Lines.{rows_of}
use Rattle.sp_lex.specs.declared.refusal.TextKind.TheVariants.{OpenQuote}
use Rattle.sp_lex.specs.declared.token.TokenKind.TheVariants.{Name, Symbol}
use Rattle.sp_lex.specs.Examples.{statement, token}
use Rattle.sp_lex.specs.Numbers.{number_of}
use Rattle.sp_lex.specs.Pieces.{tokens_from}
use Rattle.sp_lex.specs.code.Lines.{line_at, lines_from}
use Rattle.sp_lex.specs.code.Pieces.{cuts, piece_at, fault_of, text_rest, symbol_len}
use Rattle.sp_lex.proofs.SourceLemmas.{fault_found, lines_found}
use Rattle.sp_lex.proofs.laws.an_end_line_is_the_last.Goals as goal

pub returns-clause-last : goal.returns-clause-last
unfolding rows_of lines_from line_at cuts piece_at fault_of text_rest symbol_len number_of tokens_from
returns-clause-last c = lines_found (codes "end" ++ 10 ∷ codes "'") (statement (token Name 0 3 ∷ []) ∷ []) refl

pub returns-clause-colon : goal.returns-clause-colon
unfolding rows_of lines_from line_at cuts piece_at fault_of text_rest symbol_len number_of tokens_from
returns-clause-colon c = lines_found (codes " END:" ++ 10 ∷ codes "'") (statement (token Name 1 4 ∷ token Symbol 4 5 ∷ []) ∷ []) refl

pub returns-clause-second_token : goal.returns-clause-second_token
unfolding rows_of lines_from line_at cuts piece_at fault_of text_rest symbol_len number_of tokens_from
returns-clause-second_token c = fault_found (codes "A END" ++ 10 ∷ codes "'") 2 OpenQuote refl

pub returns-clause-annotation : goal.returns-clause-annotation
unfolding rows_of lines_from line_at cuts piece_at fault_of text_rest symbol_len number_of tokens_from
returns-clause-annotation c = fault_found (codes ";#END" ++ 10 ∷ codes "'") 2 OpenQuote refl

pub returns-clause-longer_word : goal.returns-clause-longer_word
unfolding rows_of lines_from line_at cuts piece_at fault_of text_rest symbol_len number_of tokens_from
returns-clause-longer_word c = fault_found (codes "ENDS" ++ 10 ∷ codes "'") 2 OpenQuote refl
