use Rattle.std.proofs.Common.{[], ◌∷◌, codes, refl}
use Rattle.sp_base.specs.Lines.{rows_of}
use Rattle.sp_lex.specs.declared.refusal.TextKind.TheVariants.{OpenQuote}
use Rattle.sp_lex.specs.declared.token.TokenKind.TheVariants.{Text, Symbol}
use Rattle.sp_lex.specs.Examples.{empty, statement, token}
use Rattle.sp_lex.specs.Numbers.{number_of}
use Rattle.sp_lex.specs.Pieces.{tokens_from}
use Rattle.sp_lex.specs.code.Lines.{line_at, lines_from}
use Rattle.sp_lex.specs.code.Pieces.{cuts, piece_at, fault_of, text_rest, symbol_len}
use Rattle.sp_lex.proofs.SourceLemmas.{fault_found, lines_found}
use Rattle.sp_lex.proofs.laws.texts_end_at_a_lone_quote.Goals as goal

pub returns-clause-no_character : goal.returns-clause-no_character
unfolding rows_of lines_from line_at cuts piece_at fault_of text_rest symbol_len number_of tokens_from
returns-clause-no_character c = lines_found (codes "''") (statement (token Text 0 2 ∷ []) ∷ []) refl

pub returns-clause-quote : goal.returns-clause-quote
unfolding rows_of lines_from line_at cuts piece_at fault_of text_rest symbol_len number_of tokens_from
returns-clause-quote c = lines_found (codes "''''") (statement (token Text 0 4 ∷ []) ∷ []) refl

pub returns-clause-inner : goal.returns-clause-inner
unfolding rows_of lines_from line_at cuts piece_at fault_of text_rest symbol_len number_of tokens_from
returns-clause-inner c = lines_found (codes "'it''s'") (statement (token Text 0 7 ∷ []) ∷ []) refl

pub returns-clause-two : goal.returns-clause-two
unfolding rows_of lines_from line_at cuts piece_at fault_of text_rest symbol_len number_of tokens_from
returns-clause-two c = lines_found (codes "'a','b'") (statement (token Text 0 3 ∷ token Symbol 3 4 ∷ token Text 4 7 ∷ []) ∷ []) refl

pub returns-clause-three_quotes : goal.returns-clause-three_quotes
unfolding rows_of lines_from line_at cuts piece_at fault_of text_rest symbol_len number_of tokens_from
returns-clause-three_quotes c = fault_found (codes "'''") 1 OpenQuote refl

pub returns-clause-one_quote : goal.returns-clause-one_quote
unfolding rows_of lines_from line_at cuts piece_at fault_of text_rest symbol_len number_of tokens_from
returns-clause-one_quote c = fault_found (codes "'ab") 1 OpenQuote refl

pub returns-clause-semicolon : goal.returns-clause-semicolon
unfolding rows_of lines_from line_at cuts piece_at fault_of text_rest symbol_len number_of tokens_from
returns-clause-semicolon c = lines_found (codes "';'") (statement (token Text 0 3 ∷ []) ∷ []) refl

pub returns-clause-open_semicolon : goal.returns-clause-open_semicolon
unfolding rows_of lines_from line_at cuts piece_at fault_of text_rest symbol_len number_of tokens_from
returns-clause-open_semicolon c = fault_found (codes "';") 1 OpenQuote refl

pub returns-clause-comment : goal.returns-clause-comment
unfolding rows_of lines_from line_at cuts piece_at fault_of text_rest symbol_len number_of tokens_from
returns-clause-comment c = lines_found (codes "; 'a") (empty ∷ []) refl
