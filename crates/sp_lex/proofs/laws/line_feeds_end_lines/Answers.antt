use Rattle.std.proofs.Common.{[], ◌∷◌, ◌++◌, codes, refl}
use Rattle.sp_base.specs.Lines.{rows_of}
use Rattle.sp_lex.specs.declared.refusal.TextKind.TheVariants.{BadByte}
use Rattle.sp_lex.specs.declared.token.TokenKind.TheVariants.{Name}
use Rattle.sp_lex.specs.Examples.{empty, statement, token}
use Rattle.sp_lex.specs.Numbers.{number_of}
use Rattle.sp_lex.specs.Pieces.{tokens_from}
use Rattle.sp_lex.specs.code.Lines.{line_at, lines_from}
use Rattle.sp_lex.specs.code.Pieces.{cuts, piece_at, fault_of, text_rest, symbol_len}
use Rattle.sp_lex.proofs.SourceLemmas.{fault_found, lines_found}
use Rattle.sp_lex.proofs.laws.line_feeds_end_lines.Goals as goal

pub returns-clause-ends : goal.returns-clause-ends
unfolding rows_of lines_from line_at cuts piece_at fault_of text_rest symbol_len number_of tokens_from
returns-clause-ends c = lines_found (codes "A" ++ 13 ∷ 10 ∷ 10 ∷ codes "B") (statement (token Name 0 1 ∷ []) ∷ empty ∷ statement (token Name 4 5 ∷ []) ∷ []) refl

pub returns-clause-no_more : goal.returns-clause-no_more
unfolding rows_of lines_from line_at cuts piece_at fault_of text_rest symbol_len number_of tokens_from
returns-clause-no_more c = lines_found (codes "A" ++ 10 ∷ []) (statement (token Name 0 1 ∷ []) ∷ []) refl

pub returns-clause-lone_return : goal.returns-clause-lone_return
unfolding rows_of lines_from line_at cuts piece_at fault_of text_rest symbol_len number_of tokens_from
returns-clause-lone_return c = fault_found (codes "A" ++ 13 ∷ []) 1 BadByte refl

pub returns-clause-nothing : goal.returns-clause-nothing
unfolding rows_of lines_from line_at cuts piece_at fault_of text_rest symbol_len number_of tokens_from
returns-clause-nothing c = lines_found [] ([]) refl
