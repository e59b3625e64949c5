use Rattle.std.proofs.Common.{[], ◌∷◌, codes, refl}
use Rattle.sp_base.specs.Lines.{rows_of}
use Rattle.sp_lex.specs.declared.refusal.TextKind.TheVariants.{BadNumber}
use Rattle.sp_lex.specs.declared.token.TokenKind.TheVariants.{Number}
use Rattle.sp_lex.specs.Examples.{annotation, statement, token}
use Rattle.sp_lex.specs.Numbers.{number_of}
use Rattle.sp_lex.specs.Pieces.{tokens_from}
use Rattle.sp_lex.specs.code.Lines.{line_at, lines_from}
use Rattle.sp_lex.specs.code.Pieces.{cuts, piece_at, fault_of, text_rest, symbol_len}
use Rattle.sp_lex.proofs.SourceLemmas.{fault_found, lines_found}
use Rattle.sp_lex.proofs.laws.numbers_have_limits.Goals as goal

pub returns-clause-statement : goal.returns-clause-statement
unfolding rows_of lines_from line_at cuts piece_at fault_of text_rest symbol_len number_of tokens_from
returns-clause-statement c = lines_found (codes "65535") (statement (token Number 0 5 ∷ []) ∷ []) refl

pub returns-clause-past_statement : goal.returns-clause-past_statement
unfolding rows_of lines_from line_at cuts piece_at fault_of text_rest symbol_len number_of tokens_from
returns-clause-past_statement c = fault_found (codes "65536") 1 BadNumber refl

pub returns-clause-annotation : goal.returns-clause-annotation
unfolding rows_of lines_from line_at cuts piece_at fault_of text_rest symbol_len number_of tokens_from
returns-clause-annotation c = lines_found (codes ";#9223372036854775807") (annotation (token Number 2 21 ∷ []) ∷ []) refl

pub returns-clause-past_annotation : goal.returns-clause-past_annotation
unfolding rows_of lines_from line_at cuts piece_at fault_of text_rest symbol_len number_of tokens_from
returns-clause-past_annotation c = fault_found (codes ";#9223372036854775808") 1 BadNumber refl
