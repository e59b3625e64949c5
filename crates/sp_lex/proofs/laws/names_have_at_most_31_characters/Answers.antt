use Rattle.std.proofs.Common.{[], ◌∷◌, codes, refl}
use Rattle.sp_base.specs.Lines.{rows_of}
use Rattle.sp_lex.specs.declared.refusal.TextKind.TheVariants.{BadByte}
use Rattle.sp_lex.specs.declared.token.TokenKind.TheVariants.{Name}
use Rattle.sp_lex.specs.Examples.{statement, token}
use Rattle.sp_lex.specs.Numbers.{number_of}
use Rattle.sp_lex.specs.Pieces.{tokens_from}
use Rattle.sp_lex.specs.code.Lines.{line_at, lines_from}
use Rattle.sp_lex.specs.code.Pieces.{cuts, piece_at, fault_of, text_rest, symbol_len}
use Rattle.sp_lex.proofs.SourceLemmas.{fault_found, lines_found}
use Rattle.sp_lex.proofs.laws.names_have_at_most_31_characters.Goals as goal

pub returns-clause-longest : goal.returns-clause-longest
unfolding rows_of lines_from line_at cuts piece_at fault_of text_rest symbol_len number_of tokens_from
returns-clause-longest c = lines_found (codes "ABCDEFGHIJKLMNOPQRSTUVWXYZ01234") (statement (token Name 0 31 ∷ []) ∷ []) refl

pub returns-clause-too_long : goal.returns-clause-too_long
unfolding rows_of lines_from line_at cuts piece_at fault_of text_rest symbol_len number_of tokens_from
returns-clause-too_long c = fault_found (codes "ABCDEFGHIJKLMNOPQRSTUVWXYZ012345") 1 BadByte refl

pub returns-clause-signs : goal.returns-clause-signs
unfolding rows_of lines_from line_at cuts piece_at fault_of text_rest symbol_len number_of tokens_from
returns-clause-signs c = lines_found (codes "?@9z @") (statement (token Name 0 4 ∷ token Name 5 6 ∷ []) ∷ []) refl

pub returns-clause-no_letter : goal.returns-clause-no_letter
unfolding rows_of lines_from line_at cuts piece_at fault_of text_rest symbol_len number_of tokens_from
returns-clause-no_letter c = fault_found (codes "_") 1 BadByte refl
