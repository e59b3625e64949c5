use Rattle.std.proofs.Common.{[], ◌∷◌, ◌++◌, codes, refl}
use Rattle.sp_base.specs.Lines.{rows_of}
use Rattle.sp_lex.specs.declared.refusal.TextKind.TheVariants.{BadByte, OpenQuote, BadNumber}
use Rattle.sp_lex.specs.Numbers.{number_of}
use Rattle.sp_lex.specs.Pieces.{tokens_from}
use Rattle.sp_lex.specs.code.Lines.{line_at, lines_from}
use Rattle.sp_lex.specs.code.Pieces.{cuts, piece_at, fault_of, text_rest, symbol_len}
use Rattle.sp_lex.proofs.SourceLemmas.{fault_found}
use Rattle.sp_lex.proofs.laws.the_first_fault_of_the_lowest_line_counts.Goals as goal

pub returns-clause-byte : goal.returns-clause-byte
unfolding rows_of lines_from line_at cuts piece_at fault_of text_rest symbol_len number_of tokens_from
returns-clause-byte c = fault_found (codes "2B '" ++ 1 ∷ []) 1 BadByte refl

pub returns-clause-quote : goal.returns-clause-quote
unfolding rows_of lines_from line_at cuts piece_at fault_of text_rest symbol_len number_of tokens_from
returns-clause-quote c = fault_found (codes "2B '") 1 OpenQuote refl

pub returns-clause-number : goal.returns-clause-number
unfolding rows_of lines_from line_at cuts piece_at fault_of text_rest symbol_len number_of tokens_from
returns-clause-number c = fault_found (codes "2B") 1 BadNumber refl

pub returns-clause-lowest : goal.returns-clause-lowest
unfolding rows_of lines_from line_at cuts piece_at fault_of text_rest symbol_len number_of tokens_from
returns-clause-lowest c = fault_found (codes "2B" ++ 10 ∷ codes "'") 1 BadNumber refl

pub returns-clause-second : goal.returns-clause-second
unfolding rows_of lines_from line_at cuts piece_at fault_of text_rest symbol_len number_of tokens_from
returns-clause-second c = fault_found (codes "2" ++ 10 ∷ codes "'") 2 OpenQuote refl
