use Rattle.std.proofs.Common.{replicate, refl}
use Rattle.sp_lex.specs.declared.refusal.TextKind.TheVariants.{LongLine}
use Rattle.sp_lex.specs.Pieces.{tokens_from}
use Rattle.sp_lex.specs.Examples.{empty}
use Rattle.sp_lex.specs.code.Lines.{line_at}
use Rattle.sp_lex.specs.code.Pieces.{cuts, piece_at, fault_of}
use Rattle.sp_lex.proofs.SourceLemmas.{sound_found, kind_found}
use Rattle.sp_lex.proofs.laws.lines_have_at_most_4096_bytes.Goals as goal

pub returns-clause-longest : goal.returns-clause-longest
unfolding line_at cuts piece_at fault_of tokens_from
returns-clause-longest c = sound_found 0 (replicate 4096 32) empty refl

pub returns-clause-too_long : goal.returns-clause-too_long
unfolding line_at
returns-clause-too_long c = kind_found 0 (replicate 4097 32) LongLine refl
