-- The order of the kinds of faults.
use Rattle.std.specs.Prelude.{ℕ}
use Rattle.sp_lex.specs.declared.refusal.TextKind.{TextKind}
use Rattle.sp_lex.specs.declared.refusal.TextKind.TheVariants.{LongLine, BadByte, OpenQuote, BadNumber}

-- where the faults of one line stand in their order
abbrev pub rank_of : TextKind → ℕ
rank_of LongLine = 0
rank_of BadByte = 1
rank_of OpenQuote = 2
rank_of BadNumber = 3
