-- The kinds of a refusal to read a line.
use Rattle.sp_stmt.specs.declared.refusal.StatementKind.{StatementKind}
use Rattle.sp_stmt.specs.declared.refusal.StatementKind.TheVariants as unread
use Rattle.sp_asm.specs.declared.refusal.AsmKind.{AsmKind}
use Rattle.sp_asm.specs.declared.refusal.AsmKind.TheVariants.{Syntax, TooDeep}

abbrev pub kind_of : StatementKind → AsmKind
kind_of unread.Syntax = Syntax
kind_of unread.TooDeep = TooDeep
