-- Expressions as operands.
use Rattle.std.specs.Prelude.{List}
use Rattle.sp_expr.specs.declared.word.Word.{Word}
use Rattle.sp_words.specs.declared.mnemonic.ExpressionKind.{ExpressionKind}
use Rattle.sp_words.specs.declared.mnemonic.ExpressionKind.TheVariants as kind
use Rattle.sp_stmt.specs.declared.operand.Operand.{Operand}
use Rattle.sp_stmt.specs.declared.operand.Operand.TheVariants as operand

-- the operand that an expression is where it is used so
abbrev pub used_as : ExpressionKind → List Word → Operand
used_as kind.Byte ws = operand.Byte ws
used_as kind.Word ws = operand.Word ws
used_as kind.Restart ws = operand.Restart ws
