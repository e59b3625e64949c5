-- What the calls on statements answer.
use Rattle.std.specs.Prelude.{◌≡◌, List, Result, Ok, Err, ⊤}
use Rattle.sp_base.specs.declared.line.Line.{Line}
use Rattle.sp_expr.specs.declared.refusal.ParseRefusal.{ParseRefusal}
use Rattle.sp_expr.specs.declared.refusal.ParseRefusal.TheVariants.{Syntax, TooDeep, Memory}
use Rattle.sp_base.specs.declared.refused.Refused.{Refused}
use Rattle.sp_base.specs.declared.refused.Refused.TheVariants as refused
use Rattle.sp_stmt.specs.declared.refusal.StatementKind.{StatementKind}
use Rattle.sp_stmt.specs.declared.refusal.StatementKind.TheVariants as kind
use Rattle.sp_stmt.specs.declared.statement.Statement.{Statement}
use Rattle.sp_stmt.specs.code.Reading.{Fault}

-- an answer is the right one, unless memory ran out
abbrev pub Answers : {X : Type 0} → Result X ParseRefusal → Result X ParseRefusal → Type 0
Answers (Ok x) right = right ≡ Ok x
Answers (Err Syntax) right = right ≡ Err Syntax
Answers (Err TooDeep) right = right ≡ Err TooDeep
Answers (Err Memory) right = ⊤

-- the refusal of a source for that of this line
abbrev pub refusal_at : ParseRefusal → Line → Refused StatementKind
refusal_at Syntax line = refused.At line kind.Syntax
refusal_at TooDeep line = refused.At line kind.TooDeep
refusal_at Memory line = refused.Memory

-- the statements of lines, or the refusal of a line, unless memory ran out
abbrev pub AnswersStatements : Result (List Statement) (Refused StatementKind) → Result (List Statement) Fault → Type 0
AnswersStatements (Ok statements) right = right ≡ Ok statements
AnswersStatements (Err (refused.At line kind.Syntax)) right = right ≡ Err (record { kind = Syntax; line = line.0 })
AnswersStatements (Err (refused.At line kind.TooDeep)) right = right ≡ Err (record { kind = TooDeep; line = line.0 })
AnswersStatements (Err refused.Memory) right = ⊤
