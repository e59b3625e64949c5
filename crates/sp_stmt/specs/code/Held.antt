-- How the operands of a data directive are seen while they are read.
use Rattle.std.specs.Prelude.{◌≡◌, if◌then◌else◌, List, Result, Ok, Err, ⊤}
use Rattle.sp_expr.specs.declared.refusal.ParseRefusal.{ParseRefusal}
use Rattle.sp_expr.specs.declared.refusal.ParseRefusal.TheVariants.{Syntax, TooDeep, Memory}
use Rattle.sp_stmt.specs.declared.data.Items.{Items}
use Rattle.sp_stmt.specs.declared.operand.Operand.{Operand}

-- the operands read so far, or TooDeep where one of them nests too deep
abbrev pub held : Items → Result (List Operand) ParseRefusal
held items = if items.deep then Err TooDeep else Ok items.operands.items

-- an answer to one item more, where this is right for all so far
abbrev pub AnswersItem : {X : Type 0} → Result X ParseRefusal → Result (List Operand) ParseRefusal → Result (List Operand) ParseRefusal → Type 0
AnswersItem (Ok x) now right = right ≡ now
AnswersItem (Err Syntax) now right = right ≡ Err Syntax
AnswersItem (Err TooDeep) now right = ⊥
AnswersItem (Err Memory) now right = ⊤
