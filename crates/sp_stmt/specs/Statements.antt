-- What holds of every statement.
use Rattle.std.specs.Prelude.{◌≡◌, ◌⊎◌, ◌<◌, List, [], ◌∷◌, length, Option, Some, None, All, IsTrue, ⊤}
use Rattle.sp_expr.specs.declared.word.Word.{Word}
use Rattle.sp_expr.specs.Trees.{Tree, Spells}
use Rattle.sp_isa.specs.declared.instr.Instr.{Instr}
use Rattle.sp_isa.specs.declared.instr.Instr.TheVariants.{Mvi, AluImmediate, Lxi, Shld, Lhld, Sta, Lda, Jmp, Jcc, Call, Ccc, Rst, In, Out}
use Rattle.sp_isa.specs.Code.{valid}
use Rattle.sp_words.specs.declared.mnemonic.ExpressionKind.{ExpressionKind}
use Rattle.sp_words.specs.declared.mnemonic.ExpressionKind.TheVariants as kind
use Rattle.sp_stmt.specs.declared.operand.Operand.{Operand}
use Rattle.sp_stmt.specs.declared.operand.Operand.TheVariants as operand
use Rattle.sp_stmt.specs.declared.statement.Code.{Code}
use Rattle.sp_stmt.specs.declared.statement.Code.TheVariants as code
use Rattle.sp_stmt.specs.declared.statement.Statement.{Statement}
use Rattle.sp_stmt.specs.Operands.{used_as}

-- an instruction is one of the table
abbrev pub IsInTable : Code → Type 0
IsInTable (code.Instr i) = IsTrue (valid i)
IsInTable code.Nothing = ⊤
IsInTable code.Data = ⊤
IsInTable code.Space = ⊤
IsInTable code.Org = ⊤
IsInTable (code.Equ name) = ⊤
IsInTable (code.Set name) = ⊤
IsInTable code.End = ⊤

-- these words have a tree
abbrev pub HaveTree : List Word → Type 0
HaveTree ws = (t : Tree) × Spells ws t

-- the words of an expression have a tree
abbrev pub IsExpressed : Operand → Type 0
IsExpressed (operand.Text characters) = ⊤
IsExpressed (operand.Byte ws) = HaveTree ws
IsExpressed (operand.Word ws) = HaveTree ws
IsExpressed (operand.Restart ws) = HaveTree ws

-- an item of DB or DW is no restart number
abbrev pub IsItem : Operand → Type 0
IsItem (operand.Text characters) = ⊤
IsItem (operand.Byte ws) = ⊤
IsItem (operand.Word ws) = ⊤
IsItem (operand.Restart ws) = ⊥

-- what the expression is used as that an instruction has, if it has one
abbrev pub operand_kind : Instr → Option ExpressionKind
operand_kind (Mvi to _) = Some kind.Byte
operand_kind (AluImmediate o _) = Some kind.Byte
operand_kind (In _) = Some kind.Byte
operand_kind (Out _) = Some kind.Byte
operand_kind (Lxi p _) = Some kind.Word
operand_kind (Shld _) = Some kind.Word
operand_kind (Lhld _) = Some kind.Word
operand_kind (Sta _) = Some kind.Word
operand_kind (Lda _) = Some kind.Word
operand_kind (Jmp _) = Some kind.Word
operand_kind (Jcc when _) = Some kind.Word
operand_kind (Call _) = Some kind.Word
operand_kind (Ccc when _) = Some kind.Word
operand_kind (Rst _) = Some kind.Restart
operand_kind _ = None

-- one expression that is used so, or no operand
abbrev pub AreUsedAs : Option ExpressionKind → List Operand → Type 0
AreUsedAs None operands = operands ≡ []
AreUsedAs (Some kind) operands = (ws : List Word) × (operands ≡ used_as kind ws ∷ [])

-- the operands are those of the code
abbrev pub AreFor : Code → List Operand → Type 0
AreFor (code.Instr i) operands = AreUsedAs (operand_kind i) operands
AreFor code.Data operands = 0 < length operands
AreFor code.Nothing operands = operands ≡ []
AreFor code.Space operands = AreUsedAs (Some kind.Word) operands
AreFor code.Org operands = AreUsedAs (Some kind.Word) operands
AreFor (code.Equ name) operands = AreUsedAs (Some kind.Word) operands
AreFor (code.Set name) operands = AreUsedAs (Some kind.Word) operands
AreFor code.End operands = (operands ≡ []) ⊎ AreUsedAs (Some kind.Word) operands

pub record IsStatement (s : Statement) : Type 0 where
  pub valid : IsInTable s.code
  pub expressions : All IsExpressed s.operands
  pub operands : AreFor s.code s.operands
  pub items : s.code ≡ code.Data → All IsItem s.operands
