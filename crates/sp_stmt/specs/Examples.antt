-- Lines that differ little, and the statement that each is, if it is one.
use Rattle.std.specs.Prelude.{ℕ, List, [], ◌∷◌, Option, Some, None, codes}
use Rattle.sp_base.specs.declared.location.Reg.TheVariants as reg
use Rattle.sp_base.specs.declared.pair.Pair.TheVariants as pair
use Rattle.sp_lex.specs.declared.token.Token.{Token}
use Rattle.sp_lex.specs.declared.token.TokenKind.TheVariants as tokens
use Rattle.sp_expr.specs.declared.word.Operator.TheVariants as operator
use Rattle.sp_expr.specs.declared.word.Word.TheVariants as words
use Rattle.sp_isa.specs.declared.instr.Arg.TheVariants as arg
use Rattle.sp_isa.specs.declared.instr.StackPair.TheVariants as stack
use Rattle.sp_isa.specs.declared.instr.Instr.TheVariants as instr
use Rattle.sp_stmt.specs.declared.operand.Operand.{Operand}
use Rattle.sp_stmt.specs.declared.operand.Operand.TheVariants as operand
use Rattle.sp_stmt.specs.declared.statement.Code.{Code}
use Rattle.sp_stmt.specs.declared.statement.Code.TheVariants as code
use Rattle.sp_stmt.specs.declared.statement.Statement.{Statement}
use Rattle.sp_stmt.specs.Grammar.{IsLine}
use Rattle.sp_stmt.specs.Source.{IsStatementOf}

-- tokens by where they begin and end

abbrev pub name : ℕ → ℕ → Token
name start end = record { kind = tokens.Name; start = start; end = end }

abbrev pub number : ℕ → ℕ → Token
number start end = record { kind = tokens.Number; start = start; end = end }

abbrev pub text : ℕ → ℕ → Token
text start end = record { kind = tokens.Text; start = start; end = end }

abbrev pub symbol : ℕ → ℕ → Token
symbol start end = record { kind = tokens.Symbol; start = start; end = end }

-- line 1 is this statement
abbrev pub Is : List ℕ → List Token → Option (List ℕ) → Code → List Operand → Type 0
Is source line label what operands = IsStatementOf source 1 line (record { line = record { 0 = 1 }; label = label; code = what; operands = operands })

-- line 1 is no statement
abbrev pub IsNone : List ℕ → List Token → Type 0
IsNone source line = (s : Statement) → ¬ IsLine source 1 line s

-- instructions with registers, pairs and without operands
pub record InstructionsByExample : Type 0 where
  pub move : Is (codes "MOV A,B") (name 0 3 ∷ name 4 5 ∷ symbol 5 6 ∷ name 6 7 ∷ []) None (code.Instr (instr.Mov (arg.Reg reg.A) (arg.Reg reg.B))) []
  pub to_memory : Is (codes "mov m,b") (name 0 3 ∷ name 4 5 ∷ symbol 5 6 ∷ name 6 7 ∷ []) None (code.Instr (instr.Mov arg.M (arg.Reg reg.B))) []
  pub no_move : IsNone (codes "MOV M,M") (name 0 3 ∷ name 4 5 ∷ symbol 5 6 ∷ name 6 7 ∷ [])
  pub no_comma : IsNone (codes "MOV A:B") (name 0 3 ∷ name 4 5 ∷ symbol 5 6 ∷ name 6 7 ∷ [])
  pub increment : Is (codes "INR M") (name 0 3 ∷ name 4 5 ∷ []) None (code.Instr (instr.Inr arg.M)) []
  pub no_pair : IsNone (codes "INR SP") (name 0 3 ∷ name 4 6 ∷ [])
  pub addition : Is (codes "DAD SP") (name 0 3 ∷ name 4 6 ∷ []) None (code.Instr (instr.Dad pair.Sp)) []
  pub store : Is (codes "STAX D") (name 0 4 ∷ name 5 6 ∷ []) None (code.Instr (instr.Stax pair.D)) []
  pub no_store : IsNone (codes "STAX H") (name 0 4 ∷ name 5 6 ∷ [])
  pub push : Is (codes "PUSH PSW") (name 0 4 ∷ name 5 8 ∷ []) None (code.Instr (instr.Push stack.Psw)) []
  pub no_push : IsNone (codes "PUSH SP") (name 0 4 ∷ name 5 7 ∷ [])
  pub bare : Is (codes "NOP") (name 0 3 ∷ []) None (code.Instr instr.Nop) []
  pub no_operand : IsNone (codes "NOP 5") (name 0 3 ∷ number 4 5 ∷ [])

-- instructions with values
pub record ValuesByExample : Type 0 where
  pub byte : Is (codes "MVI M,5") (name 0 3 ∷ name 4 5 ∷ symbol 5 6 ∷ number 6 7 ∷ []) None (code.Instr (instr.Mvi arg.M 0)) (operand.Byte (words.Number 5 ∷ []) ∷ [])
  pub word : Is (codes "LXI B,5") (name 0 3 ∷ name 4 5 ∷ symbol 5 6 ∷ number 6 7 ∷ []) None (code.Instr (instr.Lxi pair.B 0)) (operand.Word (words.Number 5 ∷ []) ∷ [])
  pub no_value : IsNone (codes "MVI M,B") (name 0 3 ∷ name 4 5 ∷ symbol 5 6 ∷ name 6 7 ∷ [])
  pub port : Is (codes "OUT 5") (name 0 3 ∷ number 4 5 ∷ []) None (code.Instr (instr.Out 0)) (operand.Byte (words.Number 5 ∷ []) ∷ [])
  pub address : Is (codes "STA 5") (name 0 3 ∷ number 4 5 ∷ []) None (code.Instr (instr.Sta 0)) (operand.Word (words.Number 5 ∷ []) ∷ [])
  pub restart : Is (codes "RST 5") (name 0 3 ∷ number 4 5 ∷ []) None (code.Instr (instr.Rst 0)) (operand.Restart (words.Number 5 ∷ []) ∷ [])
  pub no_two : IsNone (codes "OUT 5 6") (name 0 3 ∷ number 4 5 ∷ number 6 7 ∷ [])

-- directives
pub record DirectivesByExample : Type 0 where
  pub character : Is (codes "DB 'A'") (name 0 2 ∷ text 3 6 ∷ []) None code.Data (operand.Text (65 ∷ []) ∷ [])
  pub no_character : IsNone (codes "DB ''") (name 0 2 ∷ text 3 5 ∷ [])
  pub sum :
      Is (codes "DB 'A'+1") (name 0 2 ∷ text 3 6 ∷ symbol 6 7 ∷ number 7 8 ∷ []) None code.Data
      (operand.Byte (words.Number 65 ∷ words.Operator operator.Plus ∷ words.Number 1 ∷ []) ∷ [])
  pub words_of : Is (codes "DW 'A'") (name 0 2 ∷ text 3 6 ∷ []) None code.Data (operand.Word (words.Number 65 ∷ []) ∷ [])
  pub two :
      Is (codes "DB 1,2") (name 0 2 ∷ number 3 4 ∷ symbol 4 5 ∷ number 5 6 ∷ []) None code.Data
      (operand.Byte (words.Number 1 ∷ []) ∷ operand.Byte (words.Number 2 ∷ []) ∷ [])
  pub no_second : IsNone (codes "DB 1,") (name 0 2 ∷ number 3 4 ∷ symbol 4 5 ∷ [])
  pub space : Is (codes "DS 5") (name 0 2 ∷ number 3 4 ∷ []) None code.Space (operand.Word (words.Number 5 ∷ []) ∷ [])
  pub org : Is (codes "ORG 5") (name 0 3 ∷ number 4 5 ∷ []) None code.Org (operand.Word (words.Number 5 ∷ []) ∷ [])
  pub equ : Is (codes "X EQU 5") (name 0 1 ∷ name 2 5 ∷ number 6 7 ∷ []) None (code.Equ (codes "X")) (operand.Word (words.Number 5 ∷ []) ∷ [])
  pub set : Is (codes "X SET 5") (name 0 1 ∷ name 2 5 ∷ number 6 7 ∷ []) None (code.Set (codes "X")) (operand.Word (words.Number 5 ∷ []) ∷ [])
  pub no_name : IsNone (codes "A EQU 5") (name 0 1 ∷ name 2 5 ∷ number 6 7 ∷ [])
  pub end : Is (codes "END") (name 0 3 ∷ []) None code.End []
  pub end_value : Is (codes "END 5") (name 0 3 ∷ number 4 5 ∷ []) None code.End (operand.Word (words.Number 5 ∷ []) ∷ [])

-- labels
pub record LabelsByExample : Type 0 where
  pub before_code : Is (codes "X:DS 5") (name 0 1 ∷ symbol 1 2 ∷ name 2 4 ∷ number 5 6 ∷ []) (Some (codes "X")) code.Space (operand.Word (words.Number 5 ∷ []) ∷ [])
  pub no_reserved : IsNone (codes "A:DS 5") (name 0 1 ∷ symbol 1 2 ∷ name 2 4 ∷ number 5 6 ∷ [])
  pub not_before_org : IsNone (codes "X:ORG 5") (name 0 1 ∷ symbol 1 2 ∷ name 2 5 ∷ number 6 7 ∷ [])
  pub not_before_end : IsNone (codes "X:END 5") (name 0 1 ∷ symbol 1 2 ∷ name 2 5 ∷ number 6 7 ∷ [])
  pub not_before_equ : IsNone (codes "X:EQU 5") (name 0 1 ∷ symbol 1 2 ∷ name 2 5 ∷ number 6 7 ∷ [])
  pub alone : Is (codes "X:") (name 0 1 ∷ symbol 1 2 ∷ []) (Some (codes "X")) code.Nothing []
  pub no_colon : IsNone (codes "X") (name 0 1 ∷ [])
  pub folded : Is (codes "x:nop") (name 0 1 ∷ symbol 1 2 ∷ name 2 5 ∷ []) (Some (codes "X")) (code.Instr instr.Nop) []
