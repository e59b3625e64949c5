-- Codes with their operands.
use Rattle.std.specs.Prelude.{ℕ, if◌then◌else◌, List, [], ◌∷◌, Option, Some, None, Result, Ok, Err}
use Rattle.std.specs.Option.{option_map}
use Rattle.sp_base.specs.declared.pair.Pair.{Pair}
use Rattle.sp_lex.specs.declared.token.Token.{Token}
use Rattle.sp_expr.specs.declared.refusal.ParseRefusal.{ParseRefusal}
use Rattle.sp_expr.specs.declared.refusal.ParseRefusal.TheVariants.{Syntax}
use Rattle.sp_isa.specs.declared.instr.Arg.{Arg}
use Rattle.sp_isa.specs.declared.instr.StackPair.{StackPair}
use Rattle.sp_isa.specs.declared.instr.Instr.{Instr}
use Rattle.sp_isa.specs.declared.instr.Instr.TheVariants as instr
use Rattle.sp_isa.specs.Code.{valid}
use Rattle.sp_stmt.specs.declared.body.Body.{Body}
use Rattle.sp_words.specs.declared.mnemonic.ExpressionKind.{ExpressionKind}
use Rattle.sp_words.specs.declared.mnemonic.ExpressionKind.TheVariants as kind
use Rattle.sp_words.specs.declared.mnemonic.Load.{Load}
use Rattle.sp_words.specs.declared.mnemonic.Load.TheVariants as load
use Rattle.sp_words.specs.declared.mnemonic.Mnemonic.{Mnemonic}
use Rattle.sp_words.specs.declared.mnemonic.Mnemonic.TheVariants as mnemonic
use Rattle.sp_words.specs.declared.mnemonic.PairForm.{PairForm}
use Rattle.sp_words.specs.declared.mnemonic.PairForm.TheVariants.{Dad, Inx, Dcx, Stax, Ldax}
use Rattle.sp_words.specs.declared.mnemonic.RegisterForm.{RegisterForm}
use Rattle.sp_words.specs.declared.mnemonic.RegisterForm.TheVariants.{Inr, Dcr, Alu}
use Rattle.sp_words.specs.declared.mnemonic.StackForm.{StackForm}
use Rattle.sp_words.specs.declared.mnemonic.StackForm.TheVariants.{Push, Pop}
use Rattle.sp_stmt.specs.declared.operand.Operand.{Operand}
use Rattle.sp_stmt.specs.declared.statement.Code.{Code}
use Rattle.sp_stmt.specs.declared.statement.Code.TheVariants as code
use Rattle.sp_stmt.specs.code.Data.{items_of, data_of, one_operand}
use Rattle.sp_stmt.specs.code.Expressions.{operand_of}
use Rattle.sp_stmt.specs.Tokens.{is_comma, arg_at, pair_at, stack_pair_at}

abbrev pub body : Code → List Operand → Body
body what operands = record { code = what; operands = operands }

-- instructions whose operands are registers

abbrev pub with_register : RegisterForm → Arg → Instr
with_register Inr y = instr.Inr y
with_register Dcr y = instr.Dcr y
with_register (Alu op) y = instr.Alu op y

abbrev pub with_pair : PairForm → Pair → Instr
with_pair Dad p = instr.Dad p
with_pair Inx p = instr.Inx p
with_pair Dcx p = instr.Dcx p
with_pair Stax p = instr.Stax p
with_pair Ldax p = instr.Ldax p

abbrev pub with_stack_pair : StackForm → StackPair → Instr
with_stack_pair Push p = instr.Push p
with_stack_pair Pop p = instr.Pop p

abbrev pub alone : Instr → List Token → Option Instr
alone i [] = Some i
alone i (token ∷ rest) = None

-- the instruction of a form with one operand, where exactly that stands behind it
unfoldable pub register_instr : List ℕ → RegisterForm → List Token → Option Instr
register_instr source form [] = None
register_instr source form (only ∷ []) = option_map (with_register form) (arg_at source only)
register_instr source form (token ∷ next ∷ rest) = None

unfoldable pub pair_instr : List ℕ → PairForm → List Token → Option Instr
pair_instr source form [] = None
pair_instr source form (only ∷ []) = option_map (with_pair form) (pair_at source only)
pair_instr source form (token ∷ next ∷ rest) = None

unfoldable pub stack_instr : List ℕ → StackForm → List Token → Option Instr
stack_instr source form [] = None
stack_instr source form (only ∷ []) = option_map (with_stack_pair form) (stack_pair_at source only)
stack_instr source form (token ∷ next ∷ rest) = None

abbrev pub moved : Option Arg → Option Arg → Option Instr
moved (Some to) (Some from) = Some (instr.Mov to from)
moved (Some to) None = None
moved None from = None

-- MOV: a register or M, a comma, a register or M
unfoldable pub move_instr : List ℕ → List Token → Option Instr
move_instr source [] = None
move_instr source (to ∷ []) = None
move_instr source (to ∷ comma ∷ []) = None
move_instr source (to ∷ comma ∷ from ∷ []) = if is_comma source comma then moved (arg_at source to) (arg_at source from) else None
move_instr source (to ∷ comma ∷ from ∷ next ∷ rest) = None

-- an instruction without an expression, where the table has it
abbrev pub plain : Option Instr → Result Body ParseRefusal
plain None = Err Syntax
plain (Some i) = if valid i then Ok (body (code.Instr i) []) else Err Syntax

-- codes with expressions

abbrev pub with_operands : Code → Result (List Operand) ParseRefusal → Result Body ParseRefusal
with_operands what (Ok operands) = Ok (body what operands)
with_operands what (Err refusal) = Err refusal

-- a code whose one operand is an expression of all the tokens behind it
abbrev pub with_expression : ExpressionKind → Code → List ℕ → List Token → Result Body ParseRefusal
with_expression kind what source tokens = with_operands what (one_operand (operand_of kind source tokens))

-- what MVI and LXI load, where the operand before the comma is a register or M, or a pair
abbrev pub loaded : Load → List ℕ → Token → Option Instr
loaded load.Byte source token = option_map (λ to. instr.Mvi to 0) (arg_at source token)
loaded load.Word source token = option_map (λ p. instr.Lxi p 0) (pair_at source token)

abbrev pub kind_of : Load → ExpressionKind
kind_of load.Byte = kind.Byte
kind_of load.Word = kind.Word

abbrev pub load_with : ExpressionKind → Option Instr → List ℕ → List Token → Result Body ParseRefusal
load_with kind None source value = Err Syntax
load_with kind (Some i) source value = with_expression kind (code.Instr i) source value

-- MVI and LXI: a register or pair, a comma, and an expression
unfoldable pub load_body : Load → List ℕ → List Token → Result Body ParseRefusal
load_body form source [] = Err Syntax
load_body form source (to ∷ []) = Err Syntax
load_body form source (to ∷ comma ∷ value) = if is_comma source comma then load_with (kind_of form) (loaded form source to) source value else Err Syntax

-- END: nothing, or one expression
abbrev pub end_body : List ℕ → List Token → Result Body ParseRefusal
end_body source [] = Ok (body code.End [])
end_body source (token ∷ rest) = with_expression kind.Word code.End source (token ∷ rest)

-- a mnemonic or directive with the tokens behind it; EQU and SET stand behind a name alone
unfoldable pub body_of : Mnemonic → List ℕ → List Token → Result Body ParseRefusal
body_of (mnemonic.Alone i) source tokens = plain (alone i tokens)
body_of (mnemonic.Register form) source tokens = plain (register_instr source form tokens)
body_of (mnemonic.Pair form) source tokens = plain (pair_instr source form tokens)
body_of (mnemonic.Stack form) source tokens = plain (stack_instr source form tokens)
body_of mnemonic.Move source tokens = plain (move_instr source tokens)
body_of (mnemonic.Load form) source tokens = load_body form source tokens
body_of (mnemonic.Expression kind i) source tokens = with_expression kind (code.Instr i) source tokens
body_of (mnemonic.Data kind) source tokens = with_operands code.Data (data_of kind source (items_of source tokens))
body_of mnemonic.Space source tokens = with_expression kind.Word code.Space source tokens
body_of mnemonic.Org source tokens = with_expression kind.Word code.Org source tokens
body_of (mnemonic.Assignment form) source tokens = Err Syntax
body_of mnemonic.End source tokens = end_body source tokens
