-- The words that are no names for the assembler (8080 Assembly Language Programming Manual, "Label field").
use Rattle.std.specs.Prelude.{◌≡◌, ℕ, List, Some}
use Rattle.sp_base.specs.declared.pair.Pair.{Pair}
use Rattle.sp_isa.specs.declared.instr.Arg.{Arg}
use Rattle.sp_isa.specs.declared.instr.Instr.{Instr}
use Rattle.sp_isa.specs.declared.instr.StackPair.{StackPair}
use Rattle.sp_words.specs.declared.mnemonic.Mnemonic.{Mnemonic}
use Rattle.sp_words.specs.declared.operator.NamedOperator.{NamedOperator}
use Rattle.sp_words.specs.Manual.{mnemonic_of, directive_name}
use Rattle.sp_words.specs.Operators.{operator_name}
use Rattle.sp_words.specs.Registers.{arg_name, pair_name, stack_pair_name}

-- a mnemonic, a directive, an operator, a register or M, a pair or SP, or an operand of PUSH and POP
pub data IsReserved (word : List ℕ) : Type 0 where
  mnemonic : (i : Instr) → word ≡ mnemonic_of i → IsReserved word
  directive : (m : Mnemonic) → directive_name m ≡ Some word → IsReserved word
  operator : (o : NamedOperator) → word ≡ operator_name o → IsReserved word
  register : (y : Arg) → word ≡ arg_name y → IsReserved word
  pair : (p : Pair) → word ≡ pair_name p → IsReserved word
  stack_pair : (p : StackPair) → word ≡ stack_pair_name p → IsReserved word
