-- Words looked up in the tables of the code.
use Rattle.std.specs.Prelude.{ℕ, Bool, true, ◌&&◌, ◌||◌, nat_eq, List, [], ◌∷◌, Option, Some, None, is_some}
use Rattle.std.specs.Map.{lookup}
use Rattle.std.specs.Ordering.{is_lt, nat_cmp}
use Rattle.std.specs.Cmp.Lexicographic.{pointwise, slice_cmp}
use Rattle.sp_base.specs.declared.pair.Pair.{Pair}
use Rattle.sp_isa.specs.declared.instr.Arg.{Arg}
use Rattle.sp_isa.specs.declared.instr.StackPair.{StackPair}
use Rattle.sp_words.specs.declared.annotation.AnnotationWord.{AnnotationWord}
use Rattle.sp_words.specs.declared.annotation.AnnotationWord.TheVariants.{Slot}
use Rattle.sp_words.specs.declared.annotation.TheConstants.{ANNOTATION_WORDS}
use Rattle.sp_words.specs.declared.mnemonic.Mnemonic.{Mnemonic}
use Rattle.sp_words.specs.declared.mnemonic.TheConstants.{MNEMONICS}
use Rattle.sp_words.specs.declared.operator.NamedOperator.{NamedOperator}
use Rattle.sp_words.specs.declared.operator.TheConstants.{OPERATORS}
use Rattle.sp_words.specs.declared.register.TheConstants.{REGISTERS, PAIRS, STACK_PAIRS}
use Rattle.sp_words.specs.code.Slots.{slot_named}

-- whether each word is below the one after it, byte by byte
abbrev pub is_sorted : {X : Type 0} → (X → List ℕ) → List X → Bool
is_sorted word [] = true
is_sorted word (row ∷ []) = true
is_sorted word (row ∷ next ∷ rows) = is_lt (slice_cmp nat_cmp (word row) (word next)) && is_sorted word (next ∷ rows)

-- the mnemonic or directive of a word in upper case
unfoldable pub mnemonic_named : List ℕ → Option Mnemonic
mnemonic_named word = lookup (λ key. pointwise nat_eq key.now word) MNEMONICS

-- the operator
unfoldable pub operator_named : List ℕ → Option NamedOperator
operator_named word = lookup (λ key. pointwise nat_eq key.now word) OPERATORS

-- the register or M
unfoldable pub arg_named : List ℕ → Option Arg
arg_named word = lookup (λ key. pointwise nat_eq key.now word) REGISTERS

-- the register pair, or the stack pointer
unfoldable pub pair_named : List ℕ → Option Pair
pair_named word = lookup (λ key. pointwise nat_eq key.now word) PAIRS

-- the operand of PUSH and POP
unfoldable pub stack_pair_named : List ℕ → Option StackPair
stack_pair_named word = lookup (λ key. pointwise nat_eq key.now word) STACK_PAIRS

-- whether the word is no name for the assembler
unfoldable pub is_reserved : List ℕ → Bool
is_reserved word =
    is_some (mnemonic_named word) || (is_some (operator_named word) || (is_some (arg_named word)
    || (is_some (pair_named word) || is_some (stack_pair_named word))))

-- a word of annotations without a number, or STKk
abbrev pub or_slot : Option AnnotationWord → Option ℕ → Option AnnotationWord
or_slot (Some word) slot = Some word
or_slot None (Some k) = Some (Slot k)
or_slot None None = None

-- the word of annotations
unfoldable pub annotation_word_named : List ℕ → Option AnnotationWord
annotation_word_named word = or_slot (lookup (λ key. pointwise nat_eq key.now word) ANNOTATION_WORDS) (slot_named word)

-- whether the word is one of annotations
unfoldable pub is_annotation_word : List ℕ → Bool
is_annotation_word word = is_some (annotation_word_named word)
