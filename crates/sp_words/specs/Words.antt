-- What the tables of words find, in the words of the manual.
use Rattle.std.specs.Prelude.{◌≡◌, ◌↔◌, ℕ, true, false, List, [], ◌∷◌, Some, None, codes}
use Rattle.std.specs.List.{list_all, list_any}
use Rattle.sp_base.specs.declared.pair.Pair.{Pair}
use Rattle.sp_isa.specs.declared.instr.Arg.{Arg}
use Rattle.sp_isa.specs.declared.instr.Cond.TheVariants as when
use Rattle.sp_isa.specs.declared.instr.Instr.TheVariants as instr
use Rattle.sp_isa.specs.declared.instr.StackPair.{StackPair}
use Rattle.sp_words.specs.declared.annotation.AnnotationWord.{AnnotationWord}
use Rattle.sp_words.specs.declared.mnemonic.ExpressionKind.TheVariants as kind
use Rattle.sp_words.specs.declared.mnemonic.Mnemonic.{Mnemonic}
use Rattle.sp_words.specs.declared.mnemonic.Mnemonic.TheVariants as mnemonic
use Rattle.sp_words.specs.declared.operator.NamedOperator.{NamedOperator}
use Rattle.sp_words.specs.code.Tables.{mnemonic_named, operator_named, arg_named, pair_named, stack_pair_named, is_reserved, annotation_word_named, is_annotation_word}
use Rattle.sp_words.specs.Annotations.{annotation_name, IsWritten, IsAnnotationWord}
use Rattle.sp_words.specs.Manual.{IsCalled}
use Rattle.sp_words.specs.Operators.{operator_name}
use Rattle.sp_words.specs.Registers.{arg_name, pair_name, stack_pair_name}
use Rattle.sp_words.specs.Reserved.{IsReserved}

-- each table finds a meaning exactly under its name
pub record WordsAreTheManuals : Type 0 where
  pub mnemonics : (word : List ℕ) (m : Mnemonic) → (mnemonic_named word ≡ Some m) ↔ IsCalled word m
  pub operators : (word : List ℕ) (o : NamedOperator) → (operator_named word ≡ Some o) ↔ (word ≡ operator_name o)
  pub registers : (word : List ℕ) (y : Arg) → (arg_named word ≡ Some y) ↔ (word ≡ arg_name y)
  pub pairs : (word : List ℕ) (p : Pair) → (pair_named word ≡ Some p) ↔ (word ≡ pair_name p)
  pub stack_pairs : (word : List ℕ) (p : StackPair) → (stack_pair_named word ≡ Some p) ↔ (word ≡ stack_pair_name p)

-- a word is no name exactly where one of these tables has it
pub record ReservedWordsHaveMeanings : Type 0 where
  pub exactly : (word : List ℕ) → (is_reserved word ≡ true) ↔ IsReserved word

-- the same of the words of annotations
pub record WordsOfAnnotations : Type 0 where
  pub named : (name : List ℕ) (word : AnnotationWord) → (annotation_word_named name ≡ Some word) ↔ (IsWritten word × (name ≡ annotation_name word))
  pub exactly : (name : List ℕ) → (is_annotation_word name ≡ true) ↔ IsAnnotationWord name

-- words that differ little, or are words of one grammar alone
pub record WordsByExample : Type 0 where
  pub minus : mnemonic_named (codes "JM") ≡ Some (mnemonic.Expression kind.Word (instr.Jcc when.M 0))
  pub plus : mnemonic_named (codes "JP") ≡ Some (mnemonic.Expression kind.Word (instr.Jcc when.P 0))
  pub even : mnemonic_named (codes "JPE") ≡ Some (mnemonic.Expression kind.Word (instr.Jcc when.Pe 0))
  pub odd : mnemonic_named (codes "JPO") ≡ Some (mnemonic.Expression kind.Word (instr.Jcc when.Po 0))
  pub none : mnemonic_named (codes "J") ≡ None
  pub reserved :
      list_all is_reserved
      (codes "MOV" ∷ codes "DB" ∷ codes "END" ∷ codes "SHL" ∷ codes "NOT" ∷ codes "A" ∷ codes "L" ∷ codes "M" ∷ codes "SP" ∷ codes "PSW" ∷ []) ≡ true
  pub names :
      list_any is_reserved
      (codes "MOVE" ∷ codes "D8" ∷ codes "EN" ∷ codes "S" ∷ codes "Z" ∷ codes "P" ∷ codes "AC" ∷ codes "CY" ∷ codes "BC" ∷ codes "LEN" ∷ codes "STK1" ∷ []) ≡ false
  pub words :
      list_all is_annotation_word
      (codes "LEN" ∷ codes "BC" ∷ codes "CY" ∷ codes "A" ∷ codes "MOD" ∷ codes "STK1" ∷ codes "STK10" ∷ codes "STK32767" ∷ []) ≡ true
  pub others :
      list_any is_annotation_word
      (codes "LENS" ∷ codes "SP" ∷ codes "PSW" ∷ codes "M" ∷ codes "XOR" ∷ codes "MOV" ∷ codes "ST" ∷ codes "STK" ∷ codes "STK0" ∷ codes "STK01" ∷ codes "STK1A"
      ∷ codes "STK32768" ∷ codes "SLK1" ∷ []) ≡ false
