-- The names of operators (8080 Assembly Language Programming Manual, "Arithmetic and logical expressions").
use Rattle.std.specs.Prelude.{ℕ, List, codes}
use Rattle.sp_words.specs.declared.operator.NamedOperator.{NamedOperator}
use Rattle.sp_words.specs.declared.operator.NamedOperator.TheVariants.{And, Mod, Not, Or, Shl, Shr, Xor}

abbrev pub operator_name : NamedOperator → List ℕ
operator_name And = codes "AND"
operator_name Mod = codes "MOD"
operator_name Not = codes "NOT"
operator_name Or = codes "OR"
operator_name Shl = codes "SHL"
operator_name Shr = codes "SHR"
operator_name Xor = codes "XOR"
