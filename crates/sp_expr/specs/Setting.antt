-- Where an expression stands (this project's own).
use Rattle.std.specs.Prelude.{ℕ, List, ⊤}
use Rattle.sp_words.specs.Annotations.{IsAnnotationWord}
use Rattle.sp_expr.specs.declared.setting.Setting.{Setting}
use Rattle.sp_expr.specs.declared.setting.Setting.TheVariants.{Statement, Annotation}

-- `$` stands in statements alone
abbrev pub HasAddress : Setting → Type 0
HasAddress Statement = ⊤
HasAddress Annotation = ⊥

-- on an annotation line no word of annotations is a name; reserved words are names in neither
abbrev pub IsName : Setting → List ℕ → Type 0
IsName Statement name = ⊤
IsName Annotation name = ¬ IsAnnotationWord name
