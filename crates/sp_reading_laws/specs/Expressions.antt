-- Trees of expressions.
use Rattle.std.specs.Prelude.{◌≡◌, List}
use Rattle.sp_expr.specs.declared.setting.Setting.{Setting}
use Rattle.sp_expr.specs.declared.word.Word.{Word}
use Rattle.sp_expr.specs.Trees.{Tree, SpellsIn}

-- words that are an expression, in a statement or on an annotation line, are written of one tree
abbrev pub HaveOneTree : Type 0
HaveOneTree = (setting other : Setting) (ws : List Word) (one two : Tree) → SpellsIn setting ws one → SpellsIn other ws two → one ≡ two
