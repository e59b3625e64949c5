-- What the code finds of the words of an expression.
use Rattle.std.specs.Prelude.{◌≡◌, ◌↔◌, ◌≤◌, true, List, [], Option, Some, None, Result, Ok, Err, Vec, ⊤}
use Rattle.std.specs.declared.alloc.Global.{Global}
use Rattle.sp_expr.specs.declared.refusal.ParseRefusal.{ParseRefusal}
use Rattle.sp_expr.specs.declared.refusal.ParseRefusal.TheVariants.{Syntax, TooDeep, Memory}
use Rattle.sp_expr.specs.declared.setting.Setting.{Setting}
use Rattle.sp_expr.specs.declared.word.Word.{Word}
use Rattle.sp_expr.specs.code.Nesting.{nest, nests, nests_within}
use Rattle.sp_expr.specs.code.Sentence.{is_sentence, is_sentence_in}
use Rattle.sp_expr.specs.Trees.{Tree, SpellsIn, depth_of}

-- the words of tokens
abbrev pub AnswersWords : Result (Vec Word Global) ParseRefusal → Option (List Word) → Type 0
AnswersWords (Ok ws) right = right ≡ Some ws.items
AnswersWords (Err Syntax) right = right ≡ None
AnswersWords (Err TooDeep) right = ⊥
AnswersWords (Err Memory) right = ⊤

-- the words that an expression keeps
pub record AreKept (ws : List Word) : Type 0 where
  pub sentence : is_sentence ws ≡ true
  pub nested : nests_within (nests (nest 0 0) []) ws ≡ true

-- a list of words is a sentence exactly where a tree is written so
abbrev pub SentencesAreExpressions : Type 0
SentencesAreExpressions = (setting : Setting) (ws : List Word) → (is_sentence_in setting ws ≡ true) ↔ ((t : Tree) × SpellsIn setting ws t)

-- the words of a tree keep to 64 nested constructs exactly where the tree nests at most 64
abbrev pub SentencesNestAsTheirTrees : Type 0
SentencesNestAsTheirTrees =
    (setting : Setting) (ws : List Word) (t : Tree) → SpellsIn setting ws t → (nests_within (nests (nest 0 0) []) ws ≡ true) ↔ (depth_of t ≤ 64)
