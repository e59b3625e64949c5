-- What is kept of an expression is an expression of statements that nests within the limit.
use Rattle.std.proofs.Common.{◌≡◌, true, List, []}
use Rattle.sp_expr.specs.declared.setting.Setting.{Setting}
use Rattle.sp_expr.specs.declared.setting.Setting.TheVariants.{Statement}
use Rattle.sp_expr.specs.declared.word.Word.{Word}
use Rattle.sp_expr.specs.code.Evaluation.{fits}
use Rattle.sp_expr.specs.code.Nesting.{nest, nests, nests_within}
use Rattle.sp_expr.specs.code.Parsing.{AreKept}
use Rattle.sp_expr.specs.code.Sentence.{is_sentence_in}
use Rattle.sp_expr.specs.Parsing.{IsWithin}
use Rattle.sp_expr.specs.Trees.{Tree, Number, Name, Here, Paren, Sign, Not, Binary, IsExpression, SpellsIn}
use Rattle.sp_expr.proofs.NestingLaws.{shallow, fits_shallow}
use Rattle.sp_expr.proofs.SentenceLaws.{spelled_is_sentence}
use Rattle.sp_expr.proofs.TreeLaws.{sentence_is_spelled}

-- statements have every expression that annotations have
pub stated : (setting : Setting) (t : Tree) → IsExpression setting t → IsExpression Statement t
stated setting (Number n) h = tt
stated setting (Name name) h = tt
stated setting Here h = tt
stated setting (Paren t) h = stated setting t h
stated setting (Sign sign t) h = (h.0, h.1, stated setting t h.2)
stated setting (Not t) h = (h.0, stated setting t h.1)
stated setting (Binary operator l r) h = (h.0, h.1, stated setting l h.2, stated setting r h.3)

pub stated_spells : (setting : Setting) (ws : List Word) (t : Tree) → SpellsIn setting ws t → SpellsIn Statement ws t
stated_spells setting ws t h = record { grammar = stated setting t h.grammar; whole = h.whole }

pub kept : (setting : Setting) (ws : List Word) → is_sentence_in setting ws ≡ true → nests_within (nests (nest 0 0) []) ws ≡ true → AreKept ws
kept setting ws sentence nested =
    let tree = sentence_is_spelled setting ws sentence in
    record { sentence = spelled_is_sentence Statement ws tree.0 (stated_spells setting ws tree.0 tree.1); nested = nested }

pub kept_within : (ws : List Word) → AreKept ws → IsWithin Statement ws
kept_within ws h = let tree = sentence_is_spelled Statement ws h.sentence in (tree.0, tree.1, shallow Statement ws tree.0 tree.1 h.nested)

pub kept_fits : (ws : List Word) → AreKept ws → fits 0 ws ≡ true
kept_fits ws h = let within = kept_within ws h in fits_shallow Statement ws within.0 within.1 within.2
