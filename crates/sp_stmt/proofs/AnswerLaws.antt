-- Answers that are right.
use Rattle.std.proofs.Common.{◌≡◌, ◌<◌, ◌≤◌, true, cond, List, [], Option, Some, None, Result, Ok, Err, refl, ap, ◌∙◌, inl, inr, arith}
use Rattle.std.proofs.lemmas.Bool.{cases_Bool}
use Rattle.sp_expr.specs.declared.refusal.ParseRefusal.{ParseRefusal}
use Rattle.sp_expr.specs.declared.refusal.ParseRefusal.TheVariants.{Syntax, TooDeep, Memory}
use Rattle.sp_expr.specs.declared.setting.Setting.TheVariants.{Statement}
use Rattle.sp_expr.specs.declared.word.Word.{Word}
use Rattle.sp_expr.specs.Parsing.{AnswersParse}
use Rattle.sp_expr.specs.code.Nesting.{nest, nests, nests_within}
use Rattle.sp_expr.specs.code.Sentence.{is_sentence}
use Rattle.sp_expr.specs.Trees.{Tree, Spells, depth_of}
use Rattle.sp_expr.proofs.NestingLaws.{shallow, nests_shallow}
use Rattle.sp_expr.proofs.SentenceLaws.{spelled_is_sentence}
use Rattle.sp_expr.proofs.TreeLaws.{sentence_is_spelled}
use Rattle.sp_stmt.specs.code.Answers.{Answers}
use Rattle.sp_stmt.specs.code.Expressions.{checked_words}

-- a refusal goes through what passes refusals on
pub refused : {X Y : Type 0} (f : Result X ParseRefusal → Result Y ParseRefusal) → ((e : ParseRefusal) → f (Err e) ≡ Err e) → (e : ParseRefusal) (right : Result X ParseRefusal) → Answers {X = X} (Err e) right → Answers {X = Y} (Err e) (f right)
refused f keeps Syntax right h = ap f h ∙ keeps Syntax
refused f keeps TooDeep right h = ap f h ∙ keeps TooDeep
refused f keeps Memory right h = tt

-- a right answer
pub exact : {X : Type 0} (answer right : Result X ParseRefusal) → right ≡ answer → Answers answer right
exact (Ok x) right e = e
exact (Err Syntax) right e = e
exact (Err TooDeep) right e = e
exact (Err Memory) right e = tt

checked : (ws : List Word) → is_sentence ws ≡ true → checked_words (Some ws) ≡ cond (nests_within (nests (nest 0 0) []) ws) (Ok ws) (Err TooDeep)
checked ws e = ap (λ b. cond b (cond (nests_within (nests (nest 0 0) []) ws) (Ok ws) (Err TooDeep)) (Err Syntax)) e

checked_ok : (ws : List Word) (t : Tree) → Spells ws t → depth_of t ≤ 64 → checked_words (Some ws) ≡ Ok ws
checked_ok ws t h le = checked ws (spelled_is_sentence Statement ws t h) ∙ ap (λ b. cond b (Ok ws) (Err TooDeep)) (nests_shallow Statement ws t h le)

checked_deep : (ws : List Word) (t : Tree) → Spells ws t → 64 < depth_of t → checked_words (Some ws) ≡ Err TooDeep
checked_deep ws t h lt =
    checked ws (spelled_is_sentence Statement ws t h) ∙ elim (cases_Bool (nests_within (nests (nest 0 0) []) ws)) [
      | inl holds ↦ absurd (omega (arith, shallow Statement ws t h holds))
      | inr fails ↦ ap (λ b. cond b (Ok ws) (Err TooDeep)) fails
    ]

checked_none : (ws : List Word) → ((t : Tree) → Spells ws t → ⊥) → checked_words (Some ws) ≡ Err Syntax
checked_none ws none =
    elim (cases_Bool (is_sentence ws)) [
      | inl holds ↦ absurd (let tree = sentence_is_spelled Statement ws holds in none tree.0 tree.1)
      | inr fails ↦ ap (λ b. cond b (cond (nests_within (nests (nest 0 0) []) ws) (Ok ws) (Err TooDeep)) (Err Syntax)) fails
    ]

-- what `parse` answers is right
pub parsed : (r : Result (List Word) ParseRefusal) (found : Option (List Word)) → AnswersParse r found → Answers r (checked_words found)
parsed (Ok ws) found h = ap checked_words h.0 ∙ checked_ok ws h.1.0 h.1.1 h.1.2
parsed (Err TooDeep) found h = ap checked_words h.1 ∙ checked_deep h.0 h.2.0 h.2.1 h.2.2
parsed (Err Syntax) None h = refl
parsed (Err Syntax) (Some ws) h = checked_none ws (λ t. h ws t refl)
parsed (Err Memory) found h = tt
