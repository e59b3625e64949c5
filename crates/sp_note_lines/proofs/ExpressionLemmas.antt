-- Which expressions are refused.
use Rattle.std.proofs.Common.{◌≡◌, ℕ, true, false, cond, List, [], Option, Some, None, Result, Ok, Err, refl, sym, ap, subst, ◌∙◌, inl, inr}
use Rattle.std.proofs.lemmas.Bool.{cases_Bool}
use Rattle.sp_lex.specs.declared.token.Token.{Token}
use Rattle.sp_expr.specs.declared.refusal.ParseRefusal.TheVariants as parse
use Rattle.sp_expr.specs.declared.setting.Setting.TheVariants.{Annotation}
use Rattle.sp_expr.specs.declared.word.Word as expr
use Rattle.sp_expr.specs.Words as expressions
use Rattle.sp_expr.specs.code.Nesting.{nest, nests, nests_within}
use Rattle.sp_expr.specs.code.Sentence.{is_sentence_in}
use Rattle.sp_expr.proofs.NestingLaws.{deep}
use Rattle.sp_expr.proofs.SentenceLaws.{spelled_is_sentence}
use Rattle.sp_expr.proofs.TreeLaws.{sentence_is_spelled}
use Rattle.sp_note.specs.declared.refusal.NoteKind.{NoteKind}
use Rattle.sp_note.specs.declared.refusal.NoteKind.TheVariants.{Syntax, TooDeep, Sort, Wide}
use Rattle.sp_note.specs.Parts.{Expression}
use Rattle.sp_note.specs.code.Lines.{checked_words, expression_of}
use Rattle.sp_note.proofs.AnswerLemmas.{parsed_err}
use Rattle.sp_note_lines.specs.Lines.{BreaksExpression}

module _ (source : List ℕ) (tokens : List Token) where
  words_broken : (found : Option (List expr.Word)) (kind : NoteKind) → expressions.words_of source tokens ≡ found → checked_words found ≡ Err kind → BreaksExpression source tokens kind
  words_broken None kind is e =
      let same : Syntax ≡ kind = cc in
      subst (BreaksExpression source tokens) same (λ ws t some spells. let bad : None ≡ Some ws = sym is ∙ some in cc)
  words_broken (Some v) kind is e =
      let inner : Result Expression NoteKind = cond (nests_within (nests (nest 0 0) []) v) (Ok v) (Err TooDeep) in
      elim (cases_Bool (is_sentence_in Annotation v)) [
        | inl holds ↦ elim (cases_Bool (nests_within (nests (nest 0 0) []) v)) [
          | inl within ↦ (let bad : Ok v ≡ Err kind = sym (ap (λ b. cond b inner (Err Syntax)) holds ∙ ap (λ b. cond b (Ok v) (Err TooDeep)) within) ∙ e in absurd cc)
          | inr over ↦ (
              let tree = sentence_is_spelled Annotation v holds in
              let both : Err TooDeep ≡ Err kind = sym (ap (λ b. cond b inner (Err Syntax)) holds ∙ ap (λ b. cond b (Ok v) (Err TooDeep)) over) ∙ e in
              let same : TooDeep ≡ kind = cc in
              subst (BreaksExpression source tokens) same (v, tree.0, is, tree.1, deep Annotation v tree.0 tree.1 over))
        ]
        | inr fails ↦ (
            let both : Err Syntax ≡ Err kind = sym (ap (λ b. cond b inner (Err Syntax)) fails) ∙ e in
            let same : Syntax ≡ kind = cc in
            subst (BreaksExpression source tokens) same (λ ws t some spells.
            let words : v ≡ ws = (let d = sym is ∙ some in cc) in
            let yes = ap (is_sentence_in Annotation) words ∙ spelled_is_sentence Annotation ws t spells in
            let bad : false ≡ true = sym fails ∙ yes in cc))
      ]

  pub expression_breaks : (kind : NoteKind) → expression_of source tokens ≡ Err kind → BreaksExpression source tokens kind
  unfolding expression_of
  expression_breaks kind e = words_broken (expressions.words_of source tokens) kind refl e

  pub breaks_expression : (kind : NoteKind) → BreaksExpression source tokens kind → expression_of source tokens ≡ Err kind
  unfolding expression_of
  breaks_expression Syntax h = parsed_err parse.Syntax (expressions.words_of source tokens) h
  breaks_expression TooDeep h = parsed_err parse.TooDeep (expressions.words_of source tokens) (h.0, h.2, (h.1, h.3, h.4))
  breaks_expression Sort h = absurd h
  breaks_expression Wide h = absurd h
