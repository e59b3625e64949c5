-- Answers that are right.
use Rattle.std.proofs.Common.{◌≡◌, ℕ, ◌<◌, ◌≤◌, true, false, cond, List, [], ◌∷◌, Option, Some, None, Result, Ok, Err, refl, sym, ap, subst, ◌∙◌, inl, inr, arith}
use Rattle.std.proofs.lemmas.Bool.{cases_Bool}
use Rattle.sp_expr.specs.declared.refusal.ParseRefusal.{ParseRefusal}
use Rattle.sp_expr.specs.declared.refusal.ParseRefusal.TheVariants as parse
use Rattle.sp_expr.specs.declared.setting.Setting.TheVariants.{Annotation}
use Rattle.sp_expr.specs.declared.word.Word.{Word}
use Rattle.sp_expr.specs.Parsing.{AnswersParseIn}
use Rattle.sp_expr.specs.code.Nesting.{nest, nests, nests_within}
use Rattle.sp_expr.specs.code.Sentence.{is_sentence_in}
use Rattle.sp_expr.specs.Trees.{Tree, SpellsIn, depth_of}
use Rattle.sp_expr.proofs.NestingLaws.{shallow, nests_shallow}
use Rattle.sp_expr.proofs.SentenceLaws.{spelled_is_sentence}
use Rattle.sp_expr.proofs.TreeLaws.{sentence_is_spelled}
use Rattle.sp_note.specs.declared.refusal.LineRefusal.{LineRefusal}
use Rattle.sp_note.specs.declared.refusal.LineRefusal.TheVariants as line
use Rattle.sp_note.specs.declared.refusal.NoteKind.{NoteKind}
use Rattle.sp_note.specs.declared.refusal.NoteKind.TheVariants.{Syntax, TooDeep, Sort, Wide}
use Rattle.sp_note.specs.Parts.{Expression}
use Rattle.sp_note.specs.code.Answers.{refusal_of, Answers, AnswersSome, IsOfExpressions}
use Rattle.sp_note.specs.code.Found.{with_last, AnswersPort}
use Rattle.sp_note.specs.code.Lines.{checked_words, first_kind, both_read, read_as, or_syntax}
use Rattle.sp_note.specs.code.Pairs.{first_refusal}

-- ---- refusals go through what passes them on

pub read_err : {X Y V W : Type 0} (view : X → Y) (other : V → W) (f : Y → W) (e : LineRefusal) (right : Result Y NoteKind) → Answers view (Err e) right → Answers other (Err e) (read_as f right)
read_err view other f (line.Kind kind) right h = ap (read_as f) h
read_err view other f line.Memory right h = tt

pub some_err : {X Y V W : Type 0} (view : X → Y) (other : V → W) (f : Y → W) (e : LineRefusal) (right : Option Y) → AnswersSome view (Err e) right → Answers other (Err e) (read_as f (or_syntax right))
some_err view other f (line.Kind Syntax) right h = ap (λ r. read_as f (or_syntax r)) h
some_err view other f (line.Kind TooDeep) right h = absurd h
some_err view other f (line.Kind Sort) right h = absurd h
some_err view other f (line.Kind Wide) right h = absurd h
some_err view other f line.Memory right h = tt

-- what a refusal makes of an option makes it of what passes options on
pub then_err : {X Y V W : Type 0} (view : X → Y) (other : V → W) (f : Option Y → Option W) → f None ≡ None → (e : LineRefusal) (right : Option Y) → AnswersSome view (Err e) right → AnswersSome other (Err e) (f right)
then_err view other f none (line.Kind Syntax) right h = ap f h ∙ none
then_err view other f none (line.Kind TooDeep) right h = absurd h
then_err view other f none (line.Kind Sort) right h = absurd h
then_err view other f none (line.Kind Wide) right h = absurd h
then_err view other f none line.Memory right h = tt

pub judge_err : {X Y V W : Type 0} (view : X → Y) (other : V → W) (f : Option Y → Result W NoteKind) → f None ≡ Err Syntax → (e : LineRefusal) (right : Option Y) → AnswersSome view (Err e) right → Answers other (Err e) (f right)
judge_err view other f none (line.Kind Syntax) right h = ap f h ∙ none
judge_err view other f none (line.Kind TooDeep) right h = absurd h
judge_err view other f none (line.Kind Sort) right h = absurd h
judge_err view other f none (line.Kind Wide) right h = absurd h
judge_err view other f none line.Memory right h = tt

-- ---- expressions

checked : (ws : List Word) → is_sentence_in Annotation ws ≡ true → checked_words (Some ws) ≡ cond (nests_within (nests (nest 0 0) []) ws) (Ok ws) (Err TooDeep)
checked ws e = ap (λ b. cond b (cond (nests_within (nests (nest 0 0) []) ws) (Ok ws) (Err TooDeep)) (Err Syntax)) e

checked_ok : (ws : List Word) (t : Tree) → SpellsIn Annotation ws t → depth_of t ≤ 64 → checked_words (Some ws) ≡ Ok ws
checked_ok ws t h le = checked ws (spelled_is_sentence Annotation ws t h) ∙ ap (λ b. cond b (Ok ws) (Err TooDeep)) (nests_shallow Annotation ws t h le)

checked_deep : (ws : List Word) (t : Tree) → SpellsIn Annotation ws t → 64 < depth_of t → checked_words (Some ws) ≡ Err TooDeep
checked_deep ws t h lt =
    checked ws (spelled_is_sentence Annotation ws t h) ∙ elim (cases_Bool (nests_within (nests (nest 0 0) []) ws)) [
      | inl holds ↦ absurd (omega (arith, shallow Annotation ws t h holds))
      | inr fails ↦ ap (λ b. cond b (Ok ws) (Err TooDeep)) fails
    ]

checked_none : (ws : List Word) → ((t : Tree) → SpellsIn Annotation ws t → ⊥) → checked_words (Some ws) ≡ Err Syntax
checked_none ws none =
    elim (cases_Bool (is_sentence_in Annotation ws)) [
      | inl holds ↦ absurd (let tree = sentence_is_spelled Annotation ws holds in none tree.0 tree.1)
      | inr fails ↦ ap (λ b. cond b (cond (nests_within (nests (nest 0 0) []) ws) (Ok ws) (Err TooDeep)) (Err Syntax)) fails
    ]

pub parsed_ok : (ws : List Word) (found : Option (List Word)) → AnswersParseIn Annotation (Ok ws) found → checked_words found ≡ Ok ws
parsed_ok ws found h = ap checked_words h.0 ∙ checked_ok ws h.1.0 h.1.1 h.1.2

pub parsed_err : (e : ParseRefusal) (found : Option (List Word)) → AnswersParseIn Annotation (Err e) found → Answers (λ (ws : List Word). ws) (Err (refusal_of e)) (checked_words found)
parsed_err parse.TooDeep found h = ap checked_words h.1 ∙ checked_deep h.0 h.2.0 h.2.1 h.2.2
parsed_err parse.Syntax None h = refl
parsed_err parse.Syntax (Some ws) h = checked_none ws (λ t. h ws t refl)
parsed_err parse.Memory found h = tt

pub parsed_kind : (X : Type 0) (e : ParseRefusal) → IsOfExpressions {X = X} (Err (refusal_of e))
parsed_kind X parse.TooDeep = tt
parsed_kind X parse.Syntax = tt
parsed_kind X parse.Memory = tt

-- ---- ports

last_syntax : (front : Result (List Expression) NoteKind) → with_last front (Err Syntax) ≡ Err Syntax
last_syntax (Ok ports) = refl
last_syntax (Err kind) = refl

pub port_refused : (X : Type 0) (e : LineRefusal) (front now : Result (List Expression) NoteKind) (right : Result Expression NoteKind) → Answers (λ (ws : List Word). ws) (Err e) right
    → IsOfExpressions {X = List Word} (Err e) → ¬ (e ≡ line.Kind TooDeep) → AnswersPort {X = X} (Err e) now (with_last front right)
port_refused X (line.Kind Syntax) front now right h few not = ap (with_last front) h ∙ last_syntax front
port_refused X (line.Kind TooDeep) front now right h few not = absurd (not refl)
port_refused X (line.Kind Sort) front now right h few not = absurd few
port_refused X (line.Kind Wide) front now right h few not = absurd few
port_refused X line.Memory front now right h few not = tt

pub port_answer : {X Y : Type 0} (view : X → Y) (result : Result X LineRefusal) (held right : Result Y NoteKind) → Answers view result held → held ≡ right → Answers view result right
port_answer view result held right h e = subst (Answers view result) e h

-- ---- two expressions

both_syntax : {X Y Z : Type 0} (f : X → Y → Z) (one : Result X NoteKind) → both_read f one (Err Syntax) ≡ Err Syntax
both_syntax f (Ok x) = refl
both_syntax f (Err kind) = refl

pub both_err : {X Y Z V W U : Type 0} (view : V → X) (there : W → Y) (seen : U → Z) (f : X → Y → Z) (e o : LineRefusal) (one : Result X NoteKind) (other : Result Y NoteKind)
    → Answers view (Err e) one → Answers there (Err o) other → Answers seen (Err (first_refusal e o)) (both_read f one other)
both_err view there seen f e (line.Kind Syntax) one other h k = ap (both_read f one) k ∙ both_syntax f one
both_err view there seen f (line.Kind kind) (line.Kind TooDeep) one other h k = ap (λ r. both_read f r other) h ∙ ap (both_read f (Err kind)) k
both_err view there seen f (line.Kind kind) (line.Kind Sort) one other h k = ap (λ r. both_read f r other) h ∙ ap (both_read f (Err kind)) k
both_err view there seen f (line.Kind kind) (line.Kind Wide) one other h k = ap (λ r. both_read f r other) h ∙ ap (both_read f (Err kind)) k
both_err view there seen f line.Memory (line.Kind TooDeep) one other h k = tt
both_err view there seen f line.Memory (line.Kind Sort) one other h k = tt
both_err view there seen f line.Memory (line.Kind Wide) one other h k = tt
both_err view there seen f e line.Memory one other h k = tt
