-- EQU and SET have no label, by the grammar of statements.
use Rattle.std.proofs.Common.{◌≡◌, ℕ, ◌+◌, List, [], ◌∷◌, ◌++◌, map, Option, Some, None, refl, sym, ap, subst, ◌∙◌}
use Rattle.std.specs.List.{AllByRecursion}
use Rattle.sp_lex.specs.declared.token.LineKind.{LineKind}
use Rattle.sp_lex.specs.declared.token.LineKind.TheVariants as line
use Rattle.sp_lex.specs.declared.token.SourceLine.{SourceLine}
use Rattle.sp_lex.specs.declared.token.Token.{Token}
use Rattle.sp_stmt.specs.declared.operand.Operand.{Operand}
use Rattle.sp_stmt.specs.declared.statement.Code.{Code}
use Rattle.sp_stmt.specs.declared.statement.Code.TheVariants as code
use Rattle.sp_stmt.specs.declared.statement.Statement.{Statement}
use Rattle.sp_stmt.specs.Grammar.{IsForm}
use Rattle.sp_stmt.specs.Source.{Gives, AreStatementsFrom}
use Rattle.sp_asm.specs.Assembly.{Place, Row, IsAssembly, places_of}
use Rattle.sp_asm.specs.Source.{HasAssembly}
use Rattle.sp_asm.proofs.MeaningLemmas.{Unlabelled, IsUnlabelled, ArePlain}

unlabelled_form : (source : List ℕ) (tokens : List Token) (label : Option (List ℕ)) (c : Code) (os : List Operand) → IsForm source tokens label c os → Unlabelled c label
unlabelled_form source tokens None (code.Equ name) os h = refl
unlabelled_form source tokens None (code.Set name) os h = refl
unlabelled_form source tokens (Some l) (code.Equ name) os h = absurd h.2
unlabelled_form source tokens (Some l) (code.Set name) os h = absurd h.2
unlabelled_form source tokens label code.Nothing os h = tt
unlabelled_form source tokens label (code.Instr i) os h = tt
unlabelled_form source tokens label code.Data os h = tt
unlabelled_form source tokens label code.Space os h = tt
unlabelled_form source tokens label code.Org os h = tt
unlabelled_form source tokens label code.End os h = tt

module _ {A : Type 0} (P : A → Type 0) where
  all_append : (xs ys : List A) → AllByRecursion P xs → AllByRecursion P ys → AllByRecursion P (xs ++ ys)
  all_append [] ys h k = k
  all_append (x ∷ xs) ys h k = (h.0, all_append xs ys h.1 k)

  all_at : {B : Type 0} (f : B → A) (front back : List B) (b : B) → AllByRecursion P (map f (front ++ b ∷ back)) → P (f b)
  all_at f [] back b h = h.0
  all_at f (x ∷ front) back b h = all_at f front back b h.1

module _ (source : List ℕ) where
  plain_given : (kind : LineKind) (number : ℕ) (tokens : List Token) (given : List Statement) → Gives kind source number tokens given → AllByRecursion IsUnlabelled given
  plain_given line.Empty number tokens given h = subst (AllByRecursion IsUnlabelled) (sym h) tt
  plain_given line.Annotation number tokens given h = subst (AllByRecursion IsUnlabelled) (sym h) tt
  plain_given line.Statement number tokens given h =
      let s = h.0 in
      subst (AllByRecursion IsUnlabelled) (sym h.2) (unlabelled_form source tokens s.label s.code s.operands h.1.line.form, tt)

  plain_from : (number : ℕ) (lines : List SourceLine) (statements : List Statement) → AreStatementsFrom source number lines statements → AllByRecursion IsUnlabelled statements
  plain_from number [] statements h = subst (AllByRecursion IsUnlabelled) (sym h) tt
  plain_from number (first ∷ lines) statements h =
      subst (AllByRecursion IsUnlabelled) (sym h.2)
      (all_append IsUnlabelled h.0 h.1 (plain_given first.kind number first.tokens h.0 h.3) (plain_from (number + 1) lines h.1 h.4))

  pub plain_assembly : (rows : List Row) → HasAssembly source rows → ArePlain (places_of rows)
  plain_assembly rows h front back p e =
      let statements = h.assembles.0 in
      let each = plain_from 1 h.lines h.assembles.0 h.assembles.1 in
      let whole : h.assembles.0 ≡ map (λ (q : Place). q.statement) (front ++ p ∷ back) = sym h.assembles.2.whole ∙ ap (map (λ (q : Place). q.statement)) e in
      all_at IsUnlabelled (λ (q : Place). q.statement) front back p (subst (AllByRecursion IsUnlabelled) whole each)
