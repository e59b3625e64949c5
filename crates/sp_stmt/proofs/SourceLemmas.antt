-- The statements of a source are exactly those that the code reads.
use Rattle.std.proofs.Common.{◌≡◌, ◌⊎◌, ℕ, ◌+◌, List, [], ◌∷◌, ◌++◌, length, Result, Ok, Err, refl, sym, ap, subst, ◌∙◌, inl, inr, arith, append_assoc}
use Rattle.std.specs.Prelude.{All}
use Rattle.sp_lex.specs.declared.token.LineKind.{LineKind}
use Rattle.sp_lex.specs.declared.token.LineKind.TheVariants as line
use Rattle.sp_lex.specs.declared.token.SourceLine.{SourceLine}
use Rattle.sp_lex.specs.declared.token.Token.{Token}
use Rattle.sp_expr.specs.declared.refusal.ParseRefusal.{ParseRefusal}
use Rattle.sp_expr.specs.declared.refusal.ParseRefusal.TheVariants as parse
use Rattle.sp_stmt.specs.declared.refusal.StatementKind.{StatementKind}
use Rattle.sp_stmt.specs.declared.refusal.StatementKind.TheVariants.{Syntax, TooDeep}
use Rattle.sp_stmt.specs.declared.statement.Statement.{Statement}
use Rattle.sp_base.specs.declared.refused.Refused.{Refused}
use Rattle.sp_base.specs.declared.refused.Refused.TheVariants as refused
use Rattle.sp_base.specs.Refused.{Answers, IsComplete}
use Rattle.sp_base.proofs.RefusedLemmas.{complete}
use Rattle.sp_stmt.specs.code.Answers.{AnswersStatements}
use Rattle.sp_stmt.specs.code.Reading.{Fault, from_line, statement_of, statements_from}
use Rattle.sp_stmt.specs.Grammar.{IsLine}
use Rattle.sp_stmt.specs.Source.{IsStatementOf, Gives, AreStatementsFrom, BreaksLine, IsUnreadFrom}
use Rattle.sp_stmt.proofs.ExactLaws.{Exact, found, deep, none, exact-ok, exact-deep, exact-none}
use Rattle.sp_stmt.proofs.GrammarLaws.{statement_exact}
use Rattle.sp_stmt.proofs.LineLaws.{in_order}

abbrev Found : Type 0
Found = Result (List Statement) Fault

-- the refusal of a line for each kind
abbrev pub refusal_of : StatementKind → ParseRefusal
refusal_of Syntax = parse.Syntax
refusal_of TooDeep = parse.TooDeep

abbrev pub fault : StatementKind → ℕ → Fault
fault kind at = record { kind = refusal_of kind; line = at }

-- ---- A line

no_memory : {X : Type 0} {R S : X → Type 0} {r : Result X ParseRefusal} → Exact R S r → r ≡ Err parse.Memory → ⊥
no_memory (found x h s only) e = cc
no_memory (deep x h never only) e = cc
no_memory (none nothing) e = cc

line_read : (source : List ℕ) (number : ℕ) (tokens : List Token) (s : Statement) → statement_of source number tokens ≡ Ok s → IsStatementOf source number tokens s
line_read source number tokens s e = let both = (exact-ok (statement_exact source number tokens) s).0 e in record { line = both.0; shallow = both.1 }

read_line : (source : List ℕ) (number : ℕ) (tokens : List Token) (s : Statement) → IsStatementOf source number tokens s → statement_of source number tokens ≡ Ok s
read_line source number tokens s h = (exact-ok (statement_exact source number tokens) s).1 (h.line, h.shallow)

-- why a line isn't read
line_broken : (source : List ℕ) (number : ℕ) (tokens : List Token) (r : ParseRefusal) → statement_of source number tokens ≡ Err r
    → (kind : StatementKind) × (r ≡ refusal_of kind) × BreaksLine source number tokens kind
line_broken source number tokens parse.Syntax e = (Syntax, refl, (exact-none (statement_exact source number tokens)).0 e)
line_broken source number tokens parse.TooDeep e = (TooDeep, refl, (exact-deep (statement_exact source number tokens)).0 e)
line_broken source number tokens parse.Memory e = absurd (no_memory (statement_exact source number tokens) e)

broken_line : (source : List ℕ) (number : ℕ) (tokens : List Token) (kind : StatementKind) → BreaksLine source number tokens kind → statement_of source number tokens ≡ Err (refusal_of kind)
broken_line source number tokens Syntax h = (exact-none (statement_exact source number tokens)).1 h
broken_line source number tokens TooDeep h = (exact-deep (statement_exact source number tokens)).1 h

-- ---- Lines

in_order-append : (given below : List Statement) (rest : Found) → in_order given (in_order below rest) ≡ in_order (given ++ below) rest
in_order-append given below (Ok rest) = ap (λ ss. Ok ss) (sym (append_assoc given below rest))
in_order-append given below (Err f) = refl

in_order-nil : (rest : Found) → rest ≡ in_order [] rest
in_order-nil (Ok rest) = refl
in_order-nil (Err f) = refl

in_order-one : (s : Statement) (rest : Found) → from_line line.Statement 0 (Ok s) rest ≡ in_order (s ∷ []) rest
in_order-one s (Ok rest) = refl
in_order-one s (Err f) = refl

module _ (source : List ℕ) where
  -- what a line gives stands before what the lines below it give
  gives_order : (kind : LineKind) (number : ℕ) (tokens : List Token) (given : List Statement) (below : Found) → Gives kind source number tokens given
      → from_line kind number (statement_of source number tokens) below ≡ in_order given below
  gives_order line.Empty number tokens given below h = in_order-nil below ∙ ap (λ g. in_order g below) (sym h)
  gives_order line.Annotation number tokens given below h = in_order-nil below ∙ ap (λ g. in_order g below) (sym h)
  gives_order line.Statement number tokens given below h =
      ap (λ r. from_line line.Statement number r below) (read_line source number tokens h.0 h.1) ∙ in_order-one h.0 below ∙ ap (λ g. in_order g below) (sym h.2)

  -- the statements of lines stand before those of the lines below them
  pub from_above : (number : ℕ) (above rest : List SourceLine) (front : List Statement) → AreStatementsFrom source number above front
      → statements_from source number (above ++ rest) ≡ in_order front (statements_from source (number + length above) rest)
  unfolding statements_from
  from_above number [] rest front h =
      let same : number ≡ number + 0 = omega arith in
      ap (λ n. statements_from source n rest) same ∙ in_order-nil (statements_from source (number + 0) rest)
      ∙ ap (λ g. in_order g (statements_from source (number + 0) rest)) (sym h)
  from_above number (first ∷ above) rest front h =
      let same : number + 1 + length above ≡ number + length (first ∷ above) = omega arith in
      gives_order first.kind number first.tokens h.0 (statements_from source (number + 1) (above ++ rest)) h.3
      ∙ ap (in_order h.0) (from_above (number + 1) above rest h.1 h.4)
      ∙ in_order-append h.0 h.1 (statements_from source (number + 1 + length above) rest)
      ∙ ap (λ g. in_order g (statements_from source (number + 1 + length above) rest)) (sym h.2)
      ∙ ap (λ n. in_order front (statements_from source n rest)) same

  -- lines that have these statements are read as them
  pub ok_from : (number : ℕ) (lines : List SourceLine) (ss : List Statement) → AreStatementsFrom source number lines ss → statements_from source number lines ≡ Ok ss
  unfolding statements_from
  ok_from number [] ss h = ap (λ found. Ok found) (sym h)
  ok_from number (first ∷ lines) ss h =
      gives_order first.kind number first.tokens h.0 (statements_from source (number + 1) lines) h.3
      ∙ ap (in_order h.0) (ok_from (number + 1) lines h.1 h.4) ∙ ap (λ found. Ok found) (sym h.2)

  line_gives : (kind : LineKind) (number : ℕ) (tokens : List Token) (read : Result Statement ParseRefusal) (lines : List SourceLine) (below : Found) (ss : List Statement)
      → statement_of source number tokens ≡ read → ((rest : List Statement) → below ≡ Ok rest → AreStatementsFrom source (number + 1) lines rest) → from_line kind number read below ≡ Ok ss
      → (given : List Statement) × (rest : List Statement) × (ss ≡ given ++ rest) × Gives kind source number tokens given × AreStatementsFrom source (number + 1) lines rest
  line_gives line.Empty number tokens read lines below ss is under e = ([], ss, refl, refl, under ss e)
  line_gives line.Annotation number tokens read lines below ss is under e = ([], ss, refl, refl, under ss e)
  line_gives line.Statement number tokens (Err r) lines below ss is under e = absurd cc
  line_gives line.Statement number tokens (Ok s) lines (Err f) ss is under e = absurd cc
  line_gives line.Statement number tokens (Ok s) lines (Ok rest) ss is under e =
      let same : ss ≡ s ∷ rest = cc in
      (s ∷ [], rest, same, (s, line_read source number tokens s is, refl), under rest refl)

  -- what is read are the statements
  pub from_ok : (number : ℕ) (lines : List SourceLine) (ss : List Statement) → statements_from source number lines ≡ Ok ss → AreStatementsFrom source number lines ss
  unfolding statements_from
  from_ok number [] ss e = cc
  from_ok number (first ∷ lines) ss e =
      line_gives first.kind number first.tokens (statement_of source number first.tokens) lines (statements_from source (number + 1) lines) ss refl (from_ok (number + 1) lines) e

  -- ---- The lowest line that isn't read

  abbrev pub Unread : ℕ → List SourceLine → Fault → Type 0
  Unread number lines f = (kind : StatementKind) × (f.kind ≡ refusal_of kind) × IsUnreadFrom source number lines f.line kind

  unread_under : (number : ℕ) (first : SourceLine) (lines : List SourceLine) (given : List Statement) (f : Fault) → Gives first.kind source number first.tokens given
      → Unread (number + 1) lines f → Unread number (first ∷ lines) f
  unread_under number first lines given f gives h = (
    h.0,
    h.1,
    record {
      above = first ∷ h.2.above;
      broken = h.2.broken;
      below = h.2.below;
      whole = ap (λ ls. first ∷ ls) h.2.whole;
      number_is = omega (arith, h.2.number_is);
      statements = given ++ h.2.statements;
      read = (given, h.2.statements, refl, gives, h.2.read);
      statement_line = h.2.statement_line;
      breaks = h.2.breaks;
    },
  )

  unread_here : (number : ℕ) (first : SourceLine) (lines : List SourceLine) (r : ParseRefusal) (f : Fault) → first.kind ≡ line.Statement → statement_of source number first.tokens ≡ Err r
      → r ≡ f.kind → number ≡ f.line → Unread number (first ∷ lines) f
  unread_here number first lines r f kind e same at =
      let why = line_broken source number first.tokens r e in (
        why.0,
        sym same ∙ why.1,
        record {
          above = [];
          broken = first;
          below = lines;
          whole = refl;
          number_is = omega arith;
          statements = [];
          read = refl;
          statement_line = kind;
          breaks = subst (λ n. BreaksLine source n first.tokens why.0) at why.2;
        },
      )

  line_unread : (kind : LineKind) (number : ℕ) (first : SourceLine) (read : Result Statement ParseRefusal) (lines : List SourceLine) (below : Found) (f : Fault)
      → first.kind ≡ kind → statement_of source number first.tokens ≡ read → ((g : Fault) → below ≡ Err g → Unread (number + 1) lines g) → from_line kind number read below ≡ Err f
      → Unread number (first ∷ lines) f
  line_unread line.Empty number first read lines below f kind is under e =
      unread_under number first lines [] f (subst (λ k. Gives k source number first.tokens []) (sym kind) refl) (under f e)
  line_unread line.Annotation number first read lines below f kind is under e =
      unread_under number first lines [] f (subst (λ k. Gives k source number first.tokens []) (sym kind) refl) (under f e)
  line_unread line.Statement number first (Err r) lines below f kind is under e =
      let same : record { kind = r; line = number } ≡ f = cc in
      unread_here number first lines r f kind is (ap (λ (g : Fault). g.kind) same) (ap (λ (g : Fault). g.line) same)
  line_unread line.Statement number first (Ok s) lines (Ok rest) f kind is under e = absurd cc
  line_unread line.Statement number first (Ok s) lines (Err g) f kind is under e =
      let same : g ≡ f = cc in
      unread_under number first lines (s ∷ []) f (subst (λ k. Gives k source number first.tokens (s ∷ [])) (sym kind) (s, line_read source number first.tokens s is, refl))
      (subst (Unread (number + 1) lines) same (under g refl))

  pub from_err : (number : ℕ) (lines : List SourceLine) (f : Fault) → statements_from source number lines ≡ Err f → Unread number lines f
  unfolding statements_from
  from_err number [] f e = absurd cc
  from_err number (first ∷ lines) f e =
      line_unread first.kind number first (statement_of source number first.tokens) lines (statements_from source (number + 1) lines) f refl refl (from_err (number + 1) lines) e

  broken_at : (kind : LineKind) (number : ℕ) (tokens : List Token) (why : StatementKind) (below : Found) → kind ≡ line.Statement → BreaksLine source number tokens why
      → from_line kind number (statement_of source number tokens) below ≡ Err (fault why number)
  broken_at kind number tokens why below is h =
      ap (λ k. from_line k number (statement_of source number tokens) below) is ∙ ap (λ r. from_line line.Statement number r below) (broken_line source number tokens why h)

  -- and a source with such a line isn't
  pub err_from : (number : ℕ) (lines : List SourceLine) (at : ℕ) (kind : StatementKind) → IsUnreadFrom source number lines at kind → statements_from source number lines ≡ Err (fault kind at)
  unfolding statements_from
  err_from number lines at kind h =
      let there = broken_at h.broken.kind at h.broken.tokens kind (statements_from source (at + 1) h.below) h.statement_line h.breaks in
      ap (statements_from source number) h.whole ∙ from_above number h.above (h.broken ∷ h.below) h.statements h.read
      ∙ ap (in_order h.statements) (ap (λ n. statements_from source n (h.broken ∷ h.below)) (sym h.number_is) ∙ there)

-- ---- Sources

same_statements : (one other : List Statement) (r : Found) → r ≡ Ok one → r ≡ Ok other → one ≡ other
same_statements one other r e f = cc

same_fault : (one other : Fault) (r : Found) → r ≡ Err one → r ≡ Err other → one ≡ other
same_fault one other r e f = cc

same_kind : (kind other : StatementKind) → refusal_of kind ≡ refusal_of other → kind ≡ other
same_kind Syntax Syntax e = refl
same_kind TooDeep TooDeep e = refl
same_kind Syntax TooDeep e = absurd cc
same_kind TooDeep Syntax e = absurd cc

ok_or_err : (ss : List Statement) (f : Fault) (r : Found) → r ≡ Ok ss → r ≡ Err f → ⊥
ok_or_err ss f r e g = cc

module _ (source : List ℕ) (lines : List SourceLine) where
  pub some_by : (r : Found) → statements_from source 1 lines ≡ r
      → ((ss : List Statement) × AreStatementsFrom source 1 lines ss) ⊎ ((at : ℕ) × (kind : StatementKind) × IsUnreadFrom source 1 lines at kind)
  some_by (Ok ss) e = inl (ss, from_ok source 1 lines ss e)
  some_by (Err f) e = let h = from_err source 1 lines f e in inr (f.line, h.0, h.2)

  pub one_source : (one other : List Statement) → AreStatementsFrom source 1 lines one → AreStatementsFrom source 1 lines other → one ≡ other
  one_source one other h k = same_statements one other (statements_from source 1 lines) (ok_from source 1 lines one h) (ok_from source 1 lines other k)

  pub one_unread : (at there : ℕ) (kind other : StatementKind) → IsUnreadFrom source 1 lines at kind → IsUnreadFrom source 1 lines there other → (at ≡ there) × (kind ≡ other)
  one_unread at there kind other h k =
      let same = same_fault (fault kind at) (fault other there) (statements_from source 1 lines) (err_from source 1 lines at kind h) (err_from source 1 lines there other k) in
      (ap (λ (f : Fault). f.line) same, same_kind kind other (ap (λ (f : Fault). f.kind) same))

  pub read_or_unread : (ss : List Statement) (at : ℕ) (kind : StatementKind) → AreStatementsFrom source 1 lines ss → IsUnreadFrom source 1 lines at kind → ⊥
  read_or_unread ss at kind h k = ok_or_err ss (fault kind at) (statements_from source 1 lines) (ok_from source 1 lines ss h) (err_from source 1 lines at kind k)

-- ---- What is answered

module _ (source : List ℕ) (lines : List SourceLine) where
  unread_at : (at : ℕ) (kind : StatementKind) → statements_from source 1 lines ≡ Err (fault kind at) → IsUnreadFrom source 1 lines at kind
  unread_at at kind e =
      let h = from_err source 1 lines (fault kind at) e in
      subst (IsUnreadFrom source 1 lines at) (sym (same_kind kind h.0 h.1)) h.2

  -- what is right of the statements that are read is right of the source
  pub right_by : (result : Result (List Statement) (Refused StatementKind)) → AnswersStatements result (statements_from source 1 lines)
      → Answers (AreStatementsFrom source 1 lines) (IsUnreadFrom source 1 lines) result
  right_by (Ok ss) h = from_ok source 1 lines ss h
  right_by (Err (refused.At at Syntax)) h = unread_at at.0 Syntax h
  right_by (Err (refused.At at TooDeep)) h = unread_at at.0 TooDeep h
  right_by (Err refused.Memory) h = tt

  pub complete_by : (result : Result (List Statement) (Refused StatementKind)) → AnswersStatements result (statements_from source 1 lines)
      → IsComplete (AreStatementsFrom source 1 lines) (IsUnreadFrom source 1 lines) result
  complete_by result h =
      complete (AreStatementsFrom source 1 lines) (IsUnreadFrom source 1 lines) (one_source source lines) (one_unread source lines) (read_or_unread source lines) result (right_by result h)

-- ---- Single lines

pub is_line : {source : List ℕ} {tokens : List Token} {s : Statement} → statement_of source 1 tokens ≡ Ok s → IsStatementOf source 1 tokens s
is_line {source = source} {tokens = tokens} {s = s} e = line_read source 1 tokens s e

pub is_no_line : {source : List ℕ} {tokens : List Token} → statement_of source 1 tokens ≡ Err parse.Syntax → (s : Statement) → ¬ IsLine source 1 tokens s
is_no_line {source = source} {tokens = tokens} e = (exact-none (statement_exact source 1 tokens)).0 e
