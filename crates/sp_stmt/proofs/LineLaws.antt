-- The lines of a source, one after another.
use Rattle.std.proofs.Common.{◌≡◌, ℕ, suc, ◌+◌, ◌<◌, ◌≤◌, Bool, true, false, cond, List, [], ◌∷◌, ◌++◌, length, get_or, drop, Result, Ok, Err, refl, sym, ap, subst, ◌∙◌, append_assoc, arith}
use Rattle.std.specs.Prelude.{◌==◌, IfOk}
use Rattle.std.proofs.lemmas.List.{at_drop_more, at_drop_all, append-nil}
use Rattle.std.proofs.lemmas.Option.{slice_get_read}
use Rattle.sp_base.specs.declared.line.Line.{Line}
use Rattle.sp_lex.specs.declared.refusal.TextKind.{TextKind}
use Rattle.sp_lex.specs.declared.token.SourceLine.{SourceLine}
use Rattle.sp_lex.specs.declared.token.Token.{Token}
use Rattle.sp_lex.specs.Reading.{AreLines}
use Rattle.sp_expr.specs.declared.refusal.ParseRefusal.{ParseRefusal}
use Rattle.sp_expr.specs.declared.refusal.ParseRefusal.TheVariants.{Syntax, TooDeep, Memory}
use Rattle.sp_expr.specs.Words.{AreIn}
use Rattle.sp_lex.proofs.TokenLemmas.{tokens_are_in}
use Rattle.sp_stmt.specs.declared.statement.Statement.{Statement}
use Rattle.sp_stmt.specs.code.Answers.{Answers, AnswersStatements, refusal_at}
use Rattle.sp_stmt.specs.code.Reading.{Fault, is_statement, from_line, then_statements, statement_of, statements_from}
use Rattle.sp_stmt.specs.code.Reading as stmt

-- the tokens of a line lie in the source
pub line_in : (source : List ℕ) (lines given : List SourceLine) (i : ℕ) (line : SourceLine) (tokens : List Token) → AreLines source lines → given ≡ lines → i < length given → line ≡ get_or given i line → tokens ≡ line.tokens → AreIn source tokens
line_in source lines given i line tokens are same lt is tokens_are =
    let are' : AreLines source given = subst (AreLines source) (sym same) are in
    subst (AreIn source) (sym tokens_are) (tokens_are_in source given i line are' (slice_get_read given (length given) i line refl lt is))

abbrev Found : Type 0
Found = Result (List Statement) Fault

-- statements, and those of the lines below
abbrev pub in_order : List Statement → Found → Found
in_order front (Ok below) = Ok (front ++ below)
in_order front (Err fault) = Err fault

pub in_order-none : (below : Found) → in_order [] below ≡ below
in_order-none (Ok below) = refl
in_order-none (Err fault) = refl

in_order-first : (front : List Statement) (first : Statement) (below : Found) → in_order front (stmt.with_first first below) ≡ in_order (front ++ first ∷ []) below
in_order-first front first (Ok below) = ap (λ ss. Ok ss) (sym (append_assoc front (first ∷ []) below))
in_order-first front first (Err fault) = refl

from-more : (source : List ℕ) (lines : List SourceLine) (number i : ℕ) (line : SourceLine) → i < length lines → line ≡ get_or lines i line
    → statements_from source number (drop i lines) ≡ cond (is_statement line.kind) (then_statements number (statement_of source number line.tokens) (statements_from source (number + 1) (drop (i + 1) lines))) (statements_from source (number + 1) (drop (i + 1) lines))
unfolding statements_from
from-more source lines number i line lt is =
    at_drop_more (statements_from source number) lines i line lt
    ∙ ap (λ (l : SourceLine). cond (is_statement l.kind) (then_statements number (statement_of source number l.tokens) (statements_from source (number + 1) (drop (i + 1) lines))) (statements_from source (number + 1) (drop (i + 1) lines))) (sym is)

-- a line without a statement
pub in_order-skip : (source : List ℕ) (lines : List SourceLine) (number i : ℕ) (line : SourceLine) (front : List Statement) → i < length lines → line ≡ get_or lines i line → is_statement line.kind ≡ false
    → in_order front (statements_from source (number + 1) (drop (i + 1) lines)) ≡ in_order front (statements_from source number (drop i lines))
in_order-skip source lines number i line front lt is fails =
    let below = statements_from source (number + 1) (drop (i + 1) lines) in
    sym (ap (in_order front) (from-more source lines number i line lt is ∙ ap (λ b. cond b (then_statements number (statement_of source number line.tokens) below) below) fails))

from-taken : (source : List ℕ) (lines : List SourceLine) (number i : ℕ) (line : SourceLine) → i < length lines → line ≡ get_or lines i line → is_statement line.kind ≡ true
    → statements_from source number (drop i lines) ≡ then_statements number (statement_of source number line.tokens) (statements_from source (number + 1) (drop (i + 1) lines))
from-taken source lines number i line lt is holds =
    let below = statements_from source (number + 1) (drop (i + 1) lines) in
    from-more source lines number i line lt is ∙ ap (λ b. cond b (then_statements number (statement_of source number line.tokens) below) below) holds

-- a line with a statement
pub in_order-more : (source : List ℕ) (lines : List SourceLine) (number i : ℕ) (line : SourceLine) (tokens : List Token) (front next : List Statement) (first : Statement) → i < length lines → line ≡ get_or lines i line
    → is_statement line.kind ≡ true → tokens ≡ line.tokens → statement_of source number tokens ≡ Ok first → next ≡ front ++ first ∷ []
    → in_order next (statements_from source (number + 1) (drop (i + 1) lines)) ≡ in_order front (statements_from source number (drop i lines))
in_order-more source lines number i line tokens front next first lt is holds tokens_are read next_is =
    let below = statements_from source (number + 1) (drop (i + 1) lines) in
    ap (λ ss. in_order ss below) next_is ∙ sym (in_order-first front first below)
    ∙ sym (ap (in_order front) (from-taken source lines number i line lt is holds ∙ ap (λ r. then_statements number r below) (ap (statement_of source number) (sym tokens_are) ∙ read)))

refused_by : (e : ParseRefusal) (number : Line) (read : Result Statement ParseRefusal) (front : List Statement) (below whole : Found) → Answers {X = Statement} (Err e) read → in_order front (then_statements number.0 read below) ≡ whole
    → AnswersStatements (Err (refusal_at e number)) whole
refused_by Syntax number read front below whole h is = sym is ∙ ap (λ r. in_order front (then_statements number.0 r below)) h
refused_by TooDeep number read front below whole h is = sym is ∙ ap (λ r. in_order front (then_statements number.0 r below)) h
refused_by Memory number read front below whole h is = tt

-- a line that is refused
pub in_order-refused : (source : List ℕ) (lines : List SourceLine) (number : Line) (i : ℕ) (line : SourceLine) (tokens : List Token) (front : List Statement) (e : ParseRefusal) (whole : Found) → i < length lines → line ≡ get_or lines i line
    → is_statement line.kind ≡ true → tokens ≡ line.tokens → Answers {X = Statement} (Err e) (statement_of source number.0 tokens) → in_order front (statements_from source number.0 (drop i lines)) ≡ whole
    → AnswersStatements (Err (refusal_at e number)) whole
in_order-refused source lines number i line tokens front e whole lt is holds tokens_are h all =
    let below = statements_from source (number.0 + 1) (drop (i + 1) lines) in
    refused_by e number (statement_of source number.0 tokens) front below whole h
    (ap (λ ts. in_order front (then_statements number.0 (statement_of source number.0 ts) below)) tokens_are ∙ sym (ap (in_order front) (from-taken source lines number.0 i line lt is holds)) ∙ all)

-- no line is left
pub in_order-all : (source : List ℕ) (lines : List SourceLine) (number i : ℕ) (front : List Statement) → length lines ≤ i → in_order front (statements_from source number (drop i lines)) ≡ Ok front
unfolding statements_from
in_order-all source lines number i front le = ap (in_order front) (at_drop_all (statements_from source number) lines i le) ∙ ap (λ ss. Ok ss) (append-nil front)
