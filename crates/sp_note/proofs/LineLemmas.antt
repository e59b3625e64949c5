-- The lines of a source, one after another.
use Rattle.std.proofs.Common.{◌≡◌, ℕ, suc, ◌+◌, ◌<◌, ◌≤◌, Bool, true, false, cond, List, [], ◌∷◌, ◌++◌, length, map, get_or, drop, Result, Ok, Err, refl, sym, ap, subst, ◌∙◌, append_assoc, arith}
use Rattle.std.specs.Prelude.{⊤}
use Rattle.std.proofs.lemmas.List.{at_drop_more, at_drop_all, append-nil, map-append}
use Rattle.std.proofs.lemmas.Option.{slice_get_read}
use Rattle.sp_base.specs.declared.line.Line.{Line}
use Rattle.sp_base.specs.declared.refused.Refused.{Refused}
use Rattle.sp_base.specs.declared.refused.Refused.TheVariants as refused
use Rattle.sp_lex.specs.declared.token.SourceLine.{SourceLine}
use Rattle.sp_lex.specs.declared.token.Token.{Token}
use Rattle.sp_lex.specs.Reading.{AreLines}
use Rattle.sp_lex.specs.Readers.{AreIn}
use Rattle.sp_lex.proofs.TokenLemmas.{tokens_are_in}
use Rattle.sp_note.specs.declared.part.NoteLine as declared
use Rattle.sp_note.specs.declared.part.Part as declared_part
use Rattle.sp_note.specs.declared.refusal.LineRefusal.{LineRefusal}
use Rattle.sp_note.specs.declared.refusal.LineRefusal.TheVariants as line
use Rattle.sp_note.specs.declared.refusal.NoteKind.{NoteKind}
use Rattle.sp_note.specs.Parts.{Part, NoteLine, part_of, line_of, lines_of}
use Rattle.sp_note.specs.code.Answers.{Answers}
use Rattle.sp_note.specs.code.Lines.{Fault, is_annotation, from_line, then_notes, part_at, notes_from, with_first}
use Rattle.sp_note.specs.code.Source.{AnswersNotes, refusal_at}

-- the tokens of a line lie in the source
pub line_in : (source : List ℕ) (lines given : List SourceLine) (i : ℕ) (line : SourceLine) (tokens : List Token) → AreLines source lines → given ≡ lines → i < length given → line ≡ get_or given i line → tokens ≡ line.tokens → AreIn source tokens
line_in source lines given i line tokens are same lt is tokens_are =
    let are' : AreLines source given = subst (AreLines source) (sym same) are in
    subst (AreIn source) (sym tokens_are) (tokens_are_in source given i line are' (slice_get_read given (length given) i line refl lt is))

abbrev Found : Type 0
Found = Result (List NoteLine) Fault

-- annotations, and those of the lines below
abbrev pub in_order : List NoteLine → Found → Found
in_order front (Ok below) = Ok (front ++ below)
in_order front (Err fault) = Err fault

pub in_order-none : (below : Found) → in_order [] below ≡ below
in_order-none (Ok below) = refl
in_order-none (Err fault) = refl

in_order-first : (front : List NoteLine) (first : NoteLine) (below : Found) → in_order front (with_first first below) ≡ in_order (front ++ first ∷ []) below
in_order-first front first (Ok below) = ap (λ ss. Ok ss) (sym (append_assoc front (first ∷ []) below))
in_order-first front first (Err fault) = refl

from-more : (source : List ℕ) (lines : List SourceLine) (number i : ℕ) (line : SourceLine) → i < length lines → line ≡ get_or lines i line
    → notes_from source number (drop i lines) ≡ cond (is_annotation line.kind) (then_notes number (part_at source line.tokens) (notes_from source (number + 1) (drop (i + 1) lines))) (notes_from source (number + 1) (drop (i + 1) lines))
unfolding notes_from
from-more source lines number i line lt is =
    at_drop_more (notes_from source number) lines i line lt
    ∙ ap (λ (l : SourceLine). cond (is_annotation l.kind) (then_notes number (part_at source l.tokens) (notes_from source (number + 1) (drop (i + 1) lines))) (notes_from source (number + 1) (drop (i + 1) lines))) (sym is)

-- a line without an annotation
pub in_order-skip : (source : List ℕ) (lines : List SourceLine) (number i : ℕ) (line : SourceLine) (front : List NoteLine) → i < length lines → line ≡ get_or lines i line → is_annotation line.kind ≡ false
    → in_order front (notes_from source (number + 1) (drop (i + 1) lines)) ≡ in_order front (notes_from source number (drop i lines))
in_order-skip source lines number i line front lt is fails =
    let below = notes_from source (number + 1) (drop (i + 1) lines) in
    sym (ap (in_order front) (from-more source lines number i line lt is ∙ ap (λ b. cond b (then_notes number (part_at source line.tokens) below) below) fails))

from-taken : (source : List ℕ) (lines : List SourceLine) (number i : ℕ) (line : SourceLine) → i < length lines → line ≡ get_or lines i line → is_annotation line.kind ≡ true
    → notes_from source number (drop i lines) ≡ then_notes number (part_at source line.tokens) (notes_from source (number + 1) (drop (i + 1) lines))
from-taken source lines number i line lt is holds =
    let below = notes_from source (number + 1) (drop (i + 1) lines) in
    from-more source lines number i line lt is ∙ ap (λ b. cond b (then_notes number (part_at source line.tokens) below) below) holds

-- a line with an annotation
pub in_order-more : (source : List ℕ) (lines : List SourceLine) (number i : ℕ) (line : SourceLine) (tokens : List Token) (notes next : List declared.NoteLine) (first : declared.NoteLine) (part : declared_part.Part) → i < length lines → line ≡ get_or lines i line
    → is_annotation line.kind ≡ true → tokens ≡ line.tokens → part_at source tokens ≡ Ok (part_of part) → first.line.0 ≡ number → first.part ≡ part → next ≡ notes ++ first ∷ []
    → in_order (lines_of next) (notes_from source (number + 1) (drop (i + 1) lines)) ≡ in_order (lines_of notes) (notes_from source number (drop i lines))
in_order-more source lines number i line tokens notes next first part lt is holds tokens_are read numbered says next_is =
    let below = notes_from source (number + 1) (drop (i + 1) lines) in
    let shown : NoteLine = record { line = number; part = part_of part } in
    let seen : line_of first ≡ shown = (λ j. record { line = numbered j; part = part_of (says j) }) in
    ap (λ ss. in_order (lines_of ss) below) next_is
    ∙ ap (λ ss. in_order ss below) (map-append line_of notes (first ∷ []) ∙ ap (λ l. lines_of notes ++ l ∷ []) seen)
    ∙ sym (in_order-first (lines_of notes) shown below)
    ∙ sym (ap (in_order (lines_of notes)) (from-taken source lines number i line lt is holds ∙ ap (λ r. then_notes number r below) (ap (part_at source) (sym tokens_are) ∙ read)))

refused_by : (e : LineRefusal) (number : Line) (read : Result Part NoteKind) (front : List NoteLine) (below whole : Found) → Answers part_of (Err e) read → in_order front (then_notes number.0 read below) ≡ whole
    → AnswersNotes (Err (refusal_at e number)) whole
refused_by (line.Kind kind) number read front below whole h is = sym is ∙ ap (λ r. in_order front (then_notes number.0 r below)) h
refused_by line.Memory number read front below whole h is = tt

-- a line that is refused
pub in_order-refused : (source : List ℕ) (lines : List SourceLine) (number : Line) (i : ℕ) (line : SourceLine) (tokens : List Token) (front : List NoteLine) (e : LineRefusal) (whole : Found) → i < length lines → line ≡ get_or lines i line
    → is_annotation line.kind ≡ true → tokens ≡ line.tokens → Answers part_of (Err e) (part_at source tokens) → in_order front (notes_from source number.0 (drop i lines)) ≡ whole
    → AnswersNotes (Err (refusal_at e number)) whole
in_order-refused source lines number i line tokens front e whole lt is holds tokens_are h all =
    let below = notes_from source (number.0 + 1) (drop (i + 1) lines) in
    refused_by e number (part_at source tokens) front below whole h
    (ap (λ ts. in_order front (then_notes number.0 (part_at source ts) below)) tokens_are ∙ sym (ap (in_order front) (from-taken source lines number.0 i line lt is holds)) ∙ all)

-- no line is left
pub in_order-all : (source : List ℕ) (lines : List SourceLine) (number i : ℕ) (front : List NoteLine) → length lines ≤ i → in_order front (notes_from source number (drop i lines)) ≡ Ok front
unfolding notes_from
in_order-all source lines number i front le = ap (in_order front) (at_drop_all (notes_from source number) lines i le) ∙ ap (λ ss. Ok ss) (append-nil front)
