-- The tokens of a source's lines are its slices.
use Rattle.std.proofs.Common.{◌≡◌, ℕ, zero, suc, ◌+◌, ◌-◌, ◌<◌, ◌≤◌, Bool, true, false, eqb, List, [], ◌∷◌, ◌++◌, length, get_or, take, drop, Option, Some, None, refl, sym, ap, subst, ◌∙◌, inl, inr, arith, append_assoc, length-append}
use Rattle.std.specs.Prelude.{slice_get, IsSome}
use Rattle.std.specs.List.{list_all, slice_range, AllByRecursion}
use Rattle.std.proofs.lemmas.Bool.{cond_both, cases_lt}
use Rattle.std.proofs.lemmas.List.{append-nil, take-append-drop}
use Rattle.std.proofs.lemmas.List.Elements.{All-from_recursion}
use Rattle.std.proofs.Math.Seq.{drop-append_seam, take-append_seam}
use Rattle.sp_base.specs.Lines.{Row, row, rows_of, line_of, size_of, with_feed, text_of_rows}
use Rattle.sp_base.proofs.LineLemmas.{rows_whole, length-with_feed}
use Rattle.sp_lex.specs.declared.refusal.TextKind.{TextKind}
use Rattle.sp_lex.specs.declared.refusal.TextKind.TheVariants.{LongLine, BadByte, BadNumber}
use Rattle.sp_lex.specs.declared.token.TokenKind.{TokenKind}
use Rattle.sp_lex.specs.declared.token.TokenKind.TheVariants.{Name, Number, Text, Symbol}
use Rattle.sp_lex.specs.declared.token.Token.{Token}
use Rattle.sp_lex.specs.declared.token.SourceLine.{SourceLine}
use Rattle.sp_lex.specs.declared.pieces.PieceKind.{PieceKind}
use Rattle.sp_lex.specs.declared.pieces.PieceKind.TheVariants as pieces
use Rattle.sp_lex.specs.Bytes.{is_plain}
use Rattle.sp_lex.specs.Numbers.{number_of, at_most, limit_of}
use Rattle.sp_lex.specs.Tokens.{HasForm, IsToken}
use Rattle.sp_lex.specs.Pieces.{Cut, IsPiece, AreCut, token_of, tokens_from, Breaks, SomeBreaks}
use Rattle.sp_lex.specs.Readers.{IsIn, AreIn}
use Rattle.sp_lex.specs.Reading.{IsDivided, IsLine, AreLinesFrom, AreLines, is_annotation, IsTokenOf, HaveTokensOf}
use Rattle.sp_lex.proofs.PieceLemmas.{piece_some}
use Rattle.sp_lex.proofs.LineLemmas.{sound_pieces}

-- ---- a token that breaks no rule

short_by : (n limit : ℕ) → ¬ (limit < n) → n ≤ limit
short_by n limit h = elim (cases_lt limit n) [ inl lt ↦ absurd (h lt) | inr le ↦ le ]

some_by : (o : Option ℕ) → ¬ (o ≡ None) → IsSome o
some_by None h = absurd (h refl)
some_by (Some value) h = refl

all_by : (b : Bool) → ¬ (b ≡ false) → b ≡ true
all_by true h = refl
all_by false h = absurd (h refl)

unbroken : (annotation : Bool) (kind : TokenKind) (text : List ℕ) → HasForm annotation kind text → ((k : TextKind) → ¬ Breaks annotation (pieces.Token kind) text k) → IsToken annotation kind text
unbroken annotation Name text form sound = (form, short_by (length text) 31 (sound BadByte))
unbroken annotation Number text form sound = (form, some_by (at_most (limit_of annotation) (number_of text)) (sound BadNumber))
unbroken annotation Text text form sound = (form, all_by (list_all is_plain text) (sound BadByte))
unbroken annotation Symbol text form sound = form

-- ---- the tokens of pieces

slice_at : (front text back : List ℕ) → slice_range (front ++ (text ++ back)) (length front) (length front + length text) ≡ text
slice_at front text back =
    let n : length front + length text - length front ≡ length text = omega arith in
    ap (λ k. take k (drop (length front) (front ++ (text ++ back)))) n ∙ ap (take (length text)) (drop-append_seam front (text ++ back)) ∙ take-append_seam text back

regrouped : (source front bytes back text rest : List ℕ) → source ≡ front ++ (bytes ++ back) → bytes ≡ text ++ rest → source ≡ front ++ (text ++ (rest ++ back))
regrouped source front bytes back text rest whole parts = whole ∙ ap (λ b. front ++ (b ++ back)) parts ∙ ap (λ b. front ++ b) (append_assoc text rest back)

token_at : (annotation : Bool) (at : ℕ) (source front text back : List ℕ) (kind : TokenKind) → source ≡ front ++ (text ++ back) → length front ≡ at → 0 < length text → IsToken annotation kind text
    → IsTokenOf source annotation (record { kind = kind; start = at; end = at + length text })
token_at annotation at source front text back kind whole len some is =
    let slice : slice_range source at (at + length text) ≡ text =
    ap (λ k. slice_range source k (k + length text)) (sym len) ∙ ap (λ s. slice_range s (length front) (length front + length text)) whole ∙ slice_at front text back in
    record {
      some = omega (arith, some);
      within = omega (arith, len, ap length whole, length-append front (text ++ back), length-append text back);
      text = subst (IsToken annotation kind) (sym slice) is;
    }

-- the token of a piece, if it is one, and those after it
with_token : (P : Token → Type 0) (kind : PieceKind) (start end : ℕ) (tokens : List Token) → ((k : TokenKind) → kind ≡ pieces.Token k → P (record { kind = k; start = start; end = end }))
    → AllByRecursion P tokens → AllByRecursion P (token_of kind start end ++ tokens)
with_token P (pieces.Token k) start end tokens here h = (here k refl, h)
with_token P pieces.Blank start end tokens here h = h
with_token P pieces.Comment start end tokens here h = h
with_token P pieces.OpenText start end tokens here h = h
with_token P pieces.Stray start end tokens here h = h

cut_tokens : (annotation : Bool) (at : ℕ) (source front bytes back : List ℕ) (cs : List Cut) → source ≡ front ++ (bytes ++ back) → length front ≡ at → AreCut annotation bytes cs
    → ((k : TextKind) → ¬ SomeBreaks annotation cs k) → AllByRecursion (IsTokenOf source annotation) (tokens_from at cs)
unfolding tokens_from
cut_tokens annotation at source front bytes back [] whole len h sound = tt
cut_tokens annotation at source front bytes back (c ∷ cs) whole len h sound =
    let rest = h.0 in
    let parts : source ≡ front ++ (c.text ++ (rest ++ back)) = regrouped source front bytes back c.text rest whole h.1 in
    let next : source ≡ (front ++ c.text) ++ (rest ++ back) = parts ∙ sym (append_assoc front c.text (rest ++ back)) in
    let some : 0 < length c.text = piece_some annotation c.kind c.text rest h.2 in
    with_token (IsTokenOf source annotation) c.kind at (at + length c.text) (tokens_from (at + length c.text) cs)
    (λ k is. token_at annotation at source front c.text (rest ++ back) k parts len some
    (unbroken annotation k c.text (subst (λ (p : PieceKind). IsPiece annotation p c.text rest) is h.2).form
    (λ j broken. sound j (inl (subst (λ (p : PieceKind). Breaks annotation p c.text j) (sym is) broken)))))
    (cut_tokens annotation (at + length c.text) source (front ++ c.text) rest back cs next (omega (arith, len, length-append front c.text)) h.3 (λ k broken. sound k (inr broken)))

divided_whole : (annotation : Bool) (line front body : List ℕ) → IsDivided annotation line front body → line ≡ front ++ body
divided_whole true line front body h = h.1
divided_whole false line front body h = h.1 ∙ ap (λ f. f ++ body) (sym h.0)

line_tokens : (at : ℕ) (source front bytes back : List ℕ) (line : SourceLine) → source ≡ front ++ (bytes ++ back) → length front ≡ at → IsLine at bytes line
    → AllByRecursion (IsTokenOf source (is_annotation line.kind)) line.tokens
line_tokens at source front bytes back line whole len h =
    let annotation = is_annotation line.kind in
    let short : length bytes ≤ 4096 = short_by (length bytes) 4096 (h.sound LongLine) in
    let sound = sound_pieces bytes h.front annotation h.cuts short h.pieces h.sound in
    let parts : source ≡ front ++ (h.front ++ (h.pieces.body ++ back)) = regrouped source front bytes back h.front h.pieces.body whole (divided_whole annotation bytes h.front h.pieces.body h.pieces.divided) in
    let next : source ≡ (front ++ h.front) ++ (h.pieces.body ++ back) = parts ∙ sym (append_assoc front h.front (h.pieces.body ++ back)) in
    subst (AllByRecursion (IsTokenOf source annotation)) (sym h.tokens)
    (cut_tokens annotation (at + length h.front) source (front ++ h.front) h.pieces.body back h.cuts next (omega (arith, len, length-append front h.front)) h.pieces.cut sound)

-- ---- the tokens of a source

-- a row is its line and the line's end
row_parts : (bytes : List ℕ) (ended : Bool) → (tail : List ℕ) × (with_feed ended bytes ≡ line_of (row bytes ended) ++ tail)
row_parts bytes false = ([], sym (append-nil bytes))
row_parts bytes true =
    cond_both (eqb (get_or bytes (length bytes - 1) 0) 13) (take (length bytes - 1) bytes) bytes (λ line. (tail : List ℕ) × (bytes ++ 10 ∷ [] ≡ line ++ tail))
    (λ _. (drop (length bytes - 1) bytes ++ 10 ∷ [], ap (λ b. b ++ 10 ∷ []) (sym (take-append-drop (length bytes - 1) bytes)) ∙ append_assoc (take (length bytes - 1) bytes) (drop (length bytes - 1) bytes) (10 ∷ [])))
    (λ _. (10 ∷ [], refl))

rows_tokens : (at : ℕ) (source front : List ℕ) (rows : List Row) (lines : List SourceLine) → source ≡ front ++ text_of_rows rows → length front ≡ at → AreLinesFrom at rows lines → HaveTokensOf source lines
rows_tokens at source front [] [] whole len h = tt
rows_tokens at source front [] (line ∷ lines) whole len h = absurd h
rows_tokens at source front (first ∷ rows) [] whole len h = absurd h
rows_tokens at source front (first ∷ rows) (line ∷ lines) whole len h =
    let parts = row_parts first.bytes first.ended in
    let feed = with_feed first.ended first.bytes in
    let here : source ≡ front ++ (line_of first ++ (parts.0 ++ text_of_rows rows)) =
    whole ∙ ap (λ b. front ++ (b ++ text_of_rows rows)) parts.1 ∙ ap (λ b. front ++ b) (append_assoc (line_of first) parts.0 (text_of_rows rows)) in
    let next : source ≡ (front ++ feed) ++ text_of_rows rows = whole ∙ sym (append_assoc front feed (text_of_rows rows)) in
    let next_len : length (front ++ feed) ≡ at + size_of first = omega (arith, len, length-append front feed, length-with_feed first.bytes first.ended) in (
      line_tokens at source front (line_of first) (parts.0 ++ text_of_rows rows) line here len h.0,
      elim h.1 [
        | inl last ↦ subst (HaveTokensOf source) (sym last.1) tt
        | inr more ↦ rows_tokens (at + size_of first) source (front ++ feed) rows lines next next_len more.1
      ],
    )

pub have_tokens : (source : List ℕ) (lines : List SourceLine) → AreLines source lines → HaveTokensOf source lines
have_tokens source lines h = rows_tokens 0 source [] (rows_of source) lines (sym (rows_whole source)) refl h.all

in_by : (source : List ℕ) (annotation : Bool) (tokens : List Token) → AllByRecursion (IsTokenOf source annotation) tokens → AllByRecursion (IsIn source) tokens
in_by source annotation [] h = tt
in_by source annotation (token ∷ tokens) h = (record { ordered = omega (arith, h.0.some); within = h.0.within }, in_by source annotation tokens h.1)

abbrev found_line : SourceLine → Option SourceLine
found_line l = Some l

same_line : (a b : SourceLine) → found_line a ≡ found_line b → a ≡ b
same_line a b e = cc

line_in : (source : List ℕ) (lines : List SourceLine) (i : ℕ) (found : SourceLine) → slice_get lines i ≡ Some found → HaveTokensOf source lines → AreIn source found.tokens
line_in source [] zero found e h = absurd cc
line_in source [] (suc i) found e h = absurd cc
line_in source (first ∷ lines) zero found e h =
    subst (λ (l : SourceLine). AreIn source l.tokens) (same_line first found e) (All-from_recursion (IsIn source) first.tokens (in_by source (is_annotation first.kind) first.tokens h.0))
line_in source (first ∷ lines) (suc i) found e h = line_in source lines i found e h.1

-- the tokens of a line lie in the source
pub tokens_are_in : (source : List ℕ) (lines : List SourceLine) (i : ℕ) (found : SourceLine) → AreLines source lines → slice_get lines i ≡ Some found → AreIn source found.tokens
tokens_are_in source lines i found are at = line_in source lines i found at (have_tokens source lines are)
