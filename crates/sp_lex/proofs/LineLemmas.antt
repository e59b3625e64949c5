-- One line: what the code reads it as is what it is.
use Rattle.std.proofs.Common.{◌≡◌, ℕ, suc, ◌+◌, ◌-◌, ◌≤◌, Bool, true, false, ltb, List, [], ◌∷◌, ◌++◌, length, take, drop, Option, Some, None, Result, Ok, Err, refl, sym, ap, subst, ◌∙◌, inl, inr, arith, append_assoc, length-append}
use Rattle.std.specs.Prelude.{◌||◌, nat_eq, codes}
use Rattle.std.specs.Cmp.Lexicographic.{pointwise}
use Rattle.std.specs.List.{prefix_len, list_all, starts_with}
use Rattle.std.specs.Char.{to_ascii_uppercase, is_ascii_digit}
use Rattle.std.proofs.lemmas.Bool.{ltb-true, ltb-false, cond_both}
use Rattle.std.proofs.lemmas.List.{take-append-drop, length-take-le, append_cancel_left}
use Rattle.std.proofs.lemmas.List.Sums.{prefix_len-le-length}
use Rattle.sp_lex.specs.declared.refusal.TextKind.{TextKind}
use Rattle.sp_lex.specs.declared.refusal.TextKind.TheVariants.{LongLine, BadByte, OpenQuote, BadNumber}
use Rattle.sp_lex.specs.declared.token.LineKind.{LineKind}
use Rattle.sp_lex.specs.declared.token.LineKind.TheVariants.{Empty, Statement, Annotation}
use Rattle.sp_lex.specs.declared.token.TokenKind.TheVariants.{Name, Number, Text, Symbol}
use Rattle.sp_lex.specs.declared.token.Token.{Token}
use Rattle.sp_lex.specs.declared.token.SourceLine.{SourceLine}
use Rattle.sp_lex.specs.declared.pieces.PieceKind.{PieceKind}
use Rattle.sp_lex.specs.declared.pieces.PieceKind.TheVariants as pieces
use Rattle.sp_lex.specs.Bytes.{is_blank, is_name_start, is_name_byte}
use Rattle.sp_lex.specs.Names.{folded}
use Rattle.sp_lex.specs.Tokens.{IsLongest}
use Rattle.sp_lex.specs.Pieces.{Cut, AreCut, tokens_from, Breaks, SomeBreaks}
use Rattle.sp_lex.specs.Reading.{IsAnnotation, IsDivided, ArePiecesOf, HasBrokenPiece, HasFault, IsFaultOf, IsSound, IsEndLine, is_annotation, HasKind, IsLine}
use Rattle.sp_lex.specs.code.Pieces.{cuts, fault_in}
use Rattle.sp_lex.specs.code.Lines.{finished, kind_by, annotation_of, statement_of, after_blanks, line_at, is_end_line}
use Rattle.sp_lex.proofs.FormLemmas.{both, same_texts, head_of, class, word_class, list_all-prefix, word_longest}
use Rattle.sp_lex.proofs.PieceLemmas.{cuts_are, one_token, one_cutting}
use Rattle.sp_lex.proofs.FaultLemmas.{IsFirst, first_by, fault_in-first}

-- ---- how a line is divided

true_false : true ≡ false → ⊥
true_false e = cc

no_blank_mark : (byte : ℕ) → 59 ≡ byte → is_blank byte ≡ true → ⊥
no_blank_mark byte e blank = true_false (sym blank ∙ ap is_blank (sym e))

one_blanks : (b c x y : List ℕ) → list_all is_blank b ≡ true → list_all is_blank c ≡ true → b ++ 59 ∷ x ≡ c ++ 59 ∷ y → b ≡ c
one_blanks [] [] x y h g e = refl
one_blanks [] (byte ∷ c) x y h g e = absurd (no_blank_mark byte (ap head_of e) (both (is_blank byte) (list_all is_blank c) g).0)
one_blanks (byte ∷ b) [] x y h g e = absurd (no_blank_mark byte (sym (ap head_of e)) (both (is_blank byte) (list_all is_blank b) h).0)
one_blanks (m ∷ b) (n ∷ c) x y h g e =
    ap (λ k. k ∷ b) (ap head_of e)
    ∙ ap (λ t. n ∷ t) (one_blanks b c x y (both (is_blank m) (list_all is_blank b) h).1 (both (is_blank n) (list_all is_blank c) g).1 (ap (drop 1) e))

marked : (front blanks body line : List ℕ) → front ≡ blanks ++ codes ";#" → line ≡ front ++ body → line ≡ blanks ++ 59 ∷ 35 ∷ body
marked front blanks body line f e = e ∙ ap (λ t. t ++ body) f ∙ append_assoc blanks (codes ";#") body

one_division : (a b : Bool) (line f x g y : List ℕ) → IsDivided a line f x → IsDivided b line g y → (a ≡ b) × (f ≡ g) × (x ≡ y)
one_division true true line f x g y h k =
    let blanks : h.0.0 ≡ k.0.0 = one_blanks h.0.0 k.0.0 (35 ∷ x) (35 ∷ y) h.0.2 k.0.2 (sym (marked f h.0.0 x line h.0.1 h.1) ∙ marked g k.0.0 y line k.0.1 k.1) in
    let fronts : f ≡ g = h.0.1 ∙ ap (λ t. t ++ codes ";#") blanks ∙ sym k.0.1 in
    (refl, fronts, append_cancel_left f x y (sym h.1 ∙ k.1 ∙ ap (λ t. t ++ y) (sym fronts)))
one_division true false line f x g y h k = absurd (k.2 (f, x, h.0, h.1))
one_division false true line f x g y h k = absurd (h.2 (g, y, k.0, k.1))
one_division false false line f x g y h k = (refl, h.0 ∙ sym k.0, sym h.1 ∙ k.1)

-- a line has one list of pieces
pub one_pieces : (a b : Bool) (line f g : List ℕ) (cs ds : List Cut) → ArePiecesOf a line f cs → ArePiecesOf b line g ds → (a ≡ b) × (f ≡ g) × (cs ≡ ds)
one_pieces a b line f g cs ds h k =
    let same = one_division a b line f h.body g k.body h.divided k.divided in
    let cut : AreCut b k.body cs = subst (λ x. AreCut b x cs) same.2 (subst (λ c. AreCut c h.body cs) same.0 h.cut) in
    (same.0, same.1, one_cutting b k.body cs ds cut k.cut)

-- what stands after the bytes that pass a test
pub prefix_stops : (p : ℕ → Bool) (front rest : List ℕ) (byte : ℕ) → list_all p front ≡ true → p byte ≡ false → drop (prefix_len p (front ++ byte ∷ rest)) (front ++ byte ∷ rest) ≡ byte ∷ rest
prefix_stops p [] rest byte all stops = rw stops refl
prefix_stops p (first ∷ front) rest byte all stops =
    let h = both (p first) (list_all p front) all in
    let n : 1 + prefix_len p (front ++ byte ∷ rest) ≡ suc (prefix_len p (front ++ byte ∷ rest)) = omega arith in
    rw (h.0, n) (prefix_stops p front rest byte h.1 stops)

begins_with_mark : (bytes : List ℕ) → starts_with nat_eq bytes (codes ";#") ≡ true → bytes ≡ 59 ∷ 35 ∷ drop 2 bytes
begins_with_mark bytes e = sym (take-append-drop 2 bytes) ∙ ap (λ t. t ++ drop 2 bytes) (sym (same_texts (codes ";#") (take 2 bytes) e))

annotation_starts : (line : List ℕ) → IsAnnotation line → starts_with nat_eq (after_blanks line) (codes ";#") ≡ true
annotation_starts line h =
    let is : line ≡ h.2.0 ++ 59 ∷ 35 ∷ h.1 = marked h.0 h.2.0 h.1 line h.2.1 h.3 in
    let after : after_blanks line ≡ 59 ∷ 35 ∷ h.1 = ap after_blanks is ∙ prefix_stops is_blank h.2.0 (35 ∷ h.1) 59 h.2.2 refl in
    ap (λ t. starts_with nat_eq t (codes ";#")) after

annotation_pieces : (line : List ℕ) → starts_with nat_eq (after_blanks line) (codes ";#") ≡ true
    → ArePiecesOf true line (take (prefix_len is_blank line) line ++ codes ";#") (cuts true 0 (drop 2 (after_blanks line)))
annotation_pieces line mark =
    let skip = prefix_len is_blank line in
    record {
      body = drop 2 (after_blanks line);
      divided = (
        (take skip line, refl, list_all-prefix is_blank line),
        sym (take-append-drop skip line) ∙ ap (λ t. take skip line ++ t) (begins_with_mark (after_blanks line) mark) ∙ sym (append_assoc (take skip line) (codes ";#") (drop 2 (after_blanks line))),
      );
      cut = cuts_are true (drop 2 (after_blanks line));
    }

statement_pieces : (line : List ℕ) → starts_with nat_eq (after_blanks line) (codes ";#") ≡ false → ArePiecesOf false line [] (cuts false 0 line)
statement_pieces line mark = record {
  body = line;
  divided = (refl, refl, λ h. true_false (sym (annotation_starts line h) ∙ mark));
  cut = cuts_are false line;
}

-- ---- the first fault of a line

piece_short : (annotation : Bool) (kind : PieceKind) (text : List ℕ) → Breaks annotation kind text LongLine → ⊥
piece_short annotation pieces.Blank text h = h
piece_short annotation pieces.Comment text h = h
piece_short annotation (pieces.Token Name) text h = h
piece_short annotation (pieces.Token Number) text h = h
piece_short annotation (pieces.Token Text) text h = h
piece_short annotation (pieces.Token Symbol) text h = h
piece_short annotation pieces.OpenText text h = h
piece_short annotation pieces.Stray text h = h

pieces_short : (annotation : Bool) (cs : List Cut) → SomeBreaks annotation cs LongLine → ⊥
pieces_short annotation [] h = h
pieces_short annotation (c ∷ cs) (inl h) = piece_short annotation c.kind c.text h
pieces_short annotation (c ∷ cs) (inr h) = pieces_short annotation cs h

module _ (line front : List ℕ) (annotation : Bool) (cs : List Cut) (short : length line ≤ 4096) (are : ArePiecesOf annotation line front cs) where
  broken_is_fault : (kind : TextKind) → SomeBreaks annotation cs kind → HasFault line kind
  broken_is_fault LongLine h = absurd (pieces_short annotation cs h)
  broken_is_fault BadByte h = record { annotation = annotation; front = front; cuts = cs; pieces = are; broken = h }
  broken_is_fault OpenQuote h = record { annotation = annotation; front = front; cuts = cs; pieces = are; broken = h }
  broken_is_fault BadNumber h = record { annotation = annotation; front = front; cuts = cs; pieces = are; broken = h }

  pub broken_here : (kind : TextKind) → HasBrokenPiece line kind → SomeBreaks annotation cs kind
  broken_here kind h =
      let same = one_pieces h.annotation annotation line h.front front h.cuts cs h.pieces are in
      subst (λ a. SomeBreaks a cs kind) same.0 (subst (λ xs. SomeBreaks h.annotation xs kind) same.2 h.broken)

  fault_is_broken : (kind : TextKind) → HasFault line kind → SomeBreaks annotation cs kind
  fault_is_broken LongLine h = absurd (omega (arith, h, short))
  fault_is_broken BadByte h = broken_here BadByte h
  fault_is_broken OpenQuote h = broken_here OpenQuote h
  fault_is_broken BadNumber h = broken_here BadNumber h

  pub fault_first : IsFirst (HasFault line) (fault_in annotation None cs)
  fault_first = first_by (SomeBreaks annotation cs) (HasFault line) (fault_in annotation None cs) broken_is_fault fault_is_broken (fault_in-first annotation cs)

  pub sound_pieces : IsSound line → (kind : TextKind) → ¬ SomeBreaks annotation cs kind
  sound_pieces sound kind h = sound kind (broken_is_fault kind h)

-- ---- what a line is read as

abbrev pub IsRead : ℕ → List ℕ → Result SourceLine TextKind → Type 0
IsRead at bytes (Ok line) = IsLine at bytes line
IsRead at bytes (Err kind) = IsFaultOf bytes kind

finished_read : (at : ℕ) (bytes front : List ℕ) (annotation : Bool) (cs : List Cut) (kind : LineKind) (tokens : List Token) (fault : Option TextKind) → IsFirst (HasFault bytes) fault
    → ArePiecesOf annotation bytes front cs → is_annotation kind ≡ annotation → tokens ≡ tokens_from (at + length front) cs → HasKind kind tokens → IsRead at bytes (finished kind tokens fault)
finished_read at bytes front annotation cs kind tokens None first are annotated tokens_are has =
    record { sound = first; front = front; cuts = cs; pieces = subst (λ a. ArePiecesOf a bytes front cs) (sym annotated) are; tokens = tokens_are; kind = has }
finished_read at bytes front annotation cs kind tokens (Some fault) first are annotated tokens_are has = record { stands = first.0; first = first.1 }

kind_has : (tokens : List Token) → HasKind (kind_by tokens) tokens
kind_has [] = refl
kind_has (token ∷ tokens) = omega arith

kind_plain : (tokens : List Token) → is_annotation (kind_by tokens) ≡ false
kind_plain [] = refl
kind_plain (token ∷ tokens) = refl

pub line_read : (at : ℕ) (bytes : List ℕ) → IsRead at bytes (line_at at bytes)
unfolding line_at
line_read at bytes =
    cond_both (ltb 4096 (length bytes)) (Err LongLine) _ (IsRead at bytes)
    (λ long. record { stands = ltb-true 4096 (length bytes) long; first = λ kind lower. absurd (omega (arith, lower)) })
    (λ within. let short : length bytes ≤ 4096 = ltb-false 4096 (length bytes) within in
    cond_both (starts_with nat_eq (after_blanks bytes) (codes ";#")) _ _ (IsRead at bytes)
    (λ mark. marked_line short mark) (λ mark. plain_line short mark))
  where
    marked_line : length bytes ≤ 4096 → starts_with nat_eq (after_blanks bytes) (codes ";#") ≡ true → IsRead at bytes (annotation_of (at + prefix_len is_blank bytes + 2) (cuts true 0 (drop 2 (after_blanks bytes))))
    marked_line short mark =
        let skip = prefix_len is_blank bytes in
        let front = take skip bytes ++ codes ";#" in
        let cs = cuts true 0 (drop 2 (after_blanks bytes)) in
        let are = annotation_pieces bytes mark in
        let len : at + skip + 2 ≡ at + length front = omega (arith, length-append (take skip bytes) (codes ";#"), length-take-le skip bytes (prefix_len-le-length is_blank bytes)) in
        finished_read at bytes front true cs Annotation (tokens_from (at + skip + 2) cs) (fault_in true None cs) (fault_first bytes front true cs short are) are refl (ap (λ n. tokens_from n cs) len) tt

    plain_line : length bytes ≤ 4096 → starts_with nat_eq (after_blanks bytes) (codes ";#") ≡ false → IsRead at bytes (statement_of at (cuts false 0 bytes))
    plain_line short mark =
        let cs = cuts false 0 bytes in
        let are = statement_pieces bytes mark in
        let len : at ≡ at + 0 = omega arith in
        finished_read at bytes [] false cs (kind_by (tokens_from at cs)) (tokens_from at cs) (fault_in false None cs) (fault_first bytes [] false cs short are) are
        (kind_plain (tokens_from at cs)) (ap (λ n. tokens_from n cs) len) (kind_has (tokens_from at cs))

same_kind_of : (k j : LineKind) (tokens : List Token) → is_annotation k ≡ is_annotation j → HasKind k tokens → HasKind j tokens → k ≡ j
same_kind_of Annotation Annotation tokens e h g = refl
same_kind_of Statement Statement tokens e h g = refl
same_kind_of Empty Empty tokens e h g = refl
same_kind_of Annotation Statement tokens e h g = absurd cc
same_kind_of Annotation Empty tokens e h g = absurd cc
same_kind_of Statement Annotation tokens e h g = absurd cc
same_kind_of Empty Annotation tokens e h g = absurd cc
same_kind_of Statement Empty tokens e h g = absurd (omega (arith, h, ap length g))
same_kind_of Empty Statement tokens e h g = absurd (omega (arith, g, ap length h))

-- bytes are one line
pub one_line : (at : ℕ) (bytes : List ℕ) (one other : SourceLine) → IsLine at bytes one → IsLine at bytes other → one ≡ other
one_line at bytes one other h g =
    let same = one_pieces (is_annotation one.kind) (is_annotation other.kind) bytes h.front g.front h.cuts g.cuts h.pieces g.pieces in
    let tokens : one.tokens ≡ other.tokens = h.tokens ∙ ap (λ f. tokens_from (at + length f) h.cuts) same.1 ∙ ap (tokens_from (at + length g.front)) same.2 ∙ sym g.tokens in
    let kinds : one.kind ≡ other.kind = same_kind_of one.kind other.kind one.tokens same.0 h.kind (subst (HasKind other.kind) (sym tokens) g.kind) in
    λ i. record { kind = kinds i; tokens = tokens i }

pub one_fault_kind : (bytes : List ℕ) (k j : TextKind) → IsFaultOf bytes k → IsFaultOf bytes j → k ≡ j
one_fault_kind bytes LongLine LongLine h g = refl
one_fault_kind bytes BadByte BadByte h g = refl
one_fault_kind bytes OpenQuote OpenQuote h g = refl
one_fault_kind bytes BadNumber BadNumber h g = refl
one_fault_kind bytes LongLine BadByte h g = absurd (g.first LongLine (omega arith) h.stands)
one_fault_kind bytes LongLine OpenQuote h g = absurd (g.first LongLine (omega arith) h.stands)
one_fault_kind bytes LongLine BadNumber h g = absurd (g.first LongLine (omega arith) h.stands)
one_fault_kind bytes BadByte OpenQuote h g = absurd (g.first BadByte (omega arith) h.stands)
one_fault_kind bytes BadByte BadNumber h g = absurd (g.first BadByte (omega arith) h.stands)
one_fault_kind bytes OpenQuote BadNumber h g = absurd (g.first OpenQuote (omega arith) h.stands)
one_fault_kind bytes BadByte LongLine h g = absurd (h.first LongLine (omega arith) g.stands)
one_fault_kind bytes OpenQuote LongLine h g = absurd (h.first LongLine (omega arith) g.stands)
one_fault_kind bytes BadNumber LongLine h g = absurd (h.first LongLine (omega arith) g.stands)
one_fault_kind bytes OpenQuote BadByte h g = absurd (h.first BadByte (omega arith) g.stands)
one_fault_kind bytes BadNumber BadByte h g = absurd (h.first BadByte (omega arith) g.stands)
one_fault_kind bytes BadNumber OpenQuote h g = absurd (h.first OpenQuote (omega arith) g.stands)

-- ---- END lines

letter_e : (byte : ℕ) → to_ascii_uppercase byte ≡ 69 → is_name_start byte ≡ true
letter_e byte =
    cond_both (ltb byte 97) byte _ (λ c. c ≡ 69 → is_name_start byte ≡ true) (λ _ e. ap is_name_start e)
    (λ high. cond_both (ltb byte 123) (byte - 32) byte (λ c. c ≡ 69 → is_name_start byte ≡ true)
    (λ _ e. let is : byte ≡ 101 = omega (arith, e, ltb-false byte 97 high) in ap is_name_start is) (λ _ e. ap is_name_start e))

start_in_name : (byte : ℕ) → is_name_start byte ≡ true → is_name_byte byte ≡ true
start_in_name byte start = ap (λ b. b || is_ascii_digit byte) start

first_word : (after : List ℕ) → folded (take (prefix_len is_name_byte after) after) ≡ codes "END" → IsLongest false Name (take (prefix_len is_name_byte after) after) (drop (prefix_len is_name_byte after) after)
first_word [] = λ e. absurd cc
first_word (byte ∷ after) =
    cond_both (is_name_byte byte) (1 + prefix_len is_name_byte after) 0 (λ n. folded (take n (byte ∷ after)) ≡ codes "END" → IsLongest false Name (take n (byte ∷ after)) (drop n (byte ∷ after)))
    (λ _. starts (prefix_len is_name_byte after) refl) (λ _ e. absurd cc)
  where
    starts : (n : ℕ) → n ≡ prefix_len is_name_byte after → folded (take (1 + n) (byte ∷ after)) ≡ codes "END" → IsLongest false Name (take (1 + n) (byte ∷ after)) (drop (1 + n) (byte ∷ after))
    starts n is =
        let s : suc n ≡ 1 + n = omega arith in
        subst (λ k. folded (take k (byte ∷ after)) ≡ codes "END" → IsLongest false Name (take k (byte ∷ after)) (drop k (byte ∷ after))) s
        (λ e. subst (λ k. IsLongest false Name (byte ∷ take k after) (drop k after)) (sym is) (word_longest false byte after (letter_e byte (ap head_of e))))

pub end_line : (bytes : List ℕ) → is_end_line bytes ≡ true → IsEndLine bytes
end_line bytes e =
    let skip = prefix_len is_blank bytes in
    let after = after_blanks bytes in
    let n = prefix_len is_name_byte after in
    let says : folded (take n after) ≡ codes "END" = same_texts (folded (take n after)) (codes "END") e in
    record {
      blanks = take skip bytes;
      word = take n after;
      rest = drop n after;
      whole = sym (take-append-drop skip bytes) ∙ ap (λ t. take skip bytes ++ t) (sym (take-append-drop n after));
      blank = list_all-prefix is_blank bytes;
      first = first_word after says;
      says = says;
    }

not_true : (b : Bool) → (b ≡ true → ⊥) → b ≡ false
not_true true h = absurd (h refl)
not_true false h = refl

no_blank_word : (byte : ℕ) → is_name_start byte ≡ true → is_blank byte ≡ false
no_blank_word byte start =
    not_true (is_blank byte) (λ blank. let c : class byte ≡ 0 = rw blank refl in omega (arith, c, word_class byte start))

word_is : (word rest : List ℕ) → IsLongest false Name word rest → take (prefix_len is_name_byte (word ++ rest)) (word ++ rest) ≡ word
word_is [] rest h = absurd h.form
word_is (byte ∷ word) rest h =
    let bytes = word ++ rest in
    let n = prefix_len is_name_byte bytes in
    let same = one_token false Name Name (byte ∷ take n bytes) (drop n bytes) (byte ∷ word) rest (word_longest false byte bytes h.form.0) h (ap (λ t. byte ∷ t) (take-append-drop n bytes)) in
    let len : prefix_len is_name_byte (byte ∷ bytes) ≡ suc n = rw (start_in_name byte h.form.0) (omega arith) in
    ap (λ k. take k (byte ∷ bytes)) len ∙ same.1

after_word : (blanks word rest : List ℕ) → list_all is_blank blanks ≡ true → IsLongest false Name word rest → after_blanks (blanks ++ (word ++ rest)) ≡ word ++ rest
after_word blanks [] rest all h = absurd h.form
after_word blanks (byte ∷ word) rest all h = prefix_stops is_blank blanks (word ++ rest) byte all (no_blank_word byte h.form.0)

pub is_end : (bytes : List ℕ) → IsEndLine bytes → is_end_line bytes ≡ true
is_end bytes h =
    let after : after_blanks bytes ≡ h.word ++ h.rest = ap after_blanks h.whole ∙ after_word h.blanks h.word h.rest h.blank h.first in
    let word : take (prefix_len is_name_byte (after_blanks bytes)) (after_blanks bytes) ≡ h.word = ap (λ t. take (prefix_len is_name_byte t) t) after ∙ word_is h.word h.rest h.first in
    ap (λ t. pointwise nat_eq (folded t) (codes "END")) word ∙ ap (λ t. pointwise nat_eq t (codes "END")) h.says

pub no_end : (bytes : List ℕ) → is_end_line bytes ≡ false → ¬ IsEndLine bytes
no_end bytes e h = true_false (sym (is_end bytes h) ∙ e)
