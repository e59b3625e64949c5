-- The pieces of a line: those that the code finds are its pieces, and a line has no others.
use Rattle.std.proofs.Common.{◌≡◌, ℕ, zero, suc, ◌+◌, ◌<◌, ◌≤◌, Bool, true, false, cond, List, [], ◌∷◌, ◌++◌, length, take, drop, Option, Some, None, refl, sym, ap, subst, ◌∙◌, arith, length-drop, length-append}
use Rattle.std.specs.Prelude.{◌||◌, ◌==◌, IsFalse}
use Rattle.std.specs.List.{prefix_len}
use Rattle.std.specs.Char.{is_ascii_digit, is_ascii_alphanumeric}
use Rattle.std.proofs.lemmas.Bool.{eqb-true, cond_both}
use Rattle.std.proofs.lemmas.List.{take-append-drop, take_all, drop_all, append-nil, append_cancel_left, length-take}
use Rattle.sp_lex.specs.declared.token.TokenKind.{TokenKind}
use Rattle.sp_lex.specs.declared.token.TokenKind.TheVariants.{Name, Number, Text, Symbol}
use Rattle.sp_lex.specs.declared.pieces.PieceKind.{PieceKind}
use Rattle.sp_lex.specs.declared.pieces.PieceKind.TheVariants as pieces
use Rattle.sp_lex.specs.declared.pieces.Piece.{Piece}
use Rattle.sp_lex.specs.Bytes.{is_blank, is_name_start, is_name_byte}
use Rattle.sp_lex.specs.Tokens.{IsLongest, BeginsNoToken}
use Rattle.sp_lex.specs.Pieces.{Cut, IsPiece, AreCut}
use Rattle.sp_lex.specs.code.Pieces.{piece, piece_at, text_piece, symbol_piece, text_rest, symbol_len, cuts}
use Rattle.sp_lex.proofs.CutLemmas.{cuts-first}
use Rattle.sp_lex.proofs.FormLemmas.{class, class_of, head_of, form_class, form_some, same_kind, word_longest, numeral_longest, text_longest, no_text, symbol_longest, no_symbol}

-- ---- the pieces that the code finds

-- bytes begin with a piece
abbrev Begins : Bool → List ℕ → Piece → Type 0
Begins annotation bytes p = IsPiece annotation p.kind (take p.len bytes) (drop p.len bytes)

begins_after : (annotation : Bool) (kind : PieceKind) (n : ℕ) (byte : ℕ) (bytes : List ℕ) → IsPiece annotation kind (byte ∷ take n bytes) (drop n bytes) → Begins annotation (byte ∷ bytes) (piece kind (1 + n))
begins_after annotation kind n byte bytes h =
    let e : suc n ≡ 1 + n = omega arith in
    subst (λ k. IsPiece annotation kind (take k (byte ∷ bytes)) (drop k (byte ∷ bytes))) e h

begins_comment : (annotation : Bool) (byte : ℕ) (bytes : List ℕ) → byte ≡ 59 → Begins annotation (byte ∷ bytes) (piece pieces.Comment (1 + length bytes))
begins_comment annotation byte bytes e =
    begins_after annotation pieces.Comment (length bytes) byte bytes
    (bytes, ap (λ b. b ∷ take (length bytes) bytes) e ∙ ap (λ rest. 59 ∷ rest) (take_all (length bytes) bytes (omega arith)), drop_all (length bytes) bytes (omega arith))

begins_text : (annotation : Bool) (byte : ℕ) (bytes : List ℕ) (len : Option ℕ) → byte ≡ 39 → text_rest bytes ≡ len → Begins annotation (byte ∷ bytes) (text_piece len bytes)
begins_text annotation byte bytes (Some n) quote is =
    begins_after annotation (pieces.Token Text) n byte bytes
    (subst (λ b. IsLongest annotation Text (b ∷ take n bytes) (drop n bytes)) (sym quote) (text_longest annotation bytes n is))
begins_text annotation byte bytes None quote is =
    let all : byte ∷ take (length bytes) bytes ≡ 39 ∷ bytes = ap (λ b. b ∷ take (length bytes) bytes) quote ∙ ap (λ rest. 39 ∷ rest) (take_all (length bytes) bytes (omega arith)) in
    begins_after annotation pieces.OpenText (length bytes) byte bytes
    (bytes, all, drop_all (length bytes) bytes (omega arith), subst (BeginsNoToken annotation) (sym all) (no_text annotation bytes is))

begins_symbol : (annotation : Bool) (byte : ℕ) (bytes : List ℕ) (len : ℕ) → class byte ≡ 5 → (is_blank byte || (byte == 59 || byte == 39)) ≡ false → symbol_len annotation (byte ∷ bytes) ≡ len
    → Begins annotation (byte ∷ bytes) (symbol_piece len)
begins_symbol annotation byte bytes (suc len) other plain is = symbol_longest annotation (byte ∷ bytes) len is
begins_symbol annotation byte bytes zero other plain is = (byte, refl, plain, no_symbol annotation byte bytes other is)

pub piece_at-begins : (annotation : Bool) (byte : ℕ) (bytes : List ℕ) → Begins annotation (byte ∷ bytes) (piece_at annotation (byte ∷ bytes))
unfolding piece_at
piece_at-begins annotation byte bytes =
    cond_both (is_blank byte) _ _ (Begins annotation (byte ∷ bytes)) (λ blank. (byte, refl, blank))
    (λ blank. cond_both (byte == 59) _ _ (Begins annotation (byte ∷ bytes)) (λ e. begins_comment annotation byte bytes (eqb-true byte 59 e))
    (λ comment. cond_both (is_name_start byte) _ _ (Begins annotation (byte ∷ bytes))
    (λ start. begins_after annotation (pieces.Token Name) (prefix_len is_name_byte bytes) byte bytes (word_longest annotation byte bytes start))
    (λ start. cond_both (is_ascii_digit byte) _ _ (Begins annotation (byte ∷ bytes))
    (λ digit. begins_after annotation (pieces.Token Number) (prefix_len is_ascii_alphanumeric bytes) byte bytes (numeral_longest annotation byte bytes digit))
    (λ digit. cond_both (byte == 39) _ _ (Begins annotation (byte ∷ bytes)) (λ e. begins_text annotation byte bytes (text_rest bytes) (eqb-true byte 39 e) refl)
    (λ quote. begins_symbol annotation byte bytes (symbol_len annotation (byte ∷ bytes)) (rw (blank, comment, start, digit, quote) refl) (rw (blank, comment, quote) refl) refl)))))

pub piece_some : (annotation : Bool) (kind : PieceKind) (text rest : List ℕ) → IsPiece annotation kind text rest → 0 < length text
piece_some annotation kind (byte ∷ text) rest h = omega arith
piece_some annotation pieces.Blank [] rest h = absurd (let e = h.1 in cc)
piece_some annotation pieces.Comment [] rest h = absurd (let e = h.1 in cc)
piece_some annotation (pieces.Token kind) [] rest h = absurd (form_some annotation kind h.form)
piece_some annotation pieces.OpenText [] rest h = absurd (let e = h.1 in cc)
piece_some annotation pieces.Stray [] rest h = absurd (let e = h.1 in cc)

cut_within : (fuel : ℕ) (annotation : Bool) (bytes : List ℕ) → length bytes ≤ fuel → AreCut annotation bytes (cuts annotation 0 bytes)
unfolding cuts
cut_within fuel annotation [] le = refl
cut_within zero annotation (byte ∷ bytes) le = absurd (omega arith)
cut_within (suc fuel) annotation (byte ∷ bytes) le =
    let p = piece_at annotation (byte ∷ bytes) in
    let begins = piece_at-begins annotation byte bytes in
    let some : 0 < length (take p.len (byte ∷ bytes)) = piece_some annotation p.kind (take p.len (byte ∷ bytes)) (drop p.len (byte ∷ bytes)) begins in
    let pos : 0 < p.len = omega (arith, some, length-take p.len (byte ∷ bytes)) in
    let first = cuts-first annotation p.len (byte ∷ bytes) refl (omega arith) pos in
    let short : length (drop p.len (byte ∷ bytes)) ≤ fuel = omega (arith, length-drop {A = ℕ} p.len (byte ∷ bytes)) in
    subst (AreCut annotation (byte ∷ bytes)) (sym first)
    (drop p.len (byte ∷ bytes), sym (take-append-drop p.len (byte ∷ bytes)), begins, cut_within fuel annotation (drop p.len (byte ∷ bytes)) short)

pub cuts_are : (annotation : Bool) (bytes : List ℕ) → AreCut annotation bytes (cuts annotation 0 bytes)
cuts_are annotation bytes = cut_within (length bytes) annotation bytes (omega arith)

-- ---- there are no others

-- blanks, the semicolon, and all other bytes
abbrev part : ℕ → ℕ
part byte = cond (is_blank byte) 0 (cond (byte == 59) 1 2)

abbrev part_of : PieceKind → ℕ
part_of pieces.Blank = 0
part_of pieces.Comment = 1
part_of (pieces.Token kind) = 2
part_of pieces.OpenText = 2
part_of pieces.Stray = 2

part_by_class : (byte n : ℕ) → 2 ≤ n → class byte ≡ n → part byte ≡ 2
part_by_class byte n le is =
    cond_both (is_blank byte) 0 _ (λ k. k ≡ 2) (λ e. let c : class byte ≡ 0 = rw e refl in absurd (omega arith))
    (λ e. cond_both (byte == 59) 1 2 (λ k. k ≡ 2) (λ g. let c : class byte ≡ 1 = rw (e, g) refl in absurd (omega arith)) (λ _. refl))

class_large : (kind : TokenKind) → 2 ≤ class_of kind
class_large Name = omega arith
class_large Number = omega arith
class_large Text = omega arith
class_large Symbol = omega arith

stray_part : (byte : ℕ) → IsFalse (is_blank byte || (byte == 59 || byte == 39)) → part byte ≡ 2
stray_part byte plain =
    cond_both (is_blank byte) 0 _ (λ k. k ≡ 2) (λ e. absurd (let f : true ≡ false = ap (λ b. b || (byte == 59 || byte == 39)) (sym e) ∙ plain in cc))
    (λ e. cond_both (byte == 59) 1 2 (λ k. k ≡ 2) (λ g. absurd (let f : true ≡ false = ap (λ b. false || (b || byte == 39)) (sym g) ∙ ap (λ b. b || (byte == 59 || byte == 39)) (sym e) ∙ plain in cc)) (λ _. refl))

piece_part : (annotation : Bool) (kind : PieceKind) (text rest : List ℕ) → IsPiece annotation kind text rest → part (head_of text) ≡ part_of kind
piece_part annotation pieces.Blank text rest h = ap (λ t. part (head_of t)) h.1 ∙ (rw h.2 refl)
piece_part annotation pieces.Comment text rest h = ap (λ t. part (head_of t)) h.1
piece_part annotation (pieces.Token kind) [] rest h = absurd (form_some annotation kind h.form)
piece_part annotation (pieces.Token kind) (byte ∷ text) rest h = part_by_class byte (class_of kind) (class_large kind) (form_class annotation kind byte text h.form)
piece_part annotation pieces.OpenText text rest h = ap (λ t. part (head_of t)) h.1
piece_part annotation pieces.Stray text rest h = ap (λ t. part (head_of t)) h.1 ∙ stray_part h.0 h.2

same_head : (annotation : Bool) (k j : PieceKind) (one rest other after : List ℕ) → IsPiece annotation k one rest → IsPiece annotation j other after → one ++ rest ≡ other ++ after → head_of one ≡ head_of other
same_head annotation k j [] rest other after h g e = absurd (let n = piece_some annotation k [] rest h in omega (arith, n))
same_head annotation k j (byte ∷ one) rest [] after h g e = absurd (let n = piece_some annotation j [] after g in omega (arith, n))
same_head annotation k j (byte ∷ one) rest (first ∷ other) after h g e = ap head_of e

same_part : (annotation : Bool) (k j : PieceKind) (one rest other after : List ℕ) → IsPiece annotation k one rest → IsPiece annotation j other after → one ++ rest ≡ other ++ after → part_of k ≡ part_of j
same_part annotation k j one rest other after h g e =
    sym (piece_part annotation k one rest h) ∙ ap part (same_head annotation k j one rest other after h g e) ∙ piece_part annotation j other after g

-- as long as another front of the same bytes
same_front : (one other rest after : List ℕ) → one ++ rest ≡ other ++ after → length one ≡ length other → one ≡ other
same_front [] [] rest after e len = refl
same_front [] (byte ∷ other) rest after e len = absurd (omega arith)
same_front (byte ∷ one) [] rest after e len = absurd (omega arith)
same_front (a ∷ one) (b ∷ other) rest after e len =
    ap (λ x. x ∷ one) (ap head_of e) ∙ ap (λ t. b ∷ t) (same_front one other rest after (ap (drop 1) e) (omega arith))

whole_front : (one other rest after : List ℕ) → one ++ rest ≡ other ++ after → rest ≡ [] → after ≡ [] → one ≡ other
whole_front one other rest after e none end =
    sym (append-nil one) ∙ ap (λ r. one ++ r) (sym none) ∙ e ∙ ap (λ r. other ++ r) end ∙ append-nil other

-- bytes begin with one piece
abbrev Same : PieceKind → List ℕ → PieceKind → List ℕ → Type 0
Same k one j other = (k ≡ j) × (one ≡ other)

one_byte : (one other : List ℕ) (a b : ℕ) → one ≡ a ∷ [] → other ≡ b ∷ [] → head_of one ≡ head_of other → one ≡ other
one_byte one other a b h g e = h ∙ ap (λ x. x ∷ []) (sym (ap head_of h) ∙ e ∙ ap head_of g) ∙ sym g

pub one_token : (annotation : Bool) (k j : TokenKind) (one rest other after : List ℕ) → IsLongest annotation k one rest → IsLongest annotation j other after → one ++ rest ≡ other ++ after
    → Same (pieces.Token k) one (pieces.Token j) other
one_token annotation k j one rest other after h g e =
    let long : length one ≤ length other = g.longest k one rest e h.form in
    let longer : length other ≤ length one = h.longest j other after (sym e) g.form in
    (ap (λ kind. pieces.Token kind) (same_kind annotation k j one rest other after h.form g.form e), same_front one other rest after e (omega arith))

token_or_open : (annotation : Bool) (k : TokenKind) (one rest other after : List ℕ) → IsLongest annotation k one rest → after ≡ [] → BeginsNoToken annotation other → one ++ rest ≡ other ++ after → ⊥
token_or_open annotation k one rest other after h none begins e = begins k one rest (e ∙ ap (λ r. other ++ r) none ∙ append-nil other) h.form

token_or_stray : (annotation : Bool) (k : TokenKind) (one rest other after : List ℕ) (byte : ℕ) → IsLongest annotation k one rest → other ≡ byte ∷ [] → BeginsNoToken annotation (byte ∷ after) → one ++ rest ≡ other ++ after → ⊥
token_or_stray annotation k one rest other after byte h is begins e = begins k one rest (e ∙ ap (λ t. t ++ after) is) h.form

open_or_stray : (one other opened : List ℕ) (byte : ℕ) → one ≡ 39 ∷ opened → other ≡ byte ∷ [] → IsFalse (is_blank byte || (byte == 59 || byte == 39)) → head_of one ≡ head_of other → ⊥
open_or_stray one other opened byte h g plain e =
    let quote : 39 ≡ byte = sym (ap head_of h) ∙ e ∙ ap head_of g in
    let f : true ≡ false = subst (λ b. IsFalse (is_blank b || (b == 59 || b == 39))) (sym quote) plain in
    cc

pub one_piece : (annotation : Bool) (k j : PieceKind) (one rest other after : List ℕ) → IsPiece annotation k one rest → IsPiece annotation j other after → one ++ rest ≡ other ++ after → Same k one j other
one_piece annotation pieces.Blank pieces.Blank one rest other after h g e = (refl, one_byte one other h.0 g.0 h.1 g.1 (same_head annotation pieces.Blank pieces.Blank one rest other after h g e))
one_piece annotation pieces.Comment pieces.Comment one rest other after h g e = (refl, whole_front one other rest after e h.2 g.2)
one_piece annotation (pieces.Token k) (pieces.Token j) one rest other after h g e = one_token annotation k j one rest other after h g e
one_piece annotation pieces.OpenText pieces.OpenText one rest other after h g e = (refl, whole_front one other rest after e h.2 g.2)
one_piece annotation pieces.Stray pieces.Stray one rest other after h g e = (refl, one_byte one other h.0 g.0 h.1 g.1 (same_head annotation pieces.Stray pieces.Stray one rest other after h g e))
one_piece annotation (pieces.Token k) pieces.OpenText one rest other after h g e = absurd (token_or_open annotation k one rest other after h g.2 g.3 e)
one_piece annotation (pieces.Token k) pieces.Stray one rest other after h g e = absurd (token_or_stray annotation k one rest other after g.0 h g.1 g.3 e)
one_piece annotation pieces.OpenText (pieces.Token j) one rest other after h g e = absurd (token_or_open annotation j other after one rest g h.2 h.3 (sym e))
one_piece annotation pieces.Stray (pieces.Token j) one rest other after h g e = absurd (token_or_stray annotation j other after one rest h.0 g h.1 h.3 (sym e))
one_piece annotation pieces.OpenText pieces.Stray one rest other after h g e = absurd (open_or_stray one other h.0 g.0 h.1 g.1 g.2 (same_head annotation pieces.OpenText pieces.Stray one rest other after h g e))
one_piece annotation pieces.Stray pieces.OpenText one rest other after h g e = absurd (open_or_stray other one g.0 h.0 g.1 h.1 h.2 (sym (same_head annotation pieces.Stray pieces.OpenText one rest other after h g e)))
one_piece annotation k j one rest other after h g e = absurd (let n = same_part annotation k j one rest other after h g e in cc)

same_cut : (c d : Cut) → c.kind ≡ d.kind → c.text ≡ d.text → c ≡ d
same_cut c d kind text = λ i. record { kind = kind i; text = text i }

-- bytes have one list of pieces
pub one_cutting : (annotation : Bool) (bytes : List ℕ) (cs ds : List Cut) → AreCut annotation bytes cs → AreCut annotation bytes ds → cs ≡ ds
one_cutting annotation bytes [] [] h g = refl
one_cutting annotation bytes [] (d ∷ ds) h g =
    let some = piece_some annotation d.kind d.text g.0 g.2 in
    absurd (omega (arith, some, ap length (sym h ∙ g.1), length-append d.text g.0))
one_cutting annotation bytes (c ∷ cs) [] h g =
    let some = piece_some annotation c.kind c.text h.0 h.2 in
    absurd (omega (arith, some, ap length (sym g ∙ h.1), length-append c.text h.0))
one_cutting annotation bytes (c ∷ cs) (d ∷ ds) h g =
    let same = one_piece annotation c.kind d.kind c.text h.0 d.text g.0 h.2 g.2 (sym h.1 ∙ g.1) in
    let rests : h.0 ≡ g.0 = append_cancel_left c.text h.0 g.0 (sym h.1 ∙ g.1 ∙ ap (λ t. t ++ g.0) (sym same.1)) in
    ap (λ x. x ∷ cs) (same_cut c d same.0 same.1) ∙ ap (λ xs. d ∷ xs) (one_cutting annotation g.0 cs ds (subst (λ r. AreCut annotation r cs) rests h.3) g.3)
