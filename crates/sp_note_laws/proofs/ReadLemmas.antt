-- Texts that are read as words, piece by piece from the left.
use Rattle.std.proofs.Common.{◌≡◌, ℕ, zero, suc, ◌+◌, ◌-◌, ◌*◌, ◌/◌, ◌%◌, ◌^◌, ◌<◌, ◌≤◌, Bool, true, false, cond, List, [], ◌∷◌, ◌++◌, length, get_or, take, drop, Option, Some, None, refl, sym, ap, subst, ◌∙◌, inl, inr, arith, append_assoc, length-append}
use Rattle.std.specs.Prelude.{nat_lt, nat_le, nat_eq, is_some, map, decimal, All, codes}
use Rattle.std.specs.Option.{option_map}
use Rattle.std.specs.List.{list_all, prefix_len, slice_range}
use Rattle.std.specs.Char.{is_ascii_digit, is_ascii_alphanumeric, to_ascii_uppercase}
use Rattle.std.proofs.lemmas.Bool.{cases_Bool}
use Rattle.std.proofs.lemmas.Bool.Decides.{nat_tests}
use Rattle.std.proofs.lemmas.Fmt.{decimal_by_steps}
use Rattle.std.proofs.Math.Seq.{drop-append_seam, take-append_seam}
use Rattle.sp_lex.specs.declared.refusal.TextKind.{TextKind}
use Rattle.sp_lex.specs.declared.refusal.TextKind.TheVariants.{LongLine, BadByte, OpenQuote, BadNumber}
use Rattle.sp_lex.specs.declared.token.Token.{Token}
use Rattle.sp_lex.specs.declared.token.TokenKind.{TokenKind}
use Rattle.sp_lex.specs.declared.token.TokenKind.TheVariants.{Name, Number, Symbol}
use Rattle.sp_lex.specs.declared.pieces.PieceKind.{PieceKind}
use Rattle.sp_lex.specs.declared.pieces.PieceKind.TheVariants as pieces
use Rattle.sp_lex.specs.Bytes.{is_name_start, is_name_byte}
use Rattle.sp_lex.specs.Numbers.{digit_of, suffix_base, value_from, number_of, at_most}
use Rattle.sp_lex.specs.Tokens.{IsLongest}
use Rattle.sp_lex.specs.Pieces.{Cut, AreCut, token_of, tokens_from, Breaks, SomeBreaks}
use Rattle.sp_lex.specs.code.Pieces.{symbol_len}
use Rattle.sp_lex.proofs.FormLemmas.{both, word_longest, numeral_longest, symbol_longest}
use Rattle.sp_logic.specs.WellFormed.{IsNameStart, IsNameByte, IsBoundName}
use Rattle.sp_words.specs.declared.annotation.AnnotationWord.{AnnotationWord}
use Rattle.sp_words.specs.code.Tables.{annotation_word_named, is_annotation_word, is_reserved}
use Rattle.sp_words.specs.declared.annotation.AnnotationWord.TheVariants as annotation
use Rattle.sp_words.proofs.AnnotationLemmas.{annotation_exact, is_annotation_exact}
use Rattle.sp_words.proofs.ReservedLemmas.{reserved_exact}
use Rattle.sp_note.specs.declared.word.Word.{Word}
use Rattle.sp_note.specs.declared.word.Word.TheVariants as words
use Rattle.sp_note.specs.Words.{word_of, words_of, with_word, name_word, or_plain}

-- ---- words of pieces

abbrev pub piece_word : PieceKind → List ℕ → Option (List Word) → Option (List Word)
piece_word (pieces.Token kind) text rest = with_word (word_of kind text) rest
piece_word pieces.Blank text rest = rest
piece_word pieces.Comment text rest = rest
piece_word pieces.OpenText text rest = rest
piece_word pieces.Stray text rest = rest

abbrev pub cut_words : List Cut → Option (List Word)
cut_words [] = Some []
cut_words (c ∷ cs) = piece_word c.kind c.text (cut_words cs)

slice_at : (front text back : List ℕ) → slice_range (front ++ (text ++ back)) (length front) (length front + length text) ≡ text
slice_at front text back =
    let n : length front + length text - length front ≡ length text = omega arith in
    ap (λ k. take k (drop (length front) (front ++ (text ++ back)))) n ∙ ap (take (length text)) (drop-append_seam front (text ++ back)) ∙ take-append_seam text back

-- a piece gives its token's word, and those after it theirs
first_word : (source : List ℕ) (kind : PieceKind) (start end : ℕ) (text : List ℕ) (tokens : List Token) (rest : Option (List Word)) → slice_range source start end ≡ text → words_of source tokens ≡ rest
    → words_of source (token_of kind start end ++ tokens) ≡ piece_word kind text rest
unfolding words_of
first_word source (pieces.Token kind) start end text tokens rest at e = ap (λ t. with_word (word_of kind t) (words_of source tokens)) at ∙ ap (with_word (word_of kind text)) e
first_word source pieces.Blank start end text tokens rest at e = e
first_word source pieces.Comment start end text tokens rest at e = e
first_word source pieces.OpenText start end text tokens rest at e = e
first_word source pieces.Stray start end text tokens rest at e = e

pub token_words : (at : ℕ) (source front bytes : List ℕ) (cs : List Cut) → source ≡ front ++ bytes → length front ≡ at → AreCut true bytes cs → words_of source (tokens_from at cs) ≡ cut_words cs
unfolding words_of tokens_from
token_words at source front bytes [] whole len h = refl
token_words at source front bytes (c ∷ cs) whole len h =
    let rest = h.0 in
    let parts : source ≡ front ++ (c.text ++ rest) = whole ∙ ap (λ b. front ++ b) h.1 in
    let next : source ≡ (front ++ c.text) ++ rest = parts ∙ sym (append_assoc front c.text rest) in
    let slice : slice_range source at (at + length c.text) ≡ c.text =
    ap (λ k. slice_range source k (k + length c.text)) (sym len) ∙ ap (λ s. slice_range s (length front) (length front + length c.text)) parts ∙ slice_at front c.text rest in
    first_word source c.kind at (at + length c.text) c.text (tokens_from (at + length c.text) cs) (cut_words cs) slice
    (token_words (at + length c.text) source (front ++ c.text) rest cs next (omega (arith, len, length-append front c.text)) h.3)

-- a text that is cut into pieces of these words, none of which breaks a rule
pub record Reads (text : List ℕ) (ws : List Word) : Type 0 where
  pub cuts : List Cut
  pub cut : AreCut true text cuts
  pub sound : (kind : TextKind) → ¬ SomeBreaks true cuts kind
  pub words : cut_words cuts ≡ Some ws

pub done : Reads [] []
done = record { cuts = []; cut = refl; sound = λ k h. h; words = refl }

sound_blank : (text : List ℕ) (k : TextKind) → ¬ Breaks true pieces.Blank text k
sound_blank text LongLine h = h
sound_blank text BadByte h = h
sound_blank text OpenQuote h = h
sound_blank text BadNumber h = h

pub blank : (rest : List ℕ) (ws : List Word) → Reads rest ws → Reads (32 ∷ rest) ws
blank rest ws r = record {
  cuts = record { kind = pieces.Blank; text = 32 ∷ [] } ∷ r.cuts;
  cut = (rest, refl, (32, refl, refl), r.cut);
  sound = λ k h. elim h [ inl here ↦ sound_blank (32 ∷ []) k here | inr later ↦ r.sound k later ];
  words = r.words;
}

token : (kind : TokenKind) (text rest : List ℕ) (w : Word) (ws : List Word) → IsLongest true kind text rest → ((k : TextKind) → ¬ Breaks true (pieces.Token kind) text k) → word_of kind text ≡ Some w → Reads rest ws
    → Reads (text ++ rest) (w ∷ ws)
token kind text rest w ws long sound is r = record {
  cuts = record { kind = pieces.Token kind; text = text } ∷ r.cuts;
  cut = (rest, refl, long, r.cut);
  sound = λ k h. elim h [ inl here ↦ sound k here | inr later ↦ r.sound k later ];
  words = ap (λ v. with_word v (cut_words r.cuts)) is ∙ ap (with_word (Some w)) r.words;
}

-- ---- symbols

sound_symbol : (text : List ℕ) (k : TextKind) → ¬ Breaks true (pieces.Token Symbol) text k
sound_symbol text LongLine h = h
sound_symbol text BadByte h = h
sound_symbol text OpenQuote h = h
sound_symbol text BadNumber h = h

pub symbol : (a : ℕ) (rest : List ℕ) (w : Word) (ws : List Word) → symbol_len true (a ∷ rest) ≡ 1 → word_of Symbol (a ∷ []) ≡ Some w → Reads rest ws → Reads (a ∷ rest) (w ∷ ws)
symbol a rest w ws len is r = token Symbol (a ∷ []) rest w ws (symbol_longest true (a ∷ rest) 0 len) (sound_symbol (a ∷ [])) is r

pub symbol_two : (a b : ℕ) (rest : List ℕ) (w : Word) (ws : List Word) → symbol_len true (a ∷ b ∷ rest) ≡ 2 → word_of Symbol (a ∷ b ∷ []) ≡ Some w → Reads rest ws → Reads (a ∷ b ∷ rest) (w ∷ ws)
symbol_two a b rest w ws len is r = token Symbol (a ∷ b ∷ []) rest w ws (symbol_longest true (a ∷ b ∷ rest) 1 len) (sound_symbol (a ∷ b ∷ [])) is r

pub symbol_three : (a b c : ℕ) (rest : List ℕ) (w : Word) (ws : List Word) → symbol_len true (a ∷ b ∷ c ∷ rest) ≡ 3 → word_of Symbol (a ∷ b ∷ c ∷ []) ≡ Some w → Reads rest ws
    → Reads (a ∷ b ∷ c ∷ rest) (w ∷ ws)
symbol_three a b c rest w ws len is r = token Symbol (a ∷ b ∷ c ∷ []) rest w ws (symbol_longest true (a ∷ b ∷ c ∷ rest) 2 len) (sound_symbol (a ∷ b ∷ c ∷ [])) is r

-- ---- words

-- no word and no number goes on here
abbrev pub Ends : List ℕ → Type 0
Ends rest = (prefix_len is_name_byte rest ≡ 0) × (prefix_len is_ascii_alphanumeric rest ≡ 0)

prefix_all : (p : ℕ → Bool) (text rest : List ℕ) → list_all p text ≡ true → prefix_len p rest ≡ 0 → prefix_len p (text ++ rest) ≡ length text
prefix_all p [] rest all stop = stop
prefix_all p (b ∷ text) rest all stop =
    let h = both (p b) (list_all p text) all in
    let here : prefix_len p (b ∷ (text ++ rest)) ≡ 1 + prefix_len p (text ++ rest) = rw h.0 refl in
    omega (arith, here, prefix_all p text rest h.1 stop)

word_long : (first : ℕ) (text rest : List ℕ) → is_name_start first ≡ true → list_all is_name_byte text ≡ true → prefix_len is_name_byte rest ≡ 0 → IsLongest true Name (first ∷ text) rest
word_long first text rest start all stop =
    subst (λ t. IsLongest true Name (first ∷ t) rest) (take-append_seam text rest)
    (subst (λ d. IsLongest true Name (first ∷ take (length text) (text ++ rest)) d) (drop-append_seam text rest)
    (subst (λ k. IsLongest true Name (first ∷ take k (text ++ rest)) (drop k (text ++ rest))) (prefix_all is_name_byte text rest all stop) (word_longest true first (text ++ rest) start)))

number_long : (first : ℕ) (text rest : List ℕ) → is_ascii_digit first ≡ true → list_all is_ascii_alphanumeric text ≡ true → prefix_len is_ascii_alphanumeric rest ≡ 0 → IsLongest true Number (first ∷ text) rest
number_long first text rest start all stop =
    subst (λ t. IsLongest true Number (first ∷ t) rest) (take-append_seam text rest)
    (subst (λ d. IsLongest true Number (first ∷ take (length text) (text ++ rest)) d) (drop-append_seam text rest)
    (subst (λ k. IsLongest true Number (first ∷ take k (text ++ rest)) (drop k (text ++ rest))) (prefix_all is_ascii_alphanumeric text rest all stop) (numeral_longest true first (text ++ rest) start)))

sound_word : (text : List ℕ) → length text ≤ 31 → (k : TextKind) → ¬ Breaks true (pieces.Token Name) text k
sound_word text le LongLine h = h
sound_word text le BadByte h = absurd (omega (arith, le, h))
sound_word text le OpenQuote h = h
sound_word text le BadNumber h = h

pub word : (first : ℕ) (text rest : List ℕ) (w : Word) (ws : List Word) → is_name_start first ≡ true → list_all is_name_byte text ≡ true → length (first ∷ text) ≤ 31 → word_of Name (first ∷ text) ≡ Some w → Ends rest
    → Reads rest ws → Reads (first ∷ (text ++ rest)) (w ∷ ws)
word first text rest w ws start all le is ends r = token Name (first ∷ text) rest w ws (word_long first text rest start all ends.0) (sound_word (first ∷ text) le) is r

-- ---- numbers

by_digits : (P : ℕ → Type 0) → P 0 → P 1 → P 2 → P 3 → P 4 → P 5 → P 6 → P 7 → P 8 → P 9 → (k : ℕ) → k < 10 → P k
by_digits P a b c d e f g h i j zero lt = a
by_digits P a b c d e f g h i j (suc zero) lt = b
by_digits P a b c d e f g h i j (suc (suc zero)) lt = c
by_digits P a b c d e f g h i j (suc (suc (suc zero))) lt = d
by_digits P a b c d e f g h i j (suc (suc (suc (suc zero)))) lt = e
by_digits P a b c d e f g h i j (suc (suc (suc (suc (suc zero))))) lt = f
by_digits P a b c d e f g h i j (suc (suc (suc (suc (suc (suc zero)))))) lt = g
by_digits P a b c d e f g h i j (suc (suc (suc (suc (suc (suc (suc zero))))))) lt = h
by_digits P a b c d e f g h i j (suc (suc (suc (suc (suc (suc (suc (suc zero)))))))) lt = i
by_digits P a b c d e f g h i j (suc (suc (suc (suc (suc (suc (suc (suc (suc zero))))))))) lt = j
by_digits P a b c d e f g h i j (suc (suc (suc (suc (suc (suc (suc (suc (suc (suc k)))))))))) lt = absurd (omega arith)

abbrev IsDigit : ℕ → Type 0
IsDigit k =
    (is_ascii_digit (48 + k) ≡ true) × (is_ascii_alphanumeric (48 + k) ≡ true) × (is_name_byte (48 + k) ≡ true) × (digit_of (48 + k) ≡ k) × (suffix_base (48 + k) ≡ None)
    × (nat_eq 62 (48 + k) ≡ false)

a_digit : (k : ℕ) → k < 10 → IsDigit k
a_digit k lt =
    by_digits IsDigit (refl, refl, refl, refl, refl, refl) (refl, refl, refl, refl, refl, refl) (refl, refl, refl, refl, refl, refl) (refl, refl, refl, refl, refl, refl) (refl, refl, refl, refl, refl, refl)
    (refl, refl, refl, refl, refl, refl) (refl, refl, refl, refl, refl, refl) (refl, refl, refl, refl, refl, refl) (refl, refl, refl, refl, refl, refl) (refl, refl, refl, refl, refl, refl) k lt

value_one : (v k : ℕ) → k < 10 → value_from 10 v ((48 + k) ∷ []) ≡ Some (v * 10 + k)
value_one v k lt =
    let d = (a_digit k lt).3 in
    let small : nat_lt (digit_of (48 + k)) 10 ≡ true = ap (λ x. nat_lt x 10) d ∙ (let e : nat_lt k 10 ≡ true = grind (arith, nat_tests) in e) in
    ap (λ b. cond b (Some (v * 10 + digit_of (48 + k))) None) small ∙ ap (λ x. Some (v * 10 + x)) d

value_more : (ds : List ℕ) (v m k : ℕ) → k < 10 → value_from 10 v ds ≡ Some m → value_from 10 v (ds ++ (48 + k) ∷ []) ≡ Some (m * 10 + k)
value_more [] v m k lt e = let same : v ≡ m = cc in ap (λ x. value_from 10 x ((48 + k) ∷ [])) same ∙ value_one m k lt
value_more (d ∷ ds) v m k lt e =
    elim (cases_Bool (nat_lt (digit_of d) 10)) [
      | inl small ↦ (let rest : value_from 10 (v * 10 + digit_of d) ds ≡ Some m = sym (ap (λ b. cond b (value_from 10 (v * 10 + digit_of d) ds) None) small) ∙ e in
          ap (λ b. cond b (value_from 10 (v * 10 + digit_of d) (ds ++ (48 + k) ∷ [])) None) small ∙ value_more ds (v * 10 + digit_of d) m k lt rest)
      | inr large ↦ absurd (let none : None ≡ Some m = sym (ap (λ b. cond b (value_from 10 (v * 10 + digit_of d) ds) None) large) ∙ e in cc)
    ]

last_is : (ds : List ℕ) (d : ℕ) → get_or (ds ++ d ∷ []) (length ds) 0 ≡ d
last_is [] d = refl
last_is (x ∷ ds) d = last_is ds d

-- digits of a number
pub record Numeral (n : ℕ) (ds : List ℕ) : Type 0 where
  pub first : ℕ
  pub rest : List ℕ
  pub whole : ds ≡ first ∷ rest
  pub digit : is_ascii_digit first ≡ true
  pub other : nat_eq 62 first ≡ false
  pub more : list_all is_ascii_alphanumeric rest ≡ true
  pub named : list_all is_name_byte ds ≡ true
  pub upper : map to_ascii_uppercase ds ≡ ds
  pub value : value_from 10 0 ds ≡ Some n
  pub len : (n < 10 → length ds ≤ 1) × (n < 100 → length ds ≤ 2) × (n < 1000 → length ds ≤ 3) × (n < 10000 → length ds ≤ 4) × (n < 100000 → length ds ≤ 5)
  pub last : suffix_base (get_or (first ∷ rest) (length rest) 0) ≡ None

numeral_one : (n : ℕ) → n < 10 → Numeral n ((48 + n) ∷ [])
numeral_one n lt =
    let d = a_digit n lt in
    let u : to_ascii_uppercase (48 + n) ≡ 48 + n = (let low : nat_lt (48 + n) 97 ≡ true = grind (arith, nat_tests) in rw low refl) in
    record { first = 48 + n; rest = []; whole = refl; digit = d.0; other = d.5; more = refl; named = rw d.2 refl; upper = ap (λ x. x ∷ []) u; value = value_one 0 n lt ∙ ap (λ v. Some v) (omega arith); len = (λ h. omega arith, λ h. omega arith, λ h. omega arith, λ h. omega arith, λ h. omega arith); last = d.4 }

all_more : (p : ℕ → Bool) (ds : List ℕ) (d : ℕ) → list_all p ds ≡ true → p d ≡ true → list_all p (ds ++ d ∷ []) ≡ true
all_more p [] d all is = rw is refl
all_more p (x ∷ ds) d all is = let h = both (p x) (list_all p ds) all in rw h.0 (all_more p ds d h.1 is)

map_more : (f : ℕ → ℕ) (ds : List ℕ) (d : ℕ) → map f ds ≡ ds → f d ≡ d → map f (ds ++ d ∷ []) ≡ ds ++ d ∷ []
map_more f [] d all is = ap (λ x. x ∷ []) is
map_more f (x ∷ ds) d all is =
    let head : f x ≡ x = ap (λ l. get_or l 0 0) all in
    ap (λ y. y ∷ map f (ds ++ d ∷ [])) head ∙ ap (λ l. x ∷ l) (map_more f ds d (ap (drop 1) all) is)

numeral_more : (n : ℕ) (ds : List ℕ) → 10 ≤ n → Numeral (n / 10) ds → Numeral n (ds ++ (48 + n % 10) ∷ [])
numeral_more n ds ten h =
    let k : n % 10 < 10 = omega arith in
    let d = a_digit (n % 10) k in
    let whole : n / 10 * 10 + n % 10 ≡ n = omega arith in
    let added : length (ds ++ (48 + n % 10) ∷ []) ≡ length ds + 1 = omega (arith, length-append ds ((48 + n % 10) ∷ [])) in
    let u : to_ascii_uppercase (48 + n % 10) ≡ 48 + n % 10 = (let low : nat_lt (48 + n % 10) 97 ≡ true = grind (arith, nat_tests, k) in rw low refl) in
    record {
      first = h.first;
      rest = h.rest ++ (48 + n % 10) ∷ [];
      whole = ap (λ l. l ++ (48 + n % 10) ∷ []) h.whole;
      digit = h.digit;
      other = h.other;
      more = all_more is_ascii_alphanumeric h.rest (48 + n % 10) h.more d.1;
      named = all_more is_name_byte ds (48 + n % 10) h.named d.2;
      upper = map_more to_ascii_uppercase ds (48 + n % 10) h.upper u;
      value = value_more ds 0 (n / 10) (n % 10) k h.value ∙ ap (λ v. Some v) whole;
      len = (
        λ lt. absurd (omega (arith, lt, ten)),
        λ lt. (let l = h.len.0 (omega (arith, lt)) in omega (arith, l, added)),
        λ lt. (let l = h.len.1 (omega (arith, lt)) in omega (arith, l, added)),
        λ lt. (let l = h.len.2 (omega (arith, lt)) in omega (arith, l, added)),
        λ lt. (let l = h.len.3 (omega (arith, lt)) in omega (arith, l, added)),
      );
      last = ap suffix_base (ap (λ i. get_or (h.first ∷ (h.rest ++ (48 + n % 10) ∷ [])) i 0) (let e : length (h.rest ++ (48 + n % 10) ∷ []) ≡ suc (length h.rest) = omega (arith, length-append h.rest ((48 + n % 10) ∷ [])) in e) ∙ last_is h.rest (48 + n % 10)) ∙ d.4;
    }

pub numeral : (n : ℕ) → n < 2 ^ 64 → Numeral n (decimal n)
numeral n lt = decimal_by_steps Numeral numeral_one numeral_more n lt

number_is : (n : ℕ) (first : ℕ) (rest : List ℕ) → is_ascii_digit first ≡ true → suffix_base (get_or (first ∷ rest) (length rest) 0) ≡ None → value_from 10 0 (first ∷ rest) ≡ Some n → number_of (first ∷ rest) ≡ Some n
unfolding number_of
number_is n first rest digit last value = rw (digit, last) value

limited : (n : ℕ) → n < 2 ^ 63 → at_most 9223372036854775807 (Some n) ≡ Some n
limited n lt = let e : nat_le n 9223372036854775807 ≡ true = grind (arith, nat_tests) in rw e refl

sound_number : (text : List ℕ) (n : ℕ) → at_most 9223372036854775807 (number_of text) ≡ Some n → (k : TextKind) → ¬ Breaks true (pieces.Token Number) text k
sound_number text n e LongLine h = h
sound_number text n e BadByte h = h
sound_number text n e OpenQuote h = h
sound_number text n e BadNumber h = let none : None ≡ Some n = sym h ∙ e in cc

number_word : (text : List ℕ) (n : ℕ) → at_most 9223372036854775807 (number_of text) ≡ Some n → word_of Number text ≡ Some (words.Number n)
unfolding word_of
number_word text n e = ap (option_map (λ value. words.Number value)) e

pub number : (n : ℕ) (rest : List ℕ) (ws : List Word) → n < 2 ^ 63 → Ends rest → Reads rest ws → Reads (decimal n ++ rest) (words.Number n ∷ ws)
number n rest ws lt ends r =
    let h = numeral n (omega arith) in
    let value : at_most 9223372036854775807 (number_of (h.first ∷ h.rest)) ≡ Some n =
    ap (at_most 9223372036854775807) (number_is n h.first h.rest h.digit h.last (sym (ap (value_from 10 0) h.whole) ∙ h.value)) ∙ limited n lt in
    subst (λ t. Reads (t ++ rest) (words.Number n ∷ ws)) (sym h.whole)
    (token Number (h.first ∷ h.rest) rest (words.Number n) ws (number_long h.first h.rest rest h.digit h.more ends.1) (sound_number (h.first ∷ h.rest) n value)
    (number_word (h.first ∷ h.rest) n value) r)

-- ---- names

start_test : (b : ℕ) → IsNameStart b → (is_name_start b ≡ true) × (nat_eq 62 b ≡ false)
start_test b (inl h) = let low = h.0 in let high = h.1 in (grind (arith, nat_tests), grind (arith, nat_tests))
start_test b (inr h) = let low = h.0 in let high = h.1 in (grind (arith, nat_tests), grind (arith, nat_tests))

byte_test : (b : ℕ) → IsNameByte b → (is_name_byte b ≡ true) × (to_ascii_uppercase b ≡ b)
byte_test b h = elim h [
  | inl start ↦ (let s = (start_test b start).0 in (
    rw s refl,
    elim start [
      | inl h ↦ (let high = h.1 in let low : nat_lt b 97 ≡ true = grind (arith, nat_tests) in rw low refl)
      | inr h ↦ (let high = h.1 in let low : nat_lt b 97 ≡ true = grind (arith, nat_tests) in rw low refl)
    ],
  ))
  | inr digit ↦ (let least = digit.0 in let most = digit.1 in let low : nat_lt b 97 ≡ true = grind (arith, nat_tests) in (grind (arith, nat_tests), rw low refl))
]

name_bytes : (text : List ℕ) → All IsNameByte text → (list_all is_name_byte text ≡ true) × (map to_ascii_uppercase text ≡ text)
name_bytes [] h = (refl, refl)
name_bytes (b ∷ text) h =
    let here = byte_test b (h 0 b (omega arith)) in
    let more = name_bytes text (λ k d lt. h (suc k) d (omega arith)) in
    (rw here.0 more.0, ap (λ x. x ∷ map to_ascii_uppercase text) here.1 ∙ ap (λ l. b ∷ l) more.1)

no_annotation : (name : List ℕ) (o : Option AnnotationWord) → annotation_word_named name ≡ o → is_some o ≡ false → annotation_word_named name ≡ None
no_annotation name None e f = e
no_annotation name (Some w) e f = absurd cc

is_false : (b : Bool) → ¬ (b ≡ true) → b ≡ false
is_false true h = absurd (h refl)
is_false false h = refl

not_annotation : (name : List ℕ) → is_annotation_word name ≡ false → annotation_word_named name ≡ None
unfolding is_annotation_word
not_annotation name e = no_annotation name (annotation_word_named name) refl e

named : (name : List ℕ) → IsBoundName name → map to_ascii_uppercase name ≡ name → word_of Name name ≡ Some (words.Name name)
unfolding word_of
named name h upper =
    let short = h.short in
    let le : nat_le (length name) 31 ≡ true = grind (arith, nat_tests) in
    let word : annotation_word_named name ≡ None = not_annotation name (is_false (is_annotation_word name) (λ e. h.new ((is_annotation_exact name).0 e))) in
    let free : is_reserved name ≡ false = is_false (is_reserved name) (λ e. h.free ((reserved_exact name).0 e)) in
    rw (le, upper, word, free) refl

pub record NameIs (name : List ℕ) : Type 0 where
  pub first : ℕ
  pub rest : List ℕ
  pub whole : name ≡ first ∷ rest
  pub start : is_name_start first ≡ true
  pub other : nat_eq 62 first ≡ false
  pub bytes : list_all is_name_byte rest ≡ true
  pub short : length (first ∷ rest) ≤ 31
  pub is : word_of Name (first ∷ rest) ≡ Some (words.Name (first ∷ rest))

pub name_is : (name : List ℕ) → IsBoundName name → NameIs name
name_is [] h = let some = h.some in absurd (omega (arith, some))
name_is (first ∷ rest) h =
    let starts = start_test first h.start in
    let bytes = name_bytes (first ∷ rest) h.bytes in
    record { first = first; rest = rest; whole = refl; start = starts.0; other = starts.1; bytes = (both (is_name_byte first) (list_all is_name_byte rest) bytes.0).1; short = h.short; is = named (first ∷ rest) h bytes.1 }

pub name : (text rest : List ℕ) (ws : List Word) → IsBoundName text → Ends rest → Reads rest ws → Reads (text ++ rest) (words.Name text ∷ ws)
name text rest ws h ends r =
    let n = name_is text h in
    subst (λ t. Reads (t ++ rest) (words.Name t ∷ ws)) (sym n.whole) (word n.first n.rest rest (words.Name (n.first ∷ n.rest)) ws n.start n.bytes n.short n.is ends r)

-- ---- STKk

slot_word : (k : ℕ) → 1 ≤ k → k ≤ 32767 → map to_ascii_uppercase (decimal k) ≡ decimal k → length (codes "STK" ++ decimal k) ≤ 31 → word_of Name (codes "STK" ++ decimal k) ≡ Some (words.StackWord k)
unfolding word_of
slot_word k some most upper short =
    let le : nat_le (length (codes "STK" ++ decimal k)) 31 ≡ true = grind (arith, nat_tests) in
    let found : annotation_word_named (codes "STK" ++ decimal k) ≡ Some (annotation.Slot k) = (annotation_exact (codes "STK" ++ decimal k) (annotation.Slot k)).1 ((some, most), refl) in
    ap (λ b. cond b (name_word (codes "STK" ++ map to_ascii_uppercase (decimal k))) None) le
    ∙ ap (λ ds. name_word (codes "STK" ++ ds)) upper ∙ ap (λ w. or_plain w (codes "STK" ++ decimal k)) found

pub slot : (k : ℕ) (rest : List ℕ) (ws : List Word) → 1 ≤ k → k ≤ 32767 → Ends rest → Reads rest ws → Reads ((codes "STK" ++ decimal k) ++ rest) (words.StackWord k ∷ ws)
slot k rest ws some most ends r =
    let h = numeral k (omega (arith, most)) in
    let len = h.len.4 (omega (arith, most)) in
    let short : length (codes "STK" ++ decimal k) ≤ 31 = omega (arith, len, length-append (codes "STK") (decimal k)) in
    word 83 (codes "TK" ++ decimal k) rest (words.StackWord k) ws refl h.named short (slot_word k some most h.upper short) ends r
