-- Lines and words, taken from the front.
use Rattle.std.proofs.Common.{◌≡◌, ◌≢◌, ℕ, ◌+◌, ◌-◌, ◌<◌, ◌≤◌, Bool, true, false, cond, not, ◌||◌, List, [], ◌∷◌, ◌++◌, length, get_or, take, drop, refl, sym, ap, subst, ◌∙◌, arith, append_assoc, add-one, drop-cons}
use Rattle.std.specs.Prelude.{◌==◌}
use Rattle.std.proofs.Math.ListN.{drop_of_length-le}
use Rattle.std.proofs.lemmas.Bool.Decides.{nat_tests}
use Rattle.std.proofs.lemmas.List.{take_more, append-nil, take_all}
use Rattle.sp_first.specs.Words.{is_blank, is_mark, joined, lines, goes_on, words, BeginsWithWord}

joined-joined : (front back : List ℕ) (pieces : List (List ℕ)) → joined front (joined back pieces) ≡ joined (front ++ back) pieces
joined-joined front back [] = refl
joined-joined front back (piece ∷ pieces) = ap (λ p. p ∷ pieces) (sym (append_assoc front back piece))

-- the byte at a place, and what follows it
at_place : (bytes : List ℕ) (n : ℕ) → n < length bytes → drop n bytes ≡ get_or bytes n 0 ∷ drop (n + 1) bytes
at_place bytes n h = rw (add-one, drop-cons bytes n 0) refl

front_more : (bytes : List ℕ) (n : ℕ) (pieces : List (List ℕ)) → n < length bytes → joined (take n bytes) (joined (get_or bytes n 0 ∷ []) pieces) ≡ joined (take (n + 1) bytes) pieces
front_more bytes n pieces h = joined-joined (take n bytes) (get_or bytes n 0 ∷ []) pieces ∙ ap (λ f. joined f pieces) (sym (take_more bytes n 0 h))

lines_first : (byte : ℕ) (bytes : List ℕ) → byte ≢ 10 → lines (byte ∷ bytes) ≡ joined (byte ∷ []) (lines bytes)
lines_first byte bytes h = let e : (byte == 10) ≡ false = grind (arith, nat_tests) in rw e refl

no_front : (pieces : List (List ℕ)) → pieces ≢ [] → joined [] pieces ≡ pieces
no_front [] h = absurd (h refl)
no_front (piece ∷ pieces) h = refl

joined_some : (front : List ℕ) (pieces : List (List ℕ)) → joined front pieces ≢ []
joined_some front [] e = cc
joined_some front (piece ∷ pieces) e = cc

lines_some : (byte : ℕ) (bytes : List ℕ) → lines (byte ∷ bytes) ≢ []
lines_some byte bytes = elim (byte == 10) as (λ b. cond b ([] ∷ lines bytes) (joined (byte ∷ []) (lines bytes)) ≢ []) [ true ↦ λ e. cc | false ↦ joined_some _ _ ]

-- the first n bytes of the text end no line
pub record LineGoesOn (bytes : List ℕ) (n : ℕ) : Type 0 where
  pub within : n ≤ length bytes
  pub so_far : lines bytes ≡ joined (take n bytes) (lines (drop n bytes))

pub line_begins : (bytes : List ℕ) → 0 < length bytes → LineGoesOn bytes 0
line_begins [] h = absurd (omega arith)
line_begins (byte ∷ bytes) h = record { within = omega arith; so_far = sym (no_front _ (lines_some byte bytes)) }

pub line_more : (bytes : List ℕ) (n : ℕ) → LineGoesOn bytes n → n < length bytes → get_or bytes n 0 ≢ 10 → LineGoesOn bytes (n + 1)
line_more bytes n h less other = record {
  within = omega arith;
  so_far = h.so_far
      ∙ ap (λ rest. joined (take n bytes) (lines rest)) (at_place bytes n less)
      ∙ ap (joined (take n bytes)) (lines_first (get_or bytes n 0) (drop (n + 1) bytes) other)
      ∙ front_more bytes n (lines (drop (n + 1) bytes)) less;
}

pub line_ends : (bytes : List ℕ) (n : ℕ) → LineGoesOn bytes n → n < length bytes → get_or bytes n 0 ≡ 10 → lines bytes ≡ take n bytes ∷ lines (drop (n + 1) bytes)
line_ends bytes n h less end =
    h.so_far
    ∙ ap (λ rest. joined (take n bytes) (lines rest)) (at_place bytes n less ∙ ap (λ b. b ∷ drop (n + 1) bytes) end)
    ∙ ap (λ f. f ∷ lines (drop (n + 1) bytes)) (append-nil (take n bytes))

pub line_last : (bytes : List ℕ) (n : ℕ) → LineGoesOn bytes n → length bytes ≤ n → lines bytes ≡ bytes ∷ lines (drop n bytes)
line_last bytes n h all =
    let none : drop n bytes ≡ [] = drop_of_length-le bytes all in
    let whole : take n bytes ≡ bytes = take_all n bytes all in
    h.so_far ∙ ap (λ rest. joined (take n bytes) (lines rest)) none ∙ ap (λ f. f ∷ []) whole ∙ ap (λ rest. bytes ∷ lines rest) (sym none)

-- the line's first word has the byte at m, and those before it
pub record WordReaches (line : List ℕ) (m : ℕ) : Type 0 where
  pub within : m < length line
  pub no_blank : is_blank (get_or line m 0) ≡ false
  pub no_mark : is_mark (get_or line m 0) ≡ false
  pub so_far : words line ≡ joined (take m line) (words (drop m line))

words_some : (byte : ℕ) (bytes : List ℕ) → is_blank byte ≡ false → words (byte ∷ bytes) ≢ []
words_some byte bytes h = rw h (elim (is_mark byte || byte == 58 || not (goes_on bytes)) as (λ b. cond b ((byte ∷ []) ∷ words bytes) (joined (byte ∷ []) (words bytes)) ≢ []) [ true ↦ λ e. cc | false ↦ joined_some _ _ ])

pub word_begins : (line : List ℕ) → 0 < length line → BeginsWithWord line → is_mark (get_or line 0 0) ≡ false → WordReaches line 0
word_begins [] h begins no_mark = absurd (omega arith)
word_begins (byte ∷ bytes) h begins no_mark = record { within = omega arith; no_blank = begins; no_mark = no_mark; so_far = sym (no_front _ (words_some byte bytes begins)) }

-- a byte that the word goes on after
word_first : (byte : ℕ) (bytes : List ℕ) → is_blank byte ≡ false → is_mark byte ≡ false → (byte == 58) ≡ false → goes_on bytes ≡ true → words (byte ∷ bytes) ≡ joined (byte ∷ []) (words bytes)
word_first byte bytes blank mark colon on = rw (blank, mark, colon, on) refl

-- a byte that is the last of its word
word_final : (byte : ℕ) (bytes : List ℕ) → is_blank byte ≡ false → (is_mark byte || byte == 58 || not (goes_on bytes)) ≡ true → words (byte ∷ bytes) ≡ (byte ∷ []) ∷ words bytes
word_final byte bytes blank final = rw (blank, final) refl

goes_on_at : (line : List ℕ) (n : ℕ) → n < length line → is_blank (get_or line n 0) ≡ false → is_mark (get_or line n 0) ≡ false → goes_on (drop n line) ≡ true
goes_on_at line n h blank mark = rw (at_place line n h) (rw (blank, mark) refl)

pub word_more : (line : List ℕ) (m : ℕ) → WordReaches line m → m + 1 < length line → (get_or line m 0 == 58) ≡ false → is_blank (get_or line (m + 1) 0) ≡ false → is_mark (get_or line (m + 1) 0) ≡ false → WordReaches line (m + 1)
word_more line m h less colon blank mark = record {
  within = less;
  no_blank = blank;
  no_mark = mark;
  so_far = h.so_far
      ∙ ap (λ rest. joined (take m line) (words rest)) (at_place line m h.within)
      ∙ ap (joined (take m line)) (word_first (get_or line m 0) (drop (m + 1) line) h.no_blank h.no_mark colon (goes_on_at line (m + 1) less blank mark))
      ∙ front_more line m (words (drop (m + 1) line)) h.within;
}

-- the same, where n is the place after the byte at m
pub word_more_at : (line : List ℕ) (n m : ℕ) → n ≡ m + 1 → WordReaches line m → n < length line → get_or line (n - 1) 0 ≢ 58 → is_blank (get_or line n 0) ≡ false → is_mark (get_or line n 0) ≡ false → WordReaches line n
word_more_at line n m is h less colon blank mark =
    let before : n - 1 ≡ m = omega arith in
    let no_colon : get_or line m 0 ≢ 58 = λ e. colon (ap (λ k. get_or line k 0) before ∙ e) in
    let apart : (get_or line m 0 == 58) ≡ false = grind (arith, nat_tests) in
    subst (WordReaches line) (sym is) (word_more line m h (omega arith) apart
    (ap (λ k. is_blank (get_or line k 0)) (sym is) ∙ blank) (ap (λ k. is_mark (get_or line k 0)) (sym is) ∙ mark))

-- the word ends with the byte at m
ends_with : (line : List ℕ) (m : ℕ) → WordReaches line m → (is_mark (get_or line m 0) || get_or line m 0 == 58 || not (goes_on (drop (m + 1) line))) ≡ true → words line ≡ take (m + 1) line ∷ words (drop (m + 1) line)
ends_with line m h final =
    h.so_far
    ∙ ap (λ rest. joined (take m line) (words rest)) (at_place line m h.within)
    ∙ ap (joined (take m line)) (word_final (get_or line m 0) (drop (m + 1) line) h.no_blank final)
    ∙ ap (λ f. f ∷ words (drop (m + 1) line)) (sym (take_more line m 0 h.within))

or_true : (a b : Bool) → b ≡ true → (a || b) ≡ true
or_true true b h = refl
or_true false b h = h

pub word_ends_colon : (line : List ℕ) (m : ℕ) → WordReaches line m → (get_or line m 0 == 58) ≡ true → words line ≡ take (m + 1) line ∷ words (drop (m + 1) line)
word_ends_colon line m h colon = ends_with line m h (rw (h.no_mark, colon) refl)

pub word_ends_line : (line : List ℕ) (m : ℕ) → WordReaches line m → length line ≤ m + 1 → words line ≡ take (m + 1) line ∷ words (drop (m + 1) line)
word_ends_line line m h all = ends_with line m h (or_true _ _ (ap (λ rest. not (goes_on rest)) (drop_of_length-le line all)))

stops_at : (line : List ℕ) (n : ℕ) → n < length line → (is_blank (get_or line n 0) || is_mark (get_or line n 0)) ≡ true → not (goes_on (drop n line)) ≡ true
stops_at line n h stop = rw (at_place line n h) (rw stop refl)

pub word_ends_before : (line : List ℕ) (m : ℕ) → WordReaches line m → m + 1 < length line → (is_blank (get_or line (m + 1) 0) || is_mark (get_or line (m + 1) 0)) ≡ true → words line ≡ take (m + 1) line ∷ words (drop (m + 1) line)
word_ends_before line m h less stop = ends_with line m h (or_true _ _ (stops_at line (m + 1) less stop))

-- a mark is a word
pub mark_is_word : (line : List ℕ) → 0 < length line → BeginsWithWord line → is_mark (get_or line 0 0) ≡ true → words line ≡ take 1 line ∷ words (drop 1 line)
mark_is_word [] h begins mark = absurd (omega arith)
mark_is_word (byte ∷ bytes) h begins mark = word_final byte bytes begins (rw mark refl)
