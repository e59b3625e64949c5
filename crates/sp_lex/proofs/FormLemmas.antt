-- Which token bytes begin with: its kind by its first byte, and the longest one.
use Rattle.std.proofs.Common.{◌≡◌, ◌≢◌, ℕ, suc, ◌+◌, ◌≤◌, Bool, true, false, cond, List, [], ◌∷◌, ◌++◌, length, take, drop, Option, Some, None, refl, sym, ap, subst, ◌∙◌, ◌⊎◌, inl, inr, arith, length-append}
use Rattle.std.specs.Prelude.{◌&&◌, ◌||◌, ◌==◌, nat_eq, nat_le, codes}
use Rattle.std.specs.Option.{option_map}
use Rattle.std.specs.Cmp.Lexicographic.{pointwise}
use Rattle.std.specs.List.{prefix_len, list_all, list_any, flat_map, starts_with}
use Rattle.std.specs.Char.{is_ascii_digit, is_ascii_alphanumeric}
use Rattle.std.proofs.lemmas.Bool.{eqb-true, eq-eqb, ne_eqb, leb-true, cond_both}
use Rattle.std.proofs.lemmas.List.{take-append-drop, length-take-le}
use Rattle.std.proofs.lemmas.List.Sums.{prefix_len-le-length}
use Rattle.sp_lex.specs.declared.token.TokenKind.{TokenKind}
use Rattle.sp_lex.specs.declared.token.TokenKind.TheVariants.{Name, Number, Text, Symbol}
use Rattle.sp_lex.specs.Bytes.{is_blank, is_name_start, is_name_byte}
use Rattle.sp_lex.specs.Texts.{written}
use Rattle.sp_lex.specs.Tokens.{IsWord, IsNumeral, IsQuoted, marks, is_mark, long_symbols, is_long_symbol, IsSymbol, HasForm, IsLongest, BeginsNoToken}
use Rattle.sp_lex.specs.code.Pieces.{text_rest, closed_later, symbol_len, starts_with_pair, starts_with_mark}
use Rattle.sp_lex.proofs.TextLemmas.{rest_other, rest_twice}

pub both : (a b : Bool) → (a && b) ≡ true → (a ≡ true) × (b ≡ true)
both true true e = (refl, refl)
both true false e = absurd cc
both false b e = absurd cc

either : (a b : Bool) → (a || b) ≡ true → (a ≡ true) ⊎ (b ≡ true)
either true b e = inl refl
either false b e = inr e

pub same_texts : (one other : List ℕ) → pointwise nat_eq one other ≡ true → one ≡ other
same_texts [] [] e = refl
same_texts [] (byte ∷ other) e = absurd cc
same_texts (byte ∷ one) [] e = absurd cc
same_texts (a ∷ one) (b ∷ other) e =
    let h = both (nat_eq a b) (pointwise nat_eq one other) e in
    ap (λ x. x ∷ one) (eqb-true a b h.0) ∙ ap (λ rest. b ∷ rest) (same_texts one other h.1)

-- what holds of each element holds of the one that a test finds
any_byte : (q : ℕ → Bool) (byte : ℕ) (xs : List ℕ) → list_any (λ x. x == byte) xs ≡ true → list_all q xs ≡ true → q byte ≡ true
any_byte q byte [] e all = absurd cc
any_byte q byte (x ∷ xs) e all =
    let h = both (q x) (list_all q xs) all in
    elim (either (x == byte) (list_any (λ x. x == byte) xs) e) [
      | inl here ↦ ap q (sym (eqb-true x byte here)) ∙ h.0
      | inr later ↦ any_byte q byte xs later h.1
    ]

any_text : (q : List ℕ → Bool) (text : List ℕ) (xs : List (List ℕ)) → list_any (λ x. pointwise nat_eq x text) xs ≡ true → list_all q xs ≡ true → q text ≡ true
any_text q text [] e all = absurd cc
any_text q text (x ∷ xs) e all =
    let h = both (q x) (list_all q xs) all in
    elim (either (pointwise nat_eq x text) (list_any (λ x. pointwise nat_eq x text) xs) e) [
      | inl here ↦ ap q (sym (same_texts x text here)) ∙ h.0
      | inr later ↦ any_text q text xs later h.1
    ]

-- ---- kinds by the first byte

-- blanks, the semicolon, names, numbers, texts, and all other bytes
abbrev pub class : ℕ → ℕ
class byte =
    cond (is_blank byte) 0 (cond (byte == 59) 1 (cond (is_name_start byte) 2 (cond (is_ascii_digit byte) 3 (cond (byte == 39) 4 5))))

abbrev pub class_of : TokenKind → ℕ
class_of Name = 2
class_of Number = 3
class_of Text = 4
class_of Symbol = 5

abbrev pub head_of : List ℕ → ℕ
head_of [] = 0
head_of (byte ∷ bytes) = byte

pub one_kind : (k j : TokenKind) → class_of k ≡ class_of j → k ≡ j
one_kind Name Name e = refl
one_kind Number Number e = refl
one_kind Text Text e = refl
one_kind Symbol Symbol e = refl
one_kind Name Number e = absurd cc
one_kind Name Text e = absurd cc
one_kind Name Symbol e = absurd cc
one_kind Number Name e = absurd cc
one_kind Number Text e = absurd cc
one_kind Number Symbol e = absurd cc
one_kind Text Name e = absurd cc
one_kind Text Number e = absurd cc
one_kind Text Symbol e = absurd cc
one_kind Symbol Name e = absurd cc
one_kind Symbol Number e = absurd cc
one_kind Symbol Text e = absurd cc

no_test : (p : ℕ → Bool) (byte value : ℕ) → byte ≡ value → p value ≡ false → p byte ≡ true → ⊥
no_test p byte value is fails holds = let e : true ≡ false = sym holds ∙ ap p is ∙ fails in cc

-- a byte that passes a test which no blank and no semicolon passes
past_blanks : (p : ℕ → Bool) (byte n : ℕ) → p 32 ≡ false → p 9 ≡ false → p 59 ≡ false → p byte ≡ true
    → cond (is_name_start byte) 2 (cond (is_ascii_digit byte) 3 (cond (byte == 39) 4 5)) ≡ n → class byte ≡ n
past_blanks p byte n space tab semicolon holds is =
    cond_both (is_blank byte) 0 _ (λ k. k ≡ n)
    (λ blank. elim (either (byte == 32) (byte == 9) blank) [
      | inl a ↦ absurd (no_test p byte 32 (eqb-true byte 32 a) space holds)
      | inr b ↦ absurd (no_test p byte 9 (eqb-true byte 9 b) tab holds)
    ])
    (λ _. cond_both (byte == 59) 1 _ (λ k. k ≡ n) (λ e. absurd (no_test p byte 59 (eqb-true byte 59 e) semicolon holds)) (λ _. is))

pub word_class : (byte : ℕ) → is_name_start byte ≡ true → class byte ≡ 2
word_class byte start = past_blanks is_name_start byte 2 refl refl refl start (rw start refl)

digit_no_word : (byte : ℕ) → is_ascii_digit byte ≡ true → is_name_start byte ≡ false
digit_no_word byte digit = grind arith

digit_class : (byte : ℕ) → is_ascii_digit byte ≡ true → class byte ≡ 3
digit_class byte digit = past_blanks is_ascii_digit byte 3 refl refl refl digit (rw (digit_no_word byte digit, digit) refl)

mark_class : (annotation : Bool) (byte : ℕ) → is_mark annotation byte ≡ true → class byte ≡ 5
mark_class true byte mark = eqb-true (class byte) 5 (any_byte (λ b. class b == 5) byte (marks true) mark refl)
mark_class false byte mark = eqb-true (class byte) 5 (any_byte (λ b. class b == 5) byte (marks false) mark refl)

long_class : (text : List ℕ) → is_long_symbol text ≡ true → class (head_of text) ≡ 5
long_class text long = eqb-true (class (head_of text)) 5 (any_text (λ t. class (head_of t) == 5) text long_symbols long refl)

pub form_class : (annotation : Bool) (kind : TokenKind) (byte : ℕ) (text : List ℕ) → HasForm annotation kind (byte ∷ text) → class byte ≡ class_of kind
form_class annotation Name byte text h = word_class byte h.0
form_class annotation Number byte text h = digit_class byte h.0
form_class annotation Text byte text h = ap (λ t. class (head_of t)) h.1
form_class annotation Symbol byte text (inl h) = ap (λ t. class (head_of t)) h.2 ∙ mark_class annotation h.0 h.1
form_class annotation Symbol byte text (inr h) = long_class (byte ∷ text) h.1

pub form_some : (annotation : Bool) (kind : TokenKind) → HasForm annotation kind [] → ⊥
form_some annotation Name h = h
form_some annotation Number h = h
form_some annotation Text h = let e = h.1 in cc
form_some annotation Symbol (inl h) = let e = h.2 in cc
form_some annotation Symbol (inr h) = let e = h.1 in cc

-- tokens that the same bytes begin with are of one kind
pub same_kind : (annotation : Bool) (k j : TokenKind) (one rest other after : List ℕ) → HasForm annotation k one → HasForm annotation j other → one ++ rest ≡ other ++ after → k ≡ j
same_kind annotation k j [] rest other after h g e = absurd (form_some annotation k h)
same_kind annotation k j (byte ∷ one) rest [] after h g e = absurd (form_some annotation j g)
same_kind annotation k j (byte ∷ one) rest (first ∷ other) after h g e =
    one_kind k j (sym (form_class annotation k byte one h) ∙ ap (λ t. class (head_of t)) e ∙ form_class annotation j first other g)

-- so the longest token is the longest one of its kind
longest_of_kind : (annotation : Bool) (kind : TokenKind) (text rest : List ℕ) → HasForm annotation kind text
    → ((other after : List ℕ) → other ++ after ≡ text ++ rest → HasForm annotation kind other → length other ≤ length text) → IsLongest annotation kind text rest
longest_of_kind annotation kind text rest form most = record {
  form = form;
  longest = λ k other after e h. most other after e (subst (λ j. HasForm annotation j other) (same_kind annotation k kind other after text rest h form e) h);
}

-- ---- names and numbers

pub list_all-prefix : (p : ℕ → Bool) (bytes : List ℕ) → list_all p (take (prefix_len p bytes) bytes) ≡ true
list_all-prefix p [] = refl
list_all-prefix p (byte ∷ bytes) =
    cond_both (p byte) (1 + prefix_len p bytes) 0 (λ n. list_all p (take n (byte ∷ bytes)) ≡ true)
    (λ e. let n : 1 + prefix_len p bytes ≡ suc (prefix_len p bytes) = omega arith in rw (n, e) (list_all-prefix p bytes))
    (λ e. refl)

pub prefix_covers : (p : ℕ → Bool) (front after bytes : List ℕ) → list_all p front ≡ true → front ++ after ≡ bytes → length front ≤ prefix_len p bytes
prefix_covers p [] after bytes all e = omega arith
prefix_covers p (byte ∷ front) after bytes all e =
    let h = both (p byte) (list_all p front) all in
    let more : length front ≤ prefix_len p (front ++ after) = prefix_covers p front after (front ++ after) h.1 refl in
    let here : prefix_len p (byte ∷ (front ++ after)) ≡ 1 + prefix_len p (front ++ after) = rw h.0 refl in
    subst (λ bs. suc (length front) ≤ prefix_len p bs) e (omega (arith, here, more))

-- a first byte and those after it that pass a test
run_len : (p : ℕ → Bool) (byte first : ℕ) (bytes other after : List ℕ) → list_all p other ≡ true
    → first ∷ (other ++ after) ≡ byte ∷ (take (prefix_len p bytes) bytes ++ drop (prefix_len p bytes) bytes) → length (first ∷ other) ≤ length (byte ∷ take (prefix_len p bytes) bytes)
run_len p byte first bytes other after all e =
    let whole : other ++ after ≡ bytes = ap (drop 1) e ∙ take-append-drop (prefix_len p bytes) bytes in
    omega (arith, prefix_covers p other after bytes all whole, length-take-le (prefix_len p bytes) bytes (prefix_len-le-length p bytes))

pub word_longest : (annotation : Bool) (byte : ℕ) (bytes : List ℕ) → is_name_start byte ≡ true
    → IsLongest annotation Name (byte ∷ take (prefix_len is_name_byte bytes) bytes) (drop (prefix_len is_name_byte bytes) bytes)
word_longest annotation byte bytes start =
    longest_of_kind annotation Name _ _ (start, list_all-prefix is_name_byte bytes)
    (λ other after e h. word_len other after e h)
  where
    word_len : (other after : List ℕ) → other ++ after ≡ byte ∷ (take (prefix_len is_name_byte bytes) bytes ++ drop (prefix_len is_name_byte bytes) bytes) → IsWord other
        → length other ≤ length (byte ∷ take (prefix_len is_name_byte bytes) bytes)
    word_len [] after e h = absurd h
    word_len (first ∷ other) after e h = run_len is_name_byte byte first bytes other after h.1 e

pub numeral_longest : (annotation : Bool) (byte : ℕ) (bytes : List ℕ) → is_ascii_digit byte ≡ true
    → IsLongest annotation Number (byte ∷ take (prefix_len is_ascii_alphanumeric bytes) bytes) (drop (prefix_len is_ascii_alphanumeric bytes) bytes)
numeral_longest annotation byte bytes digit =
    longest_of_kind annotation Number _ _ (digit, list_all-prefix is_ascii_alphanumeric bytes)
    (λ other after e h. numeral_len other after e h)
  where
    numeral_len : (other after : List ℕ) → other ++ after ≡ byte ∷ (take (prefix_len is_ascii_alphanumeric bytes) bytes ++ drop (prefix_len is_ascii_alphanumeric bytes) bytes) → IsNumeral other
        → length other ≤ length (byte ∷ take (prefix_len is_ascii_alphanumeric bytes) bytes)
    numeral_len [] after e h = absurd h
    numeral_len (first ∷ other) after e h = run_len is_ascii_alphanumeric byte first bytes other after h.1 e

-- ---- texts

no_quote : (byte : ℕ) → (byte == 39) ≡ false → byte ≢ 39
no_quote byte q e = let yes = eq-eqb byte 39 e in cc

-- the first n bytes are characters as they are written, and a quote
abbrev Closes : ℕ → List ℕ → Type 0
Closes n bytes = (characters : List ℕ) × (take n bytes ≡ flat_map written characters ++ 39 ∷ []) × (n ≤ length bytes)

some_is : (m n : ℕ) → Some m ≡ Some n → m ≡ n
some_is m n e = cc

none_some : (n : ℕ) → None ≡ Some n → ⊥
none_some n e = cc

close_one : (n byte : ℕ) (bytes : List ℕ) → byte ≡ 39 → Some 1 ≡ Some n → Closes n (byte ∷ bytes)
close_one n byte bytes quote e = subst (λ k. Closes k (byte ∷ bytes)) (some_is 1 n e) ([], ap (λ b. b ∷ []) quote, omega arith)

close_more : (n byte : ℕ) (bytes : List ℕ) (len : Option ℕ) → byte ≢ 39 → ((m : ℕ) → len ≡ Some m → Closes m bytes) → option_map (λ k. k + 1) len ≡ Some n → Closes n (byte ∷ bytes)
close_more n byte bytes None other below e = absurd (none_some n e)
close_more n byte bytes (Some m) other below e =
    let h = below m refl in
    let k : suc m ≡ n = omega (arith, some_is (m + 1) n e) in
    let w : written byte ≡ byte ∷ [] = rw (ne_eqb byte 39 other) refl in
    subst (λ k. Closes k (byte ∷ bytes)) k
    (byte ∷ h.0, ap (λ rest. byte ∷ rest) h.1 ∙ ap (λ front. front ++ flat_map written h.0 ++ 39 ∷ []) (sym w), omega (arith, h.2))

close_later : (n byte next : ℕ) (bytes : List ℕ) (len : Option ℕ) → byte ≡ 39 → next ≡ 39 → ((m : ℕ) → len ≡ Some m → Closes m bytes) → closed_later len ≡ Some n → Closes n (byte ∷ next ∷ bytes)
close_later n byte next bytes None one two below e = close_one n byte (next ∷ bytes) one e
close_later n byte next bytes (Some m) one two below e =
    let h = below m refl in
    let k : suc (suc m) ≡ n = omega (arith, some_is (m + 2) n e) in
    subst (λ k. Closes k (byte ∷ next ∷ bytes)) k
    (39 ∷ h.0, ap (λ b. b ∷ next ∷ take m bytes) one ∙ ap (λ b. 39 ∷ b ∷ take m bytes) two ∙ ap (λ rest. 39 ∷ 39 ∷ rest) h.1, omega (arith, h.2))

text_closes : (bytes : List ℕ) (n : ℕ) → text_rest bytes ≡ Some n → Closes n bytes
unfolding text_rest
text_closes [] n = λ e. absurd (none_some n e)
text_closes (byte ∷ []) n =
    cond_both (byte == 39) (Some 1) None (λ len. len ≡ Some n → Closes n (byte ∷ []))
    (λ q e. close_one n byte [] (eqb-true byte 39 q) e) (λ _ e. absurd (none_some n e))
text_closes (byte ∷ next ∷ bytes) n =
    cond_both (byte == 39) _ _ (λ len. len ≡ Some n → Closes n (byte ∷ next ∷ bytes))
    (λ q. cond_both (next == 39) _ _ (λ len. len ≡ Some n → Closes n (byte ∷ next ∷ bytes))
    (λ r e. close_later n byte next bytes (text_rest bytes) (eqb-true byte 39 q) (eqb-true next 39 r) (text_closes bytes) e)
    (λ _ e. close_one n byte (next ∷ bytes) (eqb-true byte 39 q) e))
    (λ q e. close_more n byte (next ∷ bytes) (text_rest (next ∷ bytes)) (no_quote byte q) (text_closes (next ∷ bytes)) e)

-- a text is no longer than the one that is found
abbrev Covers : ℕ → List ℕ → Type 0
Covers len bytes = (n : ℕ) × (text_rest bytes ≡ Some n) × (len ≤ n)

cover_quote : (rest : List ℕ) → Covers 1 (39 ∷ rest)
unfolding text_rest
cover_quote [] = (1, refl, omega arith)
cover_quote (next ∷ rest) =
    cond_both (next == 39) (closed_later (text_rest rest)) (Some 1) (λ len. (n : ℕ) × (len ≡ Some n) × (1 ≤ n))
    (λ _. later (text_rest rest)) (λ _. (1, refl, omega arith))
  where
    later : (len : Option ℕ) → (n : ℕ) × (closed_later len ≡ Some n) × (1 ≤ n)
    later None = (1, refl, omega arith)
    later (Some m) = (m + 2, refl, omega arith)

cover_twice : (len : ℕ) (rest : List ℕ) → Covers len rest → Covers (len + 2) (39 ∷ 39 ∷ rest)
cover_twice len rest h = (h.0 + 2, rest_twice 39 39 rest refl refl ∙ ap closed_later h.1, omega (arith, h.2))

cover_other : (len byte : ℕ) (rest : List ℕ) → byte ≢ 39 → Covers len rest → Covers (len + 1) (byte ∷ rest)
cover_other len byte rest other h = (h.0 + 1, rest_other byte rest other ∙ ap (option_map (λ n. n + 1)) h.1, omega (arith, h.2))

text_covers : (characters after : List ℕ) → Covers (length (flat_map written characters) + 1) ((flat_map written characters ++ 39 ∷ []) ++ after)
text_covers [] after = cover_quote after
text_covers (c ∷ characters) after =
    let tail = flat_map written characters in
    cond_both (c == 39) (39 ∷ 39 ∷ []) (c ∷ []) (λ front. Covers (length (front ++ tail) + 1) (((front ++ tail) ++ 39 ∷ []) ++ after))
    (λ _. subst (λ n. Covers n (39 ∷ 39 ∷ ((tail ++ 39 ∷ []) ++ after))) (two (length tail)) (cover_twice (length tail + 1) _ (text_covers characters after)))
    (λ q. subst (λ n. Covers n (c ∷ ((tail ++ 39 ∷ []) ++ after))) (one (length tail)) (cover_other (length tail + 1) c _ (no_quote c q) (text_covers characters after)))
  where
    two : (n : ℕ) → n + 1 + 2 ≡ suc (suc n) + 1
    two n = omega arith

    one : (n : ℕ) → n + 1 + 1 ≡ suc n + 1
    one n = omega arith

pub text_longest : (annotation : Bool) (bytes : List ℕ) (n : ℕ) → text_rest bytes ≡ Some n → IsLongest annotation Text (39 ∷ take n bytes) (drop n bytes)
text_longest annotation bytes n is =
    let h = text_closes bytes n is in
    longest_of_kind annotation Text (39 ∷ take n bytes) (drop n bytes) (h.0, ap (λ rest. 39 ∷ rest) h.1)
    (λ other after e g.
    let tail = flat_map written g.0 in
    let inside : (tail ++ 39 ∷ []) ++ after ≡ bytes = ap (drop 1) (ap (λ t. t ++ after) (sym g.1) ∙ e) ∙ take-append-drop n bytes in
    let found : Covers (length tail + 1) bytes = subst (Covers (length tail + 1)) inside (text_covers g.0 after) in
    let m : found.0 ≡ n = some_is found.0 n (sym found.1 ∙ is) in
    omega (arith, found.2, ap length g.1, length-append tail (39 ∷ []), length-take-le n bytes h.2))

pub no_text : (annotation : Bool) (bytes : List ℕ) → text_rest bytes ≡ None → BeginsNoToken annotation (39 ∷ bytes)
no_text annotation bytes none kind [] rest e h = absurd (form_some annotation kind h)
no_text annotation bytes none kind (byte ∷ text) rest e h =
    let is_text : kind ≡ Text = one_kind kind Text (sym (form_class annotation kind byte text h) ∙ ap (λ t. class (head_of t)) e) in
    let g : IsQuoted (byte ∷ text) = subst (λ k. HasForm annotation k (byte ∷ text)) is_text h in
    let tail = flat_map written g.0 in
    let inside : (tail ++ 39 ∷ []) ++ rest ≡ bytes = ap (drop 1) (ap (λ t. t ++ rest) (sym g.1) ∙ e) in
    let found : Covers (length tail + 1) bytes = subst (Covers (length tail + 1)) inside (text_covers g.0 rest) in
    none_some found.0 (sym none ∙ found.1)

-- ---- symbols

-- the first bytes are a symbol of this length
abbrev Symbolic : Bool → ℕ → List ℕ → Type 0
Symbolic annotation n bytes = IsSymbol annotation (take n bytes) × (length (take n bytes) ≡ n)

pair_long : (a b c d e : Bool) → (a || b || c || d || e) ≡ true → (a || (b || (c || (d || (e || false))))) ≡ true
pair_long true b c d e h = refl
pair_long false true c d e h = refl
pair_long false false true d e h = refl
pair_long false false false true e h = refl
pair_long false false false false true h = refl
pair_long false false false false false h = absurd cc

or_right : (a b : Bool) → b ≡ true → (a || b) ≡ true
or_right true b e = refl
or_right false b e = e

three_symbolic : (bytes : List ℕ) → starts_with nat_eq bytes (codes "<->") ≡ true → Symbolic true 3 bytes
three_symbolic bytes e =
    let is : codes "<->" ≡ take 3 bytes = same_texts (codes "<->") (take 3 bytes) e in
    subst (λ text. IsSymbol true text × (length text ≡ 3)) is (inr (refl, refl), refl)

long_len : (text : List ℕ) → list_any (λ symbol. pointwise nat_eq symbol text) (codes "<=" ∷ codes ">=" ∷ codes "<>" ∷ codes "->" ∷ codes ".." ∷ []) ≡ true → length text ≡ 2
long_len text e = eqb-true (length text) 2 (any_text (λ t. length t == 2) text (codes "<=" ∷ codes ">=" ∷ codes "<>" ∷ codes "->" ∷ codes ".." ∷ []) e refl)

pair_symbolic : (bytes : List ℕ) → starts_with_pair bytes ≡ true → Symbolic true 2 bytes
pair_symbolic bytes e =
    let long = pair_long (starts_with nat_eq bytes (codes "<=")) (starts_with nat_eq bytes (codes ">=")) (starts_with nat_eq bytes (codes "<>")) (starts_with nat_eq bytes (codes "->")) (starts_with nat_eq bytes (codes "..")) e in
    (inr (refl, or_right (pointwise nat_eq (codes "<->") (take 2 bytes)) _ long), long_len (take 2 bytes) long)

mark_symbolic : (annotation : Bool) (bytes : List ℕ) → starts_with_mark annotation bytes ≡ true → Symbolic annotation 1 bytes
mark_symbolic annotation [] e = absurd cc
mark_symbolic annotation (byte ∷ bytes) e = (inl (byte, e, refl), refl)

symbol_from : (annotation : Bool) (bytes : List ℕ) (len : ℕ) → symbol_len annotation bytes ≡ suc len → Symbolic annotation (suc len) bytes
unfolding symbol_len
symbol_from annotation bytes len =
    cond_both (annotation && starts_with nat_eq bytes (codes "<->")) 3 _ (λ n. n ≡ suc len → Symbolic annotation (suc len) bytes)
    (λ t is. let h = both annotation (starts_with nat_eq bytes (codes "<->")) t in
    subst (λ k. Symbolic annotation k bytes) is (subst (λ a. Symbolic a 3 bytes) (sym h.0) (three_symbolic bytes h.1)))
    (λ _. cond_both (annotation && starts_with_pair bytes) 2 _ (λ n. n ≡ suc len → Symbolic annotation (suc len) bytes)
    (λ t is. let h = both annotation (starts_with_pair bytes) t in
    subst (λ k. Symbolic annotation k bytes) is (subst (λ a. Symbolic a 2 bytes) (sym h.0) (pair_symbolic bytes h.1)))
    (λ _. cond_both (starts_with_mark annotation bytes) 1 0 (λ n. n ≡ suc len → Symbolic annotation (suc len) bytes)
    (λ t is. subst (λ k. Symbolic annotation k bytes) is (mark_symbolic annotation bytes t))
    (λ _ is. absurd (omega arith))))

at_least : (a b c : Bool) → c ≡ true → 1 ≤ cond a 3 (cond b 2 (cond c 1 0))
at_least true b c e = omega arith
at_least false true c e = omega arith
at_least false false true e = omega arith
at_least false false false e = absurd cc

-- a symbol is no longer than the one that is found
abbrev symbol_fits : List ℕ → List ℕ → Bool
symbol_fits rest text = nat_le (length text) (symbol_len true (text ++ rest))

long_fits : (rest : List ℕ) → list_all (symbol_fits rest) long_symbols ≡ true
unfolding symbol_len
long_fits rest = refl

symbol_covers : (annotation : Bool) (text rest : List ℕ) → IsSymbol annotation text → length text ≤ symbol_len annotation (text ++ rest)
unfolding symbol_len
symbol_covers annotation text rest (inl h) =
    subst (λ t. length t ≤ symbol_len annotation (t ++ rest)) (sym h.2)
    (at_least (annotation && starts_with nat_eq (h.0 ∷ rest) (codes "<->")) (annotation && starts_with_pair (h.0 ∷ rest)) (is_mark annotation h.0) h.1)
symbol_covers annotation text rest (inr h) =
    subst (λ a. length text ≤ symbol_len a (text ++ rest)) (sym h.0) (leb-true _ _ (any_text (symbol_fits rest) text long_symbols h.1 (long_fits rest)))

pub symbol_longest : (annotation : Bool) (bytes : List ℕ) (len : ℕ) → symbol_len annotation bytes ≡ suc len → IsLongest annotation Symbol (take (suc len) bytes) (drop (suc len) bytes)
symbol_longest annotation bytes len is =
    let h = symbol_from annotation bytes len is in
    longest_of_kind annotation Symbol (take (suc len) bytes) (drop (suc len) bytes) h.0
    (λ other after e g.
    let whole : other ++ after ≡ bytes = e ∙ take-append-drop (suc len) bytes in
    let fits : length other ≤ symbol_len annotation bytes = subst (λ bs. length other ≤ symbol_len annotation bs) whole (symbol_covers annotation other after g) in
    omega (arith, fits, is, h.1))

pub no_symbol : (annotation : Bool) (byte : ℕ) (bytes : List ℕ) → class byte ≡ 5 → symbol_len annotation (byte ∷ bytes) ≡ 0 → BeginsNoToken annotation (byte ∷ bytes)
no_symbol annotation byte bytes other none kind [] rest e h = absurd (form_some annotation kind h)
no_symbol annotation byte bytes other none kind (first ∷ text) rest e h =
    let symbol : kind ≡ Symbol = one_kind kind Symbol (sym (form_class annotation kind first text h) ∙ ap (λ t. class (head_of t)) e ∙ other) in
    let g : IsSymbol annotation (first ∷ text) = subst (λ k. HasForm annotation k (first ∷ text)) symbol h in
    let fits : length (first ∷ text) ≤ symbol_len annotation (byte ∷ bytes) = subst (λ bs. length (first ∷ text) ≤ symbol_len annotation bs) e (symbol_covers annotation (first ∷ text) rest g) in
    omega (arith, fits, none)
