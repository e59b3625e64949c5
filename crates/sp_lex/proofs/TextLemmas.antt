-- A text from left to right.
use Rattle.std.proofs.Common.{◌≡◌, ◌≢◌, ℕ, ◌+◌, ◌<◌, ◌≤◌, eqb, List, [], ◌∷◌, ◌++◌, length, get_or, drop, Option, Some, None, refl, sym, ap, ◌∙◌, arith}
use Rattle.std.specs.List.{flat_map}
use Rattle.std.specs.Option.{option_map}
use Rattle.std.proofs.lemmas.Bool.{ne_eqb, eq-eqb, eqb-true, eqb-false, cond_both}
use Rattle.std.proofs.lemmas.List.{at_drop_more, at_drop_all, get_or-drop, drop-drop}
use Rattle.sp_lex.specs.Texts.{written, unquoted}
use Rattle.sp_lex.specs.code.Pieces.{text_rest, closed_later}

-- a length after i bytes
abbrev pub plus : ℕ → Option ℕ → Option ℕ
plus i len = option_map (λ n. i + n) len

-- the length of the longest text, or where it may be closed already
abbrev pub or_closed : Option ℕ → Option ℕ → Option ℕ
or_closed None closed = closed
or_closed (Some len) closed = Some len

plus_more : (i j : ℕ) (len : Option ℕ) → plus i (option_map (λ n. n + j) len) ≡ plus (i + j) len
plus_more i j None = refl
plus_more i j (Some n) = let e : i + (n + j) ≡ (i + j) + n = omega arith in ap (λ k. Some k) e

begins : (len : Option ℕ) → or_closed (plus 0 len) None ≡ len
begins None = refl
begins (Some n) = let e : 0 + n ≡ n = omega arith in ap (λ k. Some k) e

pub text_rest-begins : (bytes : List ℕ) → or_closed (plus 0 (text_rest bytes)) None ≡ text_rest bytes
text_rest-begins bytes = begins (text_rest bytes)

-- a byte that is no quote
pub rest_other : (byte : ℕ) (rest : List ℕ) → byte ≢ 39 → text_rest (byte ∷ rest) ≡ option_map (λ n. n + 1) (text_rest rest)
unfolding text_rest
rest_other byte [] h = rw (ne_eqb byte 39 h) refl
rest_other byte (next ∷ rest) h = rw (ne_eqb byte 39 h) refl

pub rest_closed : (byte : ℕ) (rest : List ℕ) → byte ≡ 39 → get_or rest 0 0 ≢ 39 → text_rest (byte ∷ rest) ≡ Some 1
unfolding text_rest
rest_closed byte [] one two = rw (eq-eqb byte 39 one) refl
rest_closed byte (next ∷ rest) one two = rw (eq-eqb byte 39 one, ne_eqb next 39 two) refl

pub rest_twice : (byte next : ℕ) (rest : List ℕ) → byte ≡ 39 → next ≡ 39 → text_rest (byte ∷ next ∷ rest) ≡ closed_later (text_rest rest)
unfolding text_rest
rest_twice byte next rest one two = rw (eq-eqb byte 39 one, eq-eqb next 39 two) refl

later : (i : ℕ) (len : Option ℕ) (closed : Option ℕ) → or_closed (plus i (closed_later len)) closed ≡ or_closed (plus (i + 2) len) (Some (i + 1))
later i None closed = refl
later i (Some n) closed = let e : i + (n + 2) ≡ i + 2 + n = omega arith in ap (λ k. Some k) e

twice : (i byte : ℕ) (rest : List ℕ) (closed : Option ℕ) → byte ≡ 39 → get_or rest 0 0 ≡ 39
    → or_closed (plus i (text_rest (byte ∷ rest))) closed ≡ or_closed (plus (i + 2) (text_rest (drop 1 rest))) (Some (i + 1))
twice i byte [] closed one two = absurd (omega arith)
twice i byte (next ∷ rest) closed one two =
    ap (λ len. or_closed (plus i len) closed) (rest_twice byte next rest one two) ∙ later i (text_rest rest) closed

-- the byte after the one at i
next_is : (bytes : List ℕ) (i : ℕ) → get_or (drop (i + 1) bytes) 0 0 ≡ get_or bytes (i + 1) 0
next_is bytes i = get_or-drop (i + 1) bytes 0 0 ∙ ap (λ k. get_or bytes k 0) (omega arith)

drop_two : (bytes : List ℕ) (i : ℕ) → drop 1 (drop (i + 1) bytes) ≡ drop (i + 2) bytes
drop_two bytes i = drop-drop 1 (i + 1) bytes ∙ ap (λ k. drop k bytes) (omega arith)

pub text_rest-other : (bytes : List ℕ) (i : ℕ) (closed : Option ℕ) → i < length bytes → get_or bytes i 0 ≢ 39
    → or_closed (plus i (text_rest (drop i bytes))) closed ≡ or_closed (plus (i + 1) (text_rest (drop (i + 1) bytes))) closed
text_rest-other bytes i closed lt h =
    at_drop_more (λ rest. or_closed (plus i (text_rest rest)) closed) bytes i 0 lt
    ∙ ap (λ len. or_closed (plus i len) closed) (rest_other (get_or bytes i 0) (drop (i + 1) bytes) h)
    ∙ ap (λ len. or_closed len closed) (plus_more i 1 (text_rest (drop (i + 1) bytes)))

pub text_rest-closed : (bytes : List ℕ) (i : ℕ) (closed : Option ℕ) → i < length bytes → get_or bytes i 0 ≡ 39 → get_or bytes (i + 1) 0 ≢ 39
    → or_closed (plus i (text_rest (drop i bytes))) closed ≡ Some (i + 1)
text_rest-closed bytes i closed lt one two =
    at_drop_more (λ rest. or_closed (plus i (text_rest rest)) closed) bytes i 0 lt
    ∙ ap (λ len. or_closed (plus i len) closed) (rest_closed (get_or bytes i 0) (drop (i + 1) bytes) one (λ e. two (sym (next_is bytes i) ∙ e)))

pub text_rest-twice : (bytes : List ℕ) (i : ℕ) (closed : Option ℕ) → i < length bytes → get_or bytes i 0 ≡ 39 → get_or bytes (i + 1) 0 ≡ 39
    → or_closed (plus i (text_rest (drop i bytes))) closed ≡ or_closed (plus (i + 2) (text_rest (drop (i + 2) bytes))) (Some (i + 1))
text_rest-twice bytes i closed lt one two =
    at_drop_more (λ rest. or_closed (plus i (text_rest rest)) closed) bytes i 0 lt
    ∙ twice i (get_or bytes i 0) (drop (i + 1) bytes) closed one (next_is bytes i ∙ two)
    ∙ ap (λ rest. or_closed (plus (i + 2) (text_rest rest)) (Some (i + 1))) (drop_two bytes i)

pub text_rest-open : (bytes : List ℕ) (i : ℕ) (closed : Option ℕ) → length bytes ≤ i → or_closed (plus i (text_rest (drop i bytes))) closed ≡ closed
unfolding text_rest
text_rest-open bytes i closed le = at_drop_all (λ rest. or_closed (plus i (text_rest rest)) closed) bytes i le

pub u_other : (byte : ℕ) (rest : List ℕ) → byte ≢ 39 → unquoted (byte ∷ rest) ≡ byte ∷ unquoted rest
unfolding unquoted
u_other byte [] h = rw (ne_eqb byte 39 h) refl
u_other byte (next ∷ rest) h = rw (ne_eqb byte 39 h) refl

u_closed : (byte : ℕ) (rest : List ℕ) → byte ≡ 39 → get_or rest 0 0 ≢ 39 → unquoted (byte ∷ rest) ≡ []
unfolding unquoted
u_closed byte [] one two = rw (eq-eqb byte 39 one) refl
u_closed byte (next ∷ rest) one two = rw (eq-eqb byte 39 one, ne_eqb next 39 two) refl

pub u_twice : (byte : ℕ) (rest : List ℕ) → byte ≡ 39 → get_or rest 0 0 ≡ 39 → unquoted (byte ∷ rest) ≡ 39 ∷ unquoted (drop 1 rest)
unfolding unquoted
u_twice byte [] one two = absurd (omega arith)
u_twice byte (next ∷ rest) one two = rw (eq-eqb byte 39 one, eq-eqb next 39 two) refl

pub unquoted-other : (bytes : List ℕ) (i : ℕ) → i < length bytes → get_or bytes i 0 ≢ 39 → unquoted (drop i bytes) ≡ get_or bytes i 0 ∷ unquoted (drop (i + 1) bytes)
unquoted-other bytes i lt h = at_drop_more unquoted bytes i 0 lt ∙ u_other (get_or bytes i 0) (drop (i + 1) bytes) h

pub unquoted-closed : (bytes : List ℕ) (i : ℕ) → i < length bytes → get_or bytes i 0 ≡ 39 → get_or bytes (i + 1) 0 ≢ 39 → unquoted (drop i bytes) ≡ []
unquoted-closed bytes i lt one two = at_drop_more unquoted bytes i 0 lt ∙ u_closed (get_or bytes i 0) (drop (i + 1) bytes) one (λ e. two (sym (next_is bytes i) ∙ e))

pub unquoted-twice : (bytes : List ℕ) (i : ℕ) → i < length bytes → get_or bytes i 0 ≡ 39 → get_or bytes (i + 1) 0 ≡ 39 → unquoted (drop i bytes) ≡ 39 ∷ unquoted (drop (i + 2) bytes)
unquoted-twice bytes i lt one two =
    at_drop_more unquoted bytes i 0 lt ∙ u_twice (get_or bytes i 0) (drop (i + 1) bytes) one (next_is bytes i ∙ two)
    ∙ ap (λ rest. 39 ∷ unquoted rest) (drop_two bytes i)

pub unquoted-done : (bytes : List ℕ) (i : ℕ) → length bytes ≤ i → unquoted (drop i bytes) ≡ []
unfolding unquoted
unquoted-done bytes i le = at_drop_all unquoted bytes i le

unquoted-end : unquoted (39 ∷ []) ≡ []
unfolding unquoted
unquoted-end = refl

-- the characters of a text are those that it is written of
pub unquoted-written : (characters : List ℕ) → unquoted (flat_map written characters ++ 39 ∷ []) ≡ characters
unquoted-written [] = unquoted-end
unquoted-written (c ∷ characters) =
    let tail = flat_map written characters in
    cond_both (eqb c 39) (39 ∷ 39 ∷ []) (c ∷ []) (λ front. unquoted ((front ++ tail) ++ 39 ∷ []) ≡ c ∷ characters)
    (λ e. u_twice 39 (39 ∷ (tail ++ 39 ∷ [])) refl refl ∙ ap (λ rest. 39 ∷ rest) (unquoted-written characters) ∙ ap (λ b. b ∷ characters) (sym (eqb-true c 39 e)))
    (λ e. u_other c (tail ++ 39 ∷ []) (eqb-false c 39 e) ∙ ap (λ rest. c ∷ rest) (unquoted-written characters))
