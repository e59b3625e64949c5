-- Words and blanks at the ends of texts.
use Rattle.std.proofs.Common.{◌≡◌, ℕ, ◌-◌, ◌<◌, Bool, true, false, cond, not, List, [], ◌∷◌, ◌++◌, length, take, drop, refl, sym, ap, subst, ◌∙◌, arith, append_assoc}
use Rattle.std.specs.Prelude.{reverse}
use Rattle.std.specs.List.{prefix_len, list_all}
use Rattle.std.proofs.lemmas.Bool.{and_parts, and_from}
use Rattle.std.proofs.lemmas.List.{reverse-append, reverse-reverse, length-reverse, take-append-drop, take_at, drop_at, length-drop, append-nil}
use Rattle.sp_fdl.specs.Text.{is_blank}
use Rattle.sp_fdl.specs.code.Tokens.{taken, dropped, after_blanks}
use Rattle.sp_fdl.proofs.TextLemmas.{stops, taken_again, dropped_again, dropped_stops, parts_of, taken_all}
use Rattle.sp_fdl.proofs.TakenLemmas.{taken_is, dropped_is}
use Rattle.sp_script_text.specs.code.Words.{is_solid, word_of, after_word, trim_end, trimmed, last_word, before_last_word}

-- ---- a text from its end

from_end : (n : ℕ) (text : List ℕ) → text ≡ reverse (drop n (reverse text)) ++ reverse (take n (reverse text))
from_end n text =
    sym (reverse-reverse text) ∙ ap reverse (sym (take-append-drop n (reverse text)))
    ∙ reverse-append (take n (reverse text)) (drop n (reverse text))

length_front : (n : ℕ) (text : List ℕ) → length (reverse (drop n (reverse text))) ≡ length text - n
length_front n text = length-reverse (drop n (reverse text)) ∙ length-drop n (reverse text) ∙ ap (λ k. k - n) (length-reverse text)

pub take_before : (test : ℕ → Bool) (text : List ℕ) → take (length text - prefix_len test (reverse text)) text ≡ reverse (dropped test (reverse text))
take_before test text =
    let n : ℕ = prefix_len test (reverse text) in
    ap (take (length text - n)) (from_end n text)
    ∙ take_at (reverse (drop n (reverse text))) (reverse (take n (reverse text))) (length text - n) (length_front n text)
    ∙ ap reverse (dropped_is test (reverse text))

pub drop_before : (test : ℕ → Bool) (text : List ℕ) → drop (length text - prefix_len test (reverse text)) text ≡ reverse (taken test (reverse text))
drop_before test text =
    let n : ℕ = prefix_len test (reverse text) in
    ap (drop (length text - n)) (from_end n text)
    ∙ drop_at (reverse (drop n (reverse text))) (reverse (take n (reverse text))) (length text - n) (length_front n text)
    ∙ ap reverse (taken_is test (reverse text))

-- ---- lists whose elements pass

pub all_append : (test : ℕ → Bool) (xs ys : List ℕ) → list_all test xs ≡ true → list_all test ys ≡ true → list_all test (xs ++ ys) ≡ true
all_append test [] ys h g = g
all_append test (x ∷ xs) ys h g =
    let p = and_parts (test x) (list_all test xs) h in and_from (test x) (list_all test (xs ++ ys)) p.0 (all_append test xs ys p.1 g)

pub all_left : (test : ℕ → Bool) (xs ys : List ℕ) → list_all test (xs ++ ys) ≡ true → list_all test xs ≡ true
all_left test [] ys h = refl
all_left test (x ∷ xs) ys h =
    let p = and_parts (test x) (list_all test (xs ++ ys)) h in and_from (test x) (list_all test xs) p.0 (all_left test xs ys p.1)

pub all_right : (test : ℕ → Bool) (xs ys : List ℕ) → list_all test (xs ++ ys) ≡ true → list_all test ys ≡ true
all_right test [] ys h = h
all_right test (x ∷ xs) ys h = all_right test xs ys (and_parts (test x) (list_all test (xs ++ ys)) h).1

pub all_reverse : (test : ℕ → Bool) (xs : List ℕ) → list_all test xs ≡ true → list_all test (reverse xs) ≡ true
all_reverse test [] h = refl
all_reverse test (x ∷ xs) h =
    let p = and_parts (test x) (list_all test xs) h in
    let one : list_all test (x ∷ []) ≡ true = and_from (test x) true p.0 refl in
    subst (λ w. list_all test w ≡ true) (sym (reverse-append (x ∷ []) xs)) (all_append test (reverse xs) (x ∷ []) (all_reverse test xs p.1) one)

-- ---- texts without blanks at their ends

pub record Solid (text : List ℕ) : Type 0 where
  pub begins : stops is_blank text ≡ true
  pub ends : stops is_blank (reverse text) ≡ true
  pub filled : 0 < length text

pub stops_more : (test : ℕ → Bool) (xs ys : List ℕ) → 0 < length xs → stops test xs ≡ true → stops test (xs ++ ys) ≡ true
stops_more test [] ys some h = absurd (omega arith)
stops_more test (x ∷ xs) ys some h = h

pub trim_again : (text blanks : List ℕ) → Solid text → list_all is_blank blanks ≡ true → trim_end (text ++ blanks) ≡ text
unfolding trim_end
trim_again text blanks h blank =
    ap (λ w. reverse (dropped is_blank w)) (reverse-append text blanks)
    ∙ ap reverse (dropped_again is_blank (reverse blanks) (reverse text) (all_reverse is_blank blanks blank) ∙ dropped_stops is_blank (reverse text) h.ends)
    ∙ reverse-reverse text

pub trimmed_again : (before text after : List ℕ) → Solid text → list_all is_blank before ≡ true → list_all is_blank after ≡ true → trimmed (before ++ (text ++ after)) ≡ text
unfolding trimmed
trimmed_again before text after h blank blank_after =
    ap trim_end (dropped_again is_blank before (text ++ after) blank ∙ dropped_stops is_blank (text ++ after) (stops_more is_blank text after h.filled h.begins))
    ∙ trim_again text after h blank_after

-- what the trimming of the end leaves, and blanks
pub record Trimmed (text inner : List ℕ) : Type 0 where
  pub after : List ℕ
  pub whole : text ≡ inner ++ after
  pub blank : list_all is_blank after ≡ true

pub trim_is : (text : List ℕ) → Trimmed text (trim_end text)
unfolding trim_end
trim_is text = record {
  after = reverse (taken is_blank (reverse text));
  whole = sym (reverse-reverse text) ∙ ap reverse (parts_of is_blank (reverse text)) ∙ reverse-append (taken is_blank (reverse text)) (dropped is_blank (reverse text));
  blank = all_reverse is_blank (taken is_blank (reverse text)) (taken_all is_blank (reverse text));
}

pub record Lined (line inner : List ℕ) : Type 0 where
  pub before : List ℕ
  pub after : List ℕ
  pub whole : line ≡ before ++ (inner ++ after)
  pub blank : list_all is_blank before ≡ true
  pub blank_after : list_all is_blank after ≡ true

pub trimmed_is : (line : List ℕ) → Lined line (trimmed line)
unfolding trimmed
trimmed_is line =
    let t = trim_is (after_blanks line) in
    record {
      before = taken is_blank line;
      after = t.after;
      whole = parts_of is_blank line ∙ ap (λ w. taken is_blank line ++ w) t.whole;
      blank = taken_all is_blank line;
      blank_after = t.blank;
    }

-- ---- words

solid_cond : (b : Bool) → not b ≡ true → cond b false true ≡ true
solid_cond true h = absurd cc
solid_cond false h = refl

pub solid_stops : (byte : ℕ) (rest : List ℕ) → is_solid byte ≡ true → stops is_blank (byte ∷ rest) ≡ true
solid_stops byte rest h = solid_cond (is_blank byte) h

blank_solid : (byte : ℕ) → is_blank byte ≡ true → is_solid byte ≡ false
blank_solid byte h = rw h refl

pub solid_stop : (blanks rest : List ℕ) → 0 < length blanks → list_all is_blank blanks ≡ true → stops is_solid (blanks ++ rest) ≡ true
solid_stop [] rest some all = absurd (omega arith)
solid_stop (b ∷ blanks) rest some all = rw (blank_solid b (and_parts (is_blank b) (list_all is_blank blanks) all).0) refl

pub word_again : (word blanks rest : List ℕ) → list_all is_solid word ≡ true → list_all is_blank blanks ≡ true → 0 < length blanks → word_of (word ++ (blanks ++ rest)) ≡ word
word_again word blanks rest solid blank some = taken_again is_solid word (blanks ++ rest) solid (solid_stop blanks rest some blank)

pub after_word_again : (word blanks rest : List ℕ) → list_all is_solid word ≡ true → list_all is_blank blanks ≡ true → 0 < length blanks → after_word (word ++ (blanks ++ rest)) ≡ blanks ++ rest
after_word_again word blanks rest solid blank some =
    dropped_again is_solid word (blanks ++ rest) solid ∙ dropped_stops is_solid (blanks ++ rest) (solid_stop blanks rest some blank)

pub word_alone : (word : List ℕ) → list_all is_solid word ≡ true → word_of word ≡ word
word_alone word solid = ap word_of (sym (append-nil word)) ∙ taken_again is_solid word [] solid refl

pub after_word_alone : (word : List ℕ) → list_all is_solid word ≡ true → after_word word ≡ []
after_word_alone word solid = ap after_word (sym (append-nil word)) ∙ dropped_again is_solid word [] solid

pub turned : (text blanks word : List ℕ) → reverse (text ++ (blanks ++ word)) ≡ reverse word ++ (reverse blanks ++ reverse text)
turned text blanks word =
    reverse-append text (blanks ++ word) ∙ ap (λ w. w ++ reverse text) (reverse-append blanks word)
    ∙ append_assoc (reverse word) (reverse blanks) (reverse text)

pub last_word_again : (text blanks word : List ℕ) → list_all is_solid word ≡ true → list_all is_blank blanks ≡ true → 0 < length blanks → last_word (text ++ (blanks ++ word)) ≡ word
unfolding last_word
last_word_again text blanks word solid blank some =
    ap (λ w. reverse (taken is_solid w)) (turned text blanks word)
    ∙ ap reverse (taken_again is_solid (reverse word) (reverse blanks ++ reverse text) (all_reverse is_solid word solid) (solid_stop (reverse blanks) (reverse text) (omega (arith, length-reverse blanks)) (all_reverse is_blank blanks blank)))
    ∙ reverse-reverse word

pub before_last_again : (text blanks word : List ℕ) → list_all is_solid word ≡ true → list_all is_blank blanks ≡ true → 0 < length blanks → before_last_word (text ++ (blanks ++ word)) ≡ text ++ blanks
unfolding before_last_word
before_last_again text blanks word solid blank some =
    let stop = solid_stop (reverse blanks) (reverse text) (omega (arith, length-reverse blanks)) (all_reverse is_blank blanks blank) in
    ap (λ w. reverse (dropped is_solid w)) (turned text blanks word)
    ∙ ap reverse (dropped_again is_solid (reverse word) (reverse blanks ++ reverse text) (all_reverse is_solid word solid) ∙ dropped_stops is_solid (reverse blanks ++ reverse text) stop)
    ∙ ap reverse (sym (reverse-append text blanks)) ∙ reverse-reverse (text ++ blanks)

-- a text is what stands before its last word, and this word
pub last_parts : (text : List ℕ) → text ≡ before_last_word text ++ last_word text
unfolding before_last_word last_word
last_parts text =
    sym (reverse-reverse text) ∙ ap reverse (parts_of is_solid (reverse text))
    ∙ reverse-append (taken is_solid (reverse text)) (dropped is_solid (reverse text))
