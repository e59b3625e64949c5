-- The lines of a script file that aren't steps are read as they are written.
use Rattle.std.proofs.Common.{◌≡◌, ℕ, ◌<◌, ◌≤◌, Bool, true, false, cond, List, [], ◌∷◌, ◌++◌, length, Some, None, refl, sym, ap, subst, ◌∙◌, arith, inl, inr}
use Rattle.std.specs.Prelude.{codes, decimal, ◌==◌, ◌&&◌, nat_le}
use Rattle.std.specs.List.{list_all, AllByRecursion}
use Rattle.std.proofs.lemmas.Bool.{and_parts, and_from, eqb-true, ltb-true, lt-ltb, leb-true, le-leb}
use Rattle.sp_lex.specs.Bytes.{is_name_start, is_name_byte}
use Rattle.sp_lex.specs.Names.{folded}
use Rattle.sp_lex.specs.Tokens.{IsWord}
use Rattle.sp_fdl.specs.Text.{is_blank, Token}
use Rattle.sp_fdl.specs.code.Tokens.{◌>>=◌, taken, dropped}
use Rattle.sp_fdl.specs.code.Numbers.{name_number}
use Rattle.sp_fdl.proofs.TextLemmas.{bind_some, some_is, if_some, stops, taken_again, dropped_again, dropped_stops, parts_of, taken_all}
use Rattle.sp_fdl.proofs.ValueLemmas.{name_is, name_again, decimal_digits, decimal_filled, digits_run}
use Rattle.sp_fdl.proofs.NameLemmas.{word_is}
use Rattle.sp_script_text.specs.declared.script.Title.{Title}
use Rattle.sp_script_text.specs.Files.{IsIdle, Heading, IsHead, IsEnd}
use Rattle.sp_script_text.specs.code.Words.{is_solid, word_of, after_word, after_space, trimmed, is_word}
use Rattle.sp_script_text.specs.code.Lines.{is_ascii, is_idle, name_of_word, number_after, title_of, head_title, is_end}
use Rattle.sp_script_text.proofs.WordLemmas.{Solid, trimmed_again, trimmed_is, word_again, after_word_again, solid_stops}
use Rattle.sp_script_text.proofs.SolidLemmas.{IsSolid, solid_by, solid_run, solid_spaced, ends_solid, ends_append, ends_run}
use Rattle.sp_script_text.proofs.SpaceLemmas.{space_is, space_again}

-- ---- lines that say nothing

ascii_is : (bytes : List ℕ) → list_all is_ascii bytes ≡ true → AllByRecursion (λ b. b < 128) bytes
ascii_is [] h = tt
ascii_is (byte ∷ bytes) h = let p = and_parts (is_ascii byte) (list_all is_ascii bytes) h in (ltb-true byte 128 p.0, ascii_is bytes p.1)

ascii_again : (bytes : List ℕ) → AllByRecursion (λ b. b < 128) bytes → list_all is_ascii bytes ≡ true
ascii_again [] h = refl
ascii_again (byte ∷ bytes) h = and_from (is_ascii byte) (list_all is_ascii bytes) (lt-ltb byte 128 h.0) (ascii_again bytes h.1)

pub idle_is : (line : List ℕ) → is_idle line ≡ true → IsIdle line
idle_is [] e = inl refl
idle_is (a ∷ []) e = inl e
idle_is (a ∷ b ∷ rest) e = by (a == 45 && b == 45) refl e
  where
    by : (t : Bool) → (a == 45 && b == 45) ≡ t → cond t (list_all is_ascii rest) (list_all is_blank (a ∷ b ∷ rest)) ≡ true → IsIdle (a ∷ b ∷ rest)
    by true h u =
        let p = and_parts (a == 45) (b == 45) h in
        inr (rest, (λ i. eqb-true a 45 p.0 i ∷ eqb-true b 45 p.1 i ∷ rest), ascii_is rest u)
    by false h u = inl u

blank_no_minus : (a b : ℕ) → is_blank a ≡ true → (a == 45 && b == 45) ≡ false
blank_no_minus a b h = grind arith

blank_again : (line : List ℕ) → list_all is_blank line ≡ true → is_idle line ≡ true
blank_again [] h = h
blank_again (a ∷ []) h = h
blank_again (a ∷ b ∷ rest) h =
    let p = and_parts (is_blank a) (list_all is_blank (b ∷ rest)) h in
    rw (blank_no_minus a b p.0) h

pub idle_again : (line : List ℕ) → IsIdle line → is_idle line ≡ true
idle_again line (inl h) = blank_again line h
idle_again line (inr h) = ap is_idle h.1 ∙ ascii_again h.0 h.2

-- ---- the last line

solid_end : Solid (codes "end")
solid_end = solid_run (codes "end") (omega arith) refl

pub end_is : (line : List ℕ) → is_end line ≡ true → IsEnd line
unfolding is_end
end_is line e =
    let t = trimmed_is line in
    record { before = t.before; inner = trimmed line; after = t.after; whole = t.whole; blank = t.blank; blank_after = t.blank_after; is = word_is (trimmed line) (codes "end") e }

pub end_again : (line : List ℕ) → IsEnd line → is_end line ≡ true
unfolding is_end
end_again line h =
    ap (λ w. is_word (trimmed w) (codes "end")) h.whole
    ∙ ap (λ w. is_word w (codes "end")) (trimmed_again h.before h.inner h.after (subst Solid (sym h.is) solid_end) h.blank h.blank_after)
    ∙ ap (λ w. is_word w (codes "end")) h.is

-- ---- the first line

record Named (word name : List ℕ) : Type 0 where
  starts : (first : ℕ) × (rest : List ℕ) × (word ≡ first ∷ rest) × (is_name_start first ≡ true)
  short : length word ≤ 31
  name_is : name ≡ folded word

named_is : (word name : List ℕ) → name_of_word word ≡ Some name → Named word name
unfolding name_of_word
named_is [] name e = absurd cc
named_is (first ∷ rest) name e =
    let g = if_some (is_name_start first && nat_le (length (first ∷ rest)) 31) (folded (first ∷ rest)) name e in
    let p = and_parts (is_name_start first) (nat_le (length (first ∷ rest)) 31) g.0 in
    record { starts = (first, rest, refl, p.0); short = leb-true (length (first ∷ rest)) 31 p.1; name_is = sym g.1 }

is_a_word : (word : List ℕ) (first : ℕ) (rest : List ℕ) → word ≡ first ∷ rest → is_name_start first ≡ true → list_all is_name_byte word ≡ true → IsWord word
is_a_word word first rest e start all =
    let same : list_all is_name_byte (first ∷ rest) ≡ true = ap (list_all is_name_byte) (sym e) ∙ all in
    subst IsWord (sym e) (start, (and_parts (is_name_byte first) (list_all is_name_byte rest) same).1)

after_is : (name rest : List ℕ) (title : Title) → number_after name rest ≡ Some title → (digits : List ℕ) × (rest ≡ 46 ∷ digits) × (name_number digits ≡ Some title.number) × (title.name ≡ name)
after_is name [] title e = absurd cc
after_is name (stop ∷ digits) title e = by (stop == 46) refl e
  where
    by : (b : Bool) → stop == 46 ≡ b → cond b (name_number digits >>= λ k. Some (record { name = name; number = k })) None ≡ Some title
        → (ds : List ℕ) × (stop ∷ digits ≡ 46 ∷ ds) × (name_number ds ≡ Some title.number) × (title.name ≡ name)
    by true h u =
        let b = bind_some (name_number digits) (λ k. Some (record { name = name; number = k })) title u in
        let same : record { name = name; number = b.0 } ≡ title = some_is (record { name = name; number = b.0 }) title b.2 in
        (digits, ap (λ s. s ∷ digits) (eqb-true stop 46 h), b.1 ∙ ap (λ (t : Title). Some t.number) same, sym (ap (λ (t : Title). t.name) same))
    by false h u = absurd cc

title_is : (text : List ℕ) (title : Title) → title_of text ≡ Some title → Heading title text
unfolding title_of
title_is text title e =
    let word : List ℕ = taken is_name_byte text in
    let b = bind_some (name_of_word word) (λ name. number_after name (dropped is_name_byte text)) title e in
    let n = named_is word b.0 b.1 in
    let a = after_is b.0 (dropped is_name_byte text) title b.2 in
    let k = name_is a.0 title.number a.2 in
    record {
      word = word;
      whole = parts_of is_name_byte text ∙ ap (λ w. word ++ w) a.1 ∙ ap (λ w. word ++ 46 ∷ w) k.is;
      is_name = is_a_word word n.starts.0 n.starts.1 n.starts.2 n.starts.3 (taken_all is_name_byte text);
      short = n.short;
      name = a.3 ∙ n.name_is;
      from = k.low;
      to = k.high;
    }

start_byte : (byte : ℕ) → is_name_start byte ≡ true → is_name_byte byte ≡ true
start_byte byte h = rw h refl

word_bytes : (word : List ℕ) → IsWord word → list_all is_name_byte word ≡ true
word_bytes [] h = absurd h
word_bytes (first ∷ rest) h = and_from (is_name_byte first) (list_all is_name_byte rest) (start_byte first h.0) h.1

named_again : (word : List ℕ) → IsWord word → length word ≤ 31 → name_of_word word ≡ Some (folded word)
unfolding name_of_word
named_again [] h short = absurd h
named_again (first ∷ rest) h short =
    rw (and_from (is_name_start first) (nat_le (length (first ∷ rest)) 31) h.0 (le-leb (length (first ∷ rest)) 31 short)) refl

title_again : (text : List ℕ) (title : Title) → Heading title text → title_of text ≡ Some title
unfolding title_of
title_again text title h =
    let rest : List ℕ = 46 ∷ decimal title.number in
    let all = word_bytes h.word h.is_name in
    let word : taken is_name_byte text ≡ h.word = ap (taken is_name_byte) h.whole ∙ taken_again is_name_byte h.word rest all refl in
    let after : dropped is_name_byte text ≡ rest = ap (dropped is_name_byte) h.whole ∙ dropped_again is_name_byte h.word rest all ∙ dropped_stops is_name_byte rest refl in
    ap (λ w. name_of_word w >>= λ name. number_after name (dropped is_name_byte text)) word
    ∙ ap (λ o. o >>= λ name. number_after name (dropped is_name_byte text)) (named_again h.word h.is_name h.short)
    ∙ ap (number_after (folded h.word)) after
    ∙ ap (λ o. o >>= λ k. Some (record { name = folded h.word; number = k })) (name_again title.number h.from h.to)
    ∙ ap (λ n. Some (record { name = n; number = title.number })) (sym h.name)

name_solid : (byte : ℕ) → is_name_start byte ≡ true → is_solid byte ≡ true
name_solid byte h = grind arith

begins_name : (word rest : List ℕ) → IsWord word → stops is_blank (word ++ rest) ≡ true
begins_name [] rest h = absurd h
begins_name (first ∷ word) rest h = solid_stops first (word ++ rest) (name_solid first h.0)

solid_heading : (title : Title) → IsSolid (Heading title)
solid_heading title text h =
    let digits = decimal title.number in
    let ends : ends_solid (46 ∷ digits) ≡ true = ends_append (46 ∷ []) digits (ends_run digits (decimal_filled title.number h.to) (digits_run digits (decimal_digits title.number h.to))) in
    subst Solid (sym h.whole) (solid_by (h.word ++ 46 ∷ digits) (begins_name h.word (46 ∷ digits) h.is_name) (ends_append h.word (46 ∷ digits) ends))

solid_script : IsSolid (Token (codes "script"))
solid_script text e = subst Solid (sym e) (solid_run (codes "script") (omega arith) refl)

pub head_is : (line : List ℕ) (title : Title) → head_title line ≡ Some title → IsHead title line
unfolding head_title
head_is line title e = by (is_word (word_of (trimmed line)) (codes "script")) refl e
  where
    by : (b : Bool) → is_word (word_of (trimmed line)) (codes "script") ≡ b → cond b (after_space (after_word (trimmed line)) >>= title_of) None ≡ Some title → IsHead title line
    by true h u =
        let t = trimmed_is line in
        let b = bind_some (after_space (after_word (trimmed line))) title_of title u in
        let g = space_is (after_word (trimmed line)) b.0 b.1 in
        record {
          before = t.before;
          inner = trimmed line;
          after = t.after;
          whole = t.whole;
          blank = t.blank;
          blank_after = t.blank_after;
          is = record {
            front = word_of (trimmed line);
            blanks = g.blanks;
            back = b.0;
            whole = parts_of is_solid (trimmed line) ∙ ap (λ w. word_of (trimmed line) ++ w) g.whole;
            blank = g.blank;
            some = g.some;
            in_front = word_is (word_of (trimmed line)) (codes "script") h;
            in_back = title_is b.0 title b.2;
          };
        }
    by false h u = absurd cc

pub head_again : (line : List ℕ) (title : Title) → IsHead title line → head_title line ≡ Some title
unfolding head_title
head_again line title h =
    let g = h.is in
    let inner : trimmed line ≡ h.inner = ap trimmed h.whole ∙ trimmed_again h.before h.inner h.after (solid_spaced (Token (codes "script")) (Heading title) solid_script (solid_heading title) h.inner g) h.blank h.blank_after in
    let whole : trimmed line ≡ codes "script" ++ (g.blanks ++ g.back) = inner ∙ g.whole ∙ ap (λ w. w ++ (g.blanks ++ g.back)) g.in_front in
    let word : word_of (trimmed line) ≡ codes "script" = ap word_of whole ∙ word_again (codes "script") g.blanks g.back refl g.blank g.some in
    let after : after_word (trimmed line) ≡ g.blanks ++ g.back = ap after_word whole ∙ after_word_again (codes "script") g.blanks g.back refl g.blank g.some in
    let test : is_word (word_of (trimmed line)) (codes "script") ≡ true = ap (λ w. is_word w (codes "script")) word in
    rw test
    (ap (λ w. after_space w >>= title_of) after
    ∙ ap (λ o. o >>= title_of) (space_again g.blanks g.back g.blank g.some (solid_heading title g.back g.in_back).begins)
    ∙ title_again g.back title g.in_back)
