-- Blanks and runs at the front of a text, and texts of two forms with blanks between them.
use Rattle.std.proofs.Common.{◌≡◌, ℕ, ◌<◌, Bool, true, false, cond, List, [], ◌∷◌, ◌++◌, length, Option, Some, None, refl, sym, ap, subst, ◌∙◌, append_assoc, arith, length-append, true≢false}
use Rattle.std.specs.Prelude.{◌==◌}
use Rattle.std.specs.List.{list_all}
use Rattle.std.proofs.lemmas.Bool.{and_parts, and_from, eqb-true}
use Rattle.sp_fdl.specs.Text.{is_blank, is_run, begins_run, ends_run, IsApart, Form, Token, Then}
use Rattle.sp_fdl.specs.code.Tokens.{◌>>=◌, taken, dropped, after_blanks, run_of, after_run, after_first, after_mark}

-- ---- options

pub bind_some : {A B : Type 0} (o : Option A) (f : A → Option B) (y : B) → (o >>= f) ≡ Some y → (x : A) × (o ≡ Some x) × (f x ≡ Some y)
bind_some None f y e = absurd cc
bind_some (Some x) f y e = (x, refl, e)

pub some_is : {A : Type 0} (x y : A) → Some x ≡ Some y → x ≡ y
some_is x y e = cc

pub if_some : {A : Type 0} (b : Bool) (x : A) (y : A) → cond b (Some x) None ≡ Some y → (b ≡ true) × (x ≡ y)
if_some true x y e = (refl, cc)
if_some false x y e = absurd cc

-- which way a test went
pub chosen : {A : Type 0} (P : Type 0) (b : Bool) (x y z : A) → cond b x y ≡ z → (b ≡ true → x ≡ z → P) → (b ≡ false → y ≡ z → P) → P
chosen P true x y z e left right = left refl e
chosen P false x y z e left right = right refl e

-- ---- the front of a text

taken_yes : (test : ℕ → Bool) (byte : ℕ) (bytes : List ℕ) → test byte ≡ true → taken test (byte ∷ bytes) ≡ byte ∷ taken test bytes
taken_yes test byte bytes h = rw h refl

dropped_yes : (test : ℕ → Bool) (byte : ℕ) (bytes : List ℕ) → test byte ≡ true → dropped test (byte ∷ bytes) ≡ dropped test bytes
dropped_yes test byte bytes h = rw h refl

pub taken_no : (test : ℕ → Bool) (byte : ℕ) (bytes : List ℕ) → test byte ≡ false → taken test (byte ∷ bytes) ≡ []
taken_no test byte bytes h = rw h refl

pub dropped_no : (test : ℕ → Bool) (byte : ℕ) (bytes : List ℕ) → test byte ≡ false → dropped test (byte ∷ bytes) ≡ byte ∷ bytes
dropped_no test byte bytes h = rw h refl

-- a text goes on with no byte that passes
abbrev pub stops : (ℕ → Bool) → List ℕ → Bool
stops test [] = true
stops test (byte ∷ bytes) = cond (test byte) false true

pub taken_again : (test : ℕ → Bool) (front rest : List ℕ) → list_all test front ≡ true → stops test rest ≡ true → taken test (front ++ rest) ≡ front
taken_again test [] [] all stop = refl
taken_again test [] (byte ∷ rest) all stop = by (test byte) refl stop
  where
    by : (b : Bool) → test byte ≡ b → cond b false true ≡ true → taken test (byte ∷ rest) ≡ []
    by true h s = absurd cc
    by false h s = taken_no test byte rest h
taken_again test (byte ∷ front) rest all stop =
    let p = and_parts (test byte) (list_all test front) all in
    taken_yes test byte (front ++ rest) p.0 ∙ ap (λ w. byte ∷ w) (taken_again test front rest p.1 stop)

pub dropped_again : (test : ℕ → Bool) (front rest : List ℕ) → list_all test front ≡ true → dropped test (front ++ rest) ≡ dropped test rest
dropped_again test [] rest all = refl
dropped_again test (byte ∷ front) rest all =
    let p = and_parts (test byte) (list_all test front) all in
    dropped_yes test byte (front ++ rest) p.0 ∙ dropped_again test front rest p.1

pub dropped_stops : (test : ℕ → Bool) (rest : List ℕ) → stops test rest ≡ true → dropped test rest ≡ rest
dropped_stops test [] stop = refl
dropped_stops test (byte ∷ rest) stop = by (test byte) refl stop
  where
    by : (b : Bool) → test byte ≡ b → cond b false true ≡ true → dropped test (byte ∷ rest) ≡ byte ∷ rest
    by true h s = absurd cc
    by false h s = dropped_no test byte rest h

pub parts_of : (test : ℕ → Bool) (text : List ℕ) → text ≡ taken test text ++ dropped test text
parts_of test [] = refl
parts_of test (byte ∷ bytes) = by (test byte) refl (parts_of test bytes)
  where
    by : (b : Bool) → test byte ≡ b → bytes ≡ taken test bytes ++ dropped test bytes → byte ∷ bytes ≡ taken test (byte ∷ bytes) ++ dropped test (byte ∷ bytes)
    by true h e = rw h (ap (λ w. byte ∷ w) e)
    by false h e = rw h refl

pub taken_all : (test : ℕ → Bool) (text : List ℕ) → list_all test (taken test text) ≡ true
taken_all test [] = refl
taken_all test (byte ∷ bytes) = by (test byte) refl (taken_all test bytes)
  where
    by : (b : Bool) → test byte ≡ b → list_all test (taken test bytes) ≡ true → list_all test (taken test (byte ∷ bytes)) ≡ true
    by true h e = subst (λ w. list_all test w ≡ true) (sym (taken_yes test byte bytes h)) (and_from (test byte) (list_all test (taken test bytes)) h e)
    by false h e = ap (list_all test) (taken_no test byte bytes h)

pub dropped_stop : (test : ℕ → Bool) (text : List ℕ) → stops test (dropped test text) ≡ true
dropped_stop test [] = refl
dropped_stop test (byte ∷ bytes) = by (test byte) refl (dropped_stop test bytes)
  where
    by : (b : Bool) → test byte ≡ b → stops test (dropped test bytes) ≡ true → stops test (dropped test (byte ∷ bytes)) ≡ true
    by true h e = ap (stops test) (dropped_yes test byte bytes h) ∙ e
    by false h e = ap (stops test) (dropped_no test byte bytes h) ∙ rw h refl

-- ---- runs

pub stops_run : (text : List ℕ) → begins_run text ≡ false → stops is_run text ≡ true
stops_run [] h = refl
stops_run (byte ∷ bytes) h = rw h refl

pub run_stops : (text : List ℕ) → stops is_run text ≡ true → begins_run text ≡ false
run_stops [] h = refl
run_stops (byte ∷ bytes) h = by (is_run byte) h
  where
    by : (b : Bool) → cond b false true ≡ true → b ≡ false
    by true e = absurd cc
    by false e = refl

pub run_again : (run rest : List ℕ) → list_all is_run run ≡ true → begins_run rest ≡ false → run_of (run ++ rest) ≡ run
run_again run rest all stop = taken_again is_run run rest all (stops_run rest stop)

pub after_run_again : (run rest : List ℕ) → list_all is_run run ≡ true → begins_run rest ≡ false → after_run (run ++ rest) ≡ rest
after_run_again run rest all stop = dropped_again is_run run rest all ∙ dropped_stops is_run rest (stops_run rest stop)

pub after_run_apart : (text : List ℕ) → begins_run (after_run text) ≡ false
after_run_apart text = run_stops (after_run text) (dropped_stop is_run text)

pub ends_all : (byte : ℕ) (run : List ℕ) → list_all is_run (byte ∷ run) ≡ true → ends_run (byte ∷ run) ≡ true
ends_all byte [] all = (and_parts (is_run byte) true all).0
ends_all byte (next ∷ run) all = ends_all next run (and_parts (is_run byte) (list_all is_run (next ∷ run)) all).1

-- a run that ends where a text goes on
pub run_apart : (run rest : List ℕ) → 0 < length run → list_all is_run run ≡ true → IsApart run rest → begins_run rest ≡ false
run_apart [] rest some all apart = absurd (omega arith)
run_apart (byte ∷ run) rest some all apart = apart (ends_all byte run all)

pub ends_append : (front : List ℕ) (byte : ℕ) (back : List ℕ) → ends_run (front ++ byte ∷ back) ≡ ends_run (byte ∷ back)
ends_append [] byte back = refl
ends_append (first ∷ []) byte back = refl
ends_append (first ∷ next ∷ front) byte back = ends_append (next ∷ front) byte back

pub ends_filled : (front back : List ℕ) → 0 < length back → ends_run (front ++ back) ≡ ends_run back
ends_filled front [] some = absurd (omega arith)
ends_filled front (byte ∷ back) some = ends_append front byte back

pub begins_filled : (front back : List ℕ) → 0 < length front → begins_run (front ++ back) ≡ begins_run front
begins_filled [] back some = absurd (omega arith)
begins_filled (byte ∷ front) back some = refl

-- a part of what follows stands apart too
pub apart_less : (front back rest : List ℕ) → IsApart front (back ++ rest) → IsApart front back
apart_less front [] rest apart = λ ends. refl
apart_less front (byte ∷ back) rest apart = apart

pub apart_more : (front back rest : List ℕ) → 0 < length back → IsApart front back → IsApart front (back ++ rest)
apart_more front back rest some apart = λ ends. begins_filled back rest some ∙ apart ends

-- ---- what a reader took from the front of a text

pub record Takes (X : Form) (text rest : List ℕ) : Type 0 where
  pub front : List ℕ
  pub whole : text ≡ front ++ rest
  pub is : X front
  pub apart : IsApart front rest
  pub filled : 0 < length front

pub filled_append : (front blanks back : List ℕ) → 0 < length front → 0 < length (front ++ (blanks ++ back))
filled_append front blanks back some = omega (arith, length-append front (blanks ++ back))

three : (a b c d : List ℕ) → a ++ (b ++ (c ++ d)) ≡ (a ++ (b ++ c)) ++ d
three a b c d = simp append_assoc

-- a form, blanks and another form
pub takes_then : (X Y : Form) (text mid rest : List ℕ) → Takes X text mid → Takes Y (after_blanks mid) rest → Takes (Then X Y) text rest
takes_then X Y text mid rest one next =
    let blanks : List ℕ = taken is_blank mid in
    let is_mid : mid ≡ blanks ++ (next.front ++ rest) = parts_of is_blank mid ∙ ap (λ w. blanks ++ w) next.whole in
    let apart : IsApart one.front (blanks ++ (next.front ++ rest)) = subst (λ w. IsApart one.front w) is_mid one.apart in
    let less : IsApart one.front ((blanks ++ next.front) ++ rest) = subst (λ w. IsApart one.front w) (sym (append_assoc blanks next.front rest)) apart in
    record {
      front = one.front ++ (blanks ++ next.front);
      whole = one.whole ∙ ap (λ w. one.front ++ w) is_mid ∙ three one.front blanks next.front rest;
      is = record {
        front = one.front;
        blanks = blanks;
        back = next.front;
        whole = refl;
        blank = taken_all is_blank mid;
        apart = apart_less one.front (blanks ++ next.front) rest less;
        in_front = one.is;
        in_back = next.is;
      };
      apart = λ ends. next.apart (sym (ends_filled one.front (blanks ++ next.front) (omega (arith, length-append blanks next.front, next.filled)) ∙ ends_filled blanks next.front next.filled) ∙ ends);
      filled = filled_append one.front blanks next.front one.filled;
    }

-- a mark that begins no run
pub mark_takes : (mark : ℕ) (text rest : List ℕ) → is_run mark ≡ false → after_first mark text ≡ Some rest → Takes (Token (mark ∷ [])) text rest
mark_takes mark [] rest plain e = absurd cc
mark_takes mark (byte ∷ text) rest plain e =
    let g = if_some (byte == mark) text rest e in
    record {
      front = mark ∷ [];
      whole = ap (λ b. b ∷ text) (eqb-true byte mark g.0) ∙ ap (λ w. mark ∷ w) g.1;
      is = refl;
      apart = λ ends. absurd (true≢false (sym ends ∙ plain));
      filled = omega arith;
    }

pub after_mark_takes : (mark : ℕ) (text rest : List ℕ) → is_run mark ≡ false → after_mark mark text ≡ Some rest → Takes (Token (mark ∷ [])) (after_blanks text) rest
unfolding after_mark
after_mark_takes mark text rest plain e = mark_takes mark (after_blanks text) rest plain e

-- the run at the front
pub run_takes : (text : List ℕ) (run : List ℕ) → run_of text ≡ run → 0 < length run → Takes (Token run) text (after_run text)
run_takes text run e some = record {
  front = run;
  whole = parts_of is_run text ∙ ap (λ w. w ++ after_run text) e;
  is = refl;
  apart = λ ends. after_run_apart text;
  filled = some;
}

-- ---- blanks before what a reader takes

pub blanks_again : (blanks text : List ℕ) → list_all is_blank blanks ≡ true → stops is_blank text ≡ true → after_blanks (blanks ++ text) ≡ text
blanks_again blanks text all stop = dropped_again is_blank blanks text all ∙ dropped_stops is_blank text stop

pub mark_again : (mark : ℕ) (blanks rest : List ℕ) → is_blank mark ≡ false → list_all is_blank blanks ≡ true → after_mark mark (blanks ++ (mark ∷ rest)) ≡ Some rest
unfolding after_mark
mark_again mark blanks rest solid all =
    let stop : stops is_blank (mark ∷ rest) ≡ true = rw solid refl in
    ap (after_first mark) (blanks_again blanks (mark ∷ rest) all stop) ∙ same
  where
    same : after_first mark (mark ∷ rest) ≡ Some rest
    same = grind arith

-- a form whose texts have some bytes
abbrev pub IsFilled : Form → Type 0
IsFilled X = (text : List ℕ) → X text → 0 < length text

pub filled_token : (byte : ℕ) (token : List ℕ) → IsFilled (Token (byte ∷ token))
filled_token byte token text e = omega (arith, ap length e)

pub filled_then : (X Y : Form) → IsFilled X → IsFilled (Then X Y)
filled_then X Y some text h = subst (λ w. 0 < length w) (sym h.whole) (filled_append h.front h.blanks h.back (some h.front h.in_front))
