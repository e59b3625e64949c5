-- Arguments and the blanks before them.
use Rattle.std.proofs.Common.{◌≡◌, ℕ, ◌<◌, Bool, true, false, cond, List, [], ◌∷◌, ◌++◌, length, Option, Some, None, refl, sym, ap, subst, ◌∙◌, arith, length-append}
use Rattle.std.specs.List.{list_all}
use Rattle.std.proofs.lemmas.Bool.{and_parts, and_from}
use Rattle.std.proofs.lemmas.List.{append-nil}
use Rattle.sp_fdl.specs.Text.{is_blank, Form}
use Rattle.sp_fdl.specs.code.Tokens.{◌>>=◌, taken, after_blanks}
use Rattle.sp_fdl.proofs.TextLemmas.{bind_some, some_is, stops, dropped_again, dropped_stops, parts_of, taken_all, dropped_stop, taken_again}
use Rattle.sp_script_text.specs.StepTexts.{Spaced, Arguments, NoArguments, With}
use Rattle.sp_script_text.specs.code.Words.{is_solid, word_of, after_word, after_space}
use Rattle.sp_script_text.proofs.WordLemmas.{solid_stop, solid_stops}

-- ---- blanks at the front

pub record Gap (text rest : List ℕ) : Type 0 where
  pub blanks : List ℕ
  pub whole : text ≡ blanks ++ rest
  pub blank : list_all is_blank blanks ≡ true
  pub some : 0 < length blanks

pub space_is : (text rest : List ℕ) → after_space text ≡ Some rest → Gap text rest
unfolding after_space
space_is [] rest e = absurd cc
space_is (byte ∷ bytes) rest e = by (is_blank byte) refl e
  where
    by : (b : Bool) → is_blank byte ≡ b → cond b (Some (after_blanks bytes)) None ≡ Some rest → Gap (byte ∷ bytes) rest
    by true h u = record {
      blanks = byte ∷ taken is_blank bytes;
      whole = ap (λ w. byte ∷ w) (parts_of is_blank bytes ∙ ap (λ w. taken is_blank bytes ++ w) (some_is (after_blanks bytes) rest u));
      blank = and_from (is_blank byte) (list_all is_blank (taken is_blank bytes)) h (taken_all is_blank bytes);
      some = omega arith;
    }
    by false h u = absurd cc

pub space_again : (blanks rest : List ℕ) → list_all is_blank blanks ≡ true → 0 < length blanks → stops is_blank rest ≡ true → after_space (blanks ++ rest) ≡ Some rest
unfolding after_space
space_again [] rest blank some stop = absurd (omega arith)
space_again (byte ∷ blanks) rest blank some stop =
    let p = and_parts (is_blank byte) (list_all is_blank blanks) blank in
    rw p.0 (ap Some (dropped_again is_blank blanks rest p.1 ∙ dropped_stops is_blank rest stop))

-- ---- a text of a form after blanks, and no text

pub record After (Y : Form) (text : List ℕ) : Type 0 where
  pub blanks : List ℕ
  pub back : List ℕ
  pub whole : text ≡ blanks ++ back
  pub blank : list_all is_blank blanks ≡ true
  pub some : 0 < length blanks
  pub is : Y back

abbrev pub Rest : Arguments → List ℕ → Type 0
Rest NoArguments text = text ≡ []
Rest (With Y) text = After Y text

-- ---- readers of whole texts

pub record ReadsWhole {A : Type 0} (f : List ℕ → Option A) (X : A → Form) : Type 0 where
  pub is : (text : List ℕ) (a : A) → f text ≡ Some a → X a text
  pub again : (text : List ℕ) (a : A) → X a text → f text ≡ Some a
  pub begins : (text : List ℕ) (a : A) → X a text → stops is_blank text ≡ true

pub last_is : {A : Type 0} (f : List ℕ → Option A) (X : A → Form) → ReadsWhole f X → (text : List ℕ) (a : A) → (after_space text >>= f) ≡ Some a → After (X a) text
last_is f X r text a e =
    let b = bind_some (after_space text) f a e in
    let g = space_is text b.0 b.1 in
    record { blanks = g.blanks; back = b.0; whole = g.whole; blank = g.blank; some = g.some; is = r.is b.0 a b.2 }

pub last_again : {A : Type 0} (f : List ℕ → Option A) (X : A → Form) → ReadsWhole f X → (text : List ℕ) (a : A) → After (X a) text → (after_space text >>= f) ≡ Some a
last_again f X r text a h =
    ap (λ w. after_space w >>= f) h.whole
    ∙ ap (λ o. o >>= f) (space_again h.blanks h.back h.blank h.some (r.begins h.back a h.is))
    ∙ r.again h.back a h.is

-- ---- readers of words, of texts without blanks

pub record ReadsWord {A : Type 0} (f : List ℕ → Option A) (X : A → Form) : Type 0 where
  pub is : (text : List ℕ) (a : A) → f text ≡ Some a → X a text
  pub again : (text : List ℕ) (a : A) → X a text → f text ≡ Some a
  pub word : (text : List ℕ) (a : A) → X a text → list_all is_solid text ≡ true
  pub filled : (text : List ℕ) (a : A) → X a text → 0 < length text

-- a word after blanks, and what follows it
pub record Next (X : Form) (text rest : List ℕ) : Type 0 where
  pub blanks : List ℕ
  pub word : List ℕ
  pub whole : text ≡ blanks ++ (word ++ rest)
  pub blank : list_all is_blank blanks ≡ true
  pub some : 0 < length blanks
  pub is : X word
  pub stop : stops is_solid rest ≡ true

abbrev pub next_of : {A : Type 0} → (List ℕ → Option A) → List ℕ → Option (A × List ℕ)
next_of f text = after_space text >>= λ rest. f (word_of rest) >>= λ a. Some (a, after_word rest)

pub next_is : {A : Type 0} (f : List ℕ → Option A) (X : A → Form) → ReadsWord f X → (text : List ℕ) (p : A × List ℕ) → next_of f text ≡ Some p → Next (X p.0) text p.1
next_is f X r text p e =
    let b = bind_some (after_space text) (λ rest. f (word_of rest) >>= λ a. Some (a, after_word rest)) p e in
    let c = bind_some (f (word_of b.0)) (λ a. Some (a, after_word b.0)) p b.2 in
    let g = space_is text b.0 b.1 in
    let same : (c.0, after_word b.0) ≡ p = some_is _ p c.2 in
    subst (λ q. Next (X q.0) text q.1) same (record {
      blanks = g.blanks;
      word = word_of b.0;
      whole = g.whole ∙ ap (λ w. g.blanks ++ w) (parts_of is_solid b.0);
      blank = g.blank;
      some = g.some;
      is = r.is (word_of b.0) c.0 c.1;
      stop = dropped_stop is_solid b.0;
    })

word_begins : (word rest : List ℕ) → 0 < length word → list_all is_solid word ≡ true → stops is_blank (word ++ rest) ≡ true
word_begins [] rest some all = absurd (omega arith)
word_begins (byte ∷ word) rest some all = solid_stops byte (word ++ rest) (and_parts (is_solid byte) (list_all is_solid word) all).0

pub next_again : {A : Type 0} (f : List ℕ → Option A) (X : A → Form) → ReadsWord f X → (text : List ℕ) (a : A) (rest : List ℕ) → Next (X a) text rest → next_of f text ≡ Some (a, rest)
next_again f X r text a rest h =
    let solid : list_all is_solid h.word ≡ true = r.word h.word a h.is in
    let word : word_of (h.word ++ rest) ≡ h.word = taken_again is_solid h.word rest solid h.stop in
    let after : after_word (h.word ++ rest) ≡ rest = dropped_again is_solid h.word rest solid ∙ dropped_stops is_solid rest h.stop in
    ap (next_of f) h.whole
    ∙ ap (λ o. o >>= λ w. f (word_of w) >>= λ b. Some (b, after_word w)) (space_again h.blanks (h.word ++ rest) h.blank h.some (word_begins h.word rest (r.filled h.word a h.is) solid))
    ∙ ap (λ w. f w >>= λ b. Some (b, after_word (h.word ++ rest))) word
    ∙ ap (λ o. o >>= λ b. Some (b, after_word (h.word ++ rest))) (r.again h.word a h.is)
    ∙ ap (λ w. Some (a, w)) after

-- ---- a word, blanks and what follows

pub with_next : (X Y : Form) (text rest : List ℕ) → Next X text rest → After Y rest → After (Spaced X Y) text
with_next X Y text rest h g = record {
  blanks = h.blanks;
  back = h.word ++ rest;
  whole = h.whole;
  blank = h.blank;
  some = h.some;
  is = record { front = h.word; blanks = g.blanks; back = g.back; whole = ap (λ w. h.word ++ w) g.whole; blank = g.blank; some = g.some; in_front = h.is; in_back = g.is };
}

pub record Apart (X Y : Form) (text : List ℕ) : Type 0 where
  pub rest : List ℕ
  pub next : Next X text rest
  pub after : After Y rest

pub next_parts : (X Y : Form) (text : List ℕ) → After (Spaced X Y) text → Apart X Y text
next_parts X Y text h = record {
  rest = h.is.blanks ++ h.is.back;
  next = record {
    blanks = h.blanks;
    word = h.is.front;
    whole = h.whole ∙ ap (λ w. h.blanks ++ w) h.is.whole;
    blank = h.blank;
    some = h.some;
    is = h.is.in_front;
    stop = solid_stop h.is.blanks h.is.back h.is.some h.is.blank;
  };
  after = record { blanks = h.is.blanks; back = h.is.back; whole = refl; blank = h.is.blank; some = h.is.some; is = h.is.in_back };
}

-- a word with nothing after it
pub next_last : (X : Form) (text : List ℕ) → Next X text [] → After X text
next_last X text h = record { blanks = h.blanks; back = h.word; whole = h.whole ∙ ap (λ w. h.blanks ++ w) (append-nil h.word); blank = h.blank; some = h.some; is = h.is }

pub last_next : (X : Form) (text : List ℕ) → After X text → Next X text []
last_next X text h = record { blanks = h.blanks; word = h.back; whole = h.whole ∙ ap (λ w. h.blanks ++ w) (sym (append-nil h.back)); blank = h.blank; some = h.some; is = h.is; stop = refl }

pub after_some : (Y : Form) → After Y [] → ⊥
after_some Y h = absurd (omega (arith, ap length h.whole, length-append h.blanks h.back, h.some))

pub after_filled : (Y : Form) (text : List ℕ) → After Y text → 0 < length text
after_filled Y text h = omega (arith, ap length h.whole, length-append h.blanks h.back, h.some)

-- the word at the front of what follows blanks
pub word_at : (X : Form) (text rest : List ℕ) → Gap text rest → X (word_of rest) → Next X text (after_word rest)
word_at X text rest g h = record {
  blanks = g.blanks;
  word = word_of rest;
  whole = g.whole ∙ ap (λ w. g.blanks ++ w) (parts_of is_solid rest);
  blank = g.blank;
  some = g.some;
  is = h;
  stop = dropped_stop is_solid rest;
}

-- what a reader finds of a word
pub record Found (text word rest : List ℕ) : Type 0 where
  pub space : after_space text ≡ Some (word ++ rest)
  pub word_is : word_of (word ++ rest) ≡ word
  pub after : after_word (word ++ rest) ≡ rest
  pub filled : 0 < length text

pub word_next : (X : Form) (text rest : List ℕ) (h : Next X text rest) → list_all is_solid h.word ≡ true → 0 < length h.word → Found text h.word rest
word_next X text rest h solid some = record {
  space = ap after_space h.whole ∙ space_again h.blanks (h.word ++ rest) h.blank h.some (word_begins h.word rest some solid);
  word_is = taken_again is_solid h.word rest solid h.stop;
  after = dropped_again is_solid h.word rest solid ∙ dropped_stops is_solid rest h.stop;
  filled = omega (arith, ap length h.whole, length-append h.blanks (h.word ++ rest), h.some);
}
