-- The lines of a routine: where each stands, and what the annotations among them keep.
use Rattle.std.proofs.Common.{◌≡◌, ℕ, suc, ◌<◌, ◌≤◌, Bool, true, false, cond, ◌||◌, List, [], ◌∷◌, ◌++◌, length, Option, Some, None, is_some, refl, sym, ap, subst, ◌∙◌, arith, append_assoc}
use Rattle.std.specs.Prelude.{filter, nat_le}
use Rattle.std.specs.Option.{option_map}
use Rattle.std.specs.List.{list_any, filter_map, cons_option}
use Rattle.std.proofs.lemmas.Bool.Decides.{nat_tests}
use Rattle.std.proofs.lemmas.List.Elements.{filter_map-append}
use Rattle.sp_asm.proofs.SplitLaws.{head_is, tail_is}
use Rattle.sp_note.specs.Parts as parts
use Rattle.sp_note.specs.Parts.{NoteLine, Part}
use Rattle.sp_note.specs.RawNotes.{RawNote}
use Rattle.sp_unit.specs.Lines.{Entry, Statement, Annotation, is_note, is_routine, is_routine_part, is_start, is_start_part, before, header, ends_header, InHeader, place_after}
use Rattle.sp_unit.specs.Faults.{Source, AreRight, is_not_here, is_too_many, count, is_pre_part, is_post_part}
use Rattle.sp_unit.specs.Words.{has_word}
use Rattle.sp_unit.specs.SourceUnits.{Raw, raws, pre_in, post_in, named_in, Begun}
use Rattle.sp_unit.proofs.LineLemmas.{places_are_found}
use Rattle.sp_unit.proofs.UnitListLemmas.{Each, each_append, each_given, few}
use Rattle.sp_unit.proofs.UnitFaultLemmas.{IsRight}
use Rattle.sp_unit.proofs.UnitAreaLemmas.{line_right}
use Rattle.sp_unit.proofs.UnitFoundLemmas.{BeginsAt}

-- ---- The lines before the first of some kind

module _ {A : Type 0} (test : A → Bool) where
  pub record SplitsBefore (xs a c : List A) (e : A) : Type 0 where
    pub below : List A
    pub whole : xs ≡ a ++ e ∷ below
    pub rest : before test below ≡ c
    pub quiet : list_any test a ≡ false
    pub here : test e ≡ false

  none_is : (a c : List A) (e : A) → [] ≡ a ++ e ∷ c → ⊥
  none_is [] c e h = cc
  none_is (x ∷ a) c e h = cc

  pub before_split : (xs a c : List A) (e : A) → before test xs ≡ a ++ e ∷ c → SplitsBefore xs a c e
  before_split [] a c e h = absurd (none_is a c e h)
  before_split (x ∷ xs) [] c e h = by (test x) refl h
    where
      by : (b : Bool) → test x ≡ b → cond b [] (x ∷ before test xs) ≡ e ∷ c → SplitsBefore (x ∷ xs) [] c e
      by true t k = absurd cc
      by false t k =
          let first = head_is x e (before test xs) c k in
          record { below = xs; whole = ap (λ z. z ∷ xs) first; rest = tail_is x e (before test xs) c k; quiet = refl; here = ap test (sym first) ∙ t }
  before_split (x ∷ xs) (y ∷ a) c e h = by (test x) refl h (before_split xs a c e)
    where
      by : (b : Bool) → test x ≡ b → cond b [] (x ∷ before test xs) ≡ y ∷ (a ++ e ∷ c) → (before test xs ≡ a ++ e ∷ c → SplitsBefore xs a c e) → SplitsBefore (x ∷ xs) (y ∷ a) c e
      by true t k again = absurd cc
      by false t k again =
          let first = head_is x y (before test xs) (a ++ e ∷ c) k in
          let found = again (tail_is x y (before test xs) (a ++ e ∷ c) k) in
          record {
            below = found.below;
            whole = ap (λ z. z ∷ xs) first ∙ ap (λ l. y ∷ l) found.whole;
            rest = found.rest;
            quiet = ap (λ t. t || list_any test a) (ap test (sym first) ∙ t) ∙ found.quiet;
            here = found.here;
          }

  -- they stand first
  pub before_front : (xs : List A) → (rest : List A) × (xs ≡ before test xs ++ rest)
  before_front [] = ([], refl)
  before_front (x ∷ xs) = by (test x) (before_front xs)
    where
      by : (b : Bool) → ((rest : List A) × (xs ≡ before test xs ++ rest)) → (rest : List A) × (x ∷ xs ≡ cond b [] (x ∷ before test xs) ++ rest)
      by true again = (x ∷ xs, refl)
      by false again = (again.0, ap (λ l. x ∷ l) again.1)

-- ---- Annotations among lines

-- what a line says
abbrev pub said_at : (Part → Option RawNote) → Entry → Option Raw
said_at said (Statement item) = None
said_at said (Annotation n) = option_map (λ note. record { line = n.line; note = note }) (said n.part)

pub raws_are : (said : Part → Option RawNote) (lines : List Entry) → raws said lines ≡ filter_map (said_at said) lines
raws_are said [] = refl
raws_are said (Statement item ∷ lines) = raws_are said lines
raws_are said (Annotation n ∷ lines) = ap (cons_option (said_at said (Annotation n))) (raws_are said lines)

pub raws_append : (said : Part → Option RawNote) (xs ys : List Entry) → raws said (xs ++ ys) ≡ raws said xs ++ raws said ys
raws_append said xs ys = raws_are said (xs ++ ys) ∙ filter_map-append (said_at said) xs ys ∙ (λ i. sym (raws_are said xs) i ++ sym (raws_are said ys) i)

-- a line says this
pub record Says (said : Part → Option RawNote) (e : Entry) (r : Raw) : Type 0 where
  pub note : NoteLine
  pub is : e ≡ Annotation note
  pub said_is : said note.part ≡ Some r.note
  pub line : r.line ≡ note.line

says : (said : Part → Option RawNote) (e : Entry) (r : Raw) → said_at said e ≡ Some r → Says said e r
says said (Statement item) r h = absurd cc
says said (Annotation n) r h = by (said n.part) refl h
  where
    by : (o : Option RawNote) → said n.part ≡ o → option_map (λ note. record { line = n.line; note = note }) o ≡ Some r → Says said (Annotation n) r
    by None e k = absurd cc
    by (Some note) e k =
        let there : Raw = record { line = n.line; note = note } in
        let same : there ≡ r = cc in
        record { note = n; is = refl; said_is = e ∙ ap (λ (x : Raw). Some x.note) same; line = ap (λ (x : Raw). x.line) (sym same) }

pub each_said : (said : Part → Option RawNote) (P : Raw → Type 0) (lines : List Entry) → ((a c : List Entry) (e : Entry) (r : Raw) → lines ≡ a ++ e ∷ c → Says said e r → P r) → Each P (raws said lines)
each_said said P lines h =
    subst (Each P) (sym (raws_are said lines)) (each_given (said_at said) (λ (x y : Raw). true) P lines (λ a c e r whole is. h a c e r whole (says said e r is)))

is_said : (said : Part → Option RawNote) (test : Part → Bool) → ((part : Part) → is_some (said part) ≡ test part) → (lines : List Entry) → length (raws said lines) ≡ count test lines
is_said said test same [] = refl
is_said said test same (Statement item ∷ lines) = is_said said test same lines
is_said said test same (Annotation n ∷ lines) = by (said n.part) (test n.part) (same n.part) (is_said said test same lines)
  where
    by : (o : Option RawNote) (b : Bool) → is_some o ≡ b → length (raws said lines) ≡ count test lines
        → length (cons_option (option_map (λ note. record { line = n.line; note = note }) o) (raws said lines)) ≡ length (cond b (Annotation n ∷ filter (is_note test) lines) (filter (is_note test) lines))
    by None false e k = k
    by (Some note) true e k = ap suc k
    by None true e k = absurd cc
    by (Some note) false e k = absurd cc

pub says_pre : (part : Part) → is_some (pre_in part) ≡ is_pre_part part
says_pre (parts.Pre note) = refl
says_pre _ = refl

pub says_post : (part : Part) → is_some (post_in part) ≡ is_post_part part
says_post (parts.Post note) = refl
says_post _ = refl

-- ---- The lines of a header

-- a line of the header of a routine
pub record InHeaderAt (es front : List Entry) (n : NoteLine) (a c : List Entry) (e : Entry) : Type 0 where
  pub under : List Entry
  pub whole : es ≡ (front ++ Annotation n ∷ a) ++ e ∷ under
  pub place : place_after (front ++ Annotation n ∷ a) ≡ InHeader a
  pub rest : header under ≡ c

le_false : (a b : ℕ) → nat_le a b ≡ false → b < a
le_false a b h = grind (arith, nat_tests)

or_false : (a b : Bool) → (a || b) ≡ false → (a ≡ false) × (b ≡ false)
or_false true b h = absurd cc
or_false false b h = (refl, h)

pre_is : (part : Part) (note : RawNote) → pre_in part ≡ Some note → part ≡ parts.Pre note
pre_is (parts.Pre other) note e = let is : other ≡ note = cc in ap (λ r. parts.Pre r) is
pre_is _ note e = absurd cc

post_is : (part : Part) (note : RawNote) → post_in part ≡ Some note → part ≡ parts.Post note
post_is (parts.Post other) note e = let is : other ≡ note = cc in ap (λ r. parts.Post r) is
post_is _ note e = absurd cc

-- annotations of one place: few, without words of the stack
pub record AreRawsRight (rs : List Raw) : Type 0 where
  pub few : length rs ≤ 64
  pub words : Each (λ (r : Raw). has_word r.note ≡ false) rs

module _ (s : Source) (es : List Entry) (right : AreRight s es) (b : Begun) (at : BeginsAt es b) where
  begins : is_routine (Annotation at.note) ≡ true
  begins = ap is_routine_part at.part

  pub in_header : (a c : List Entry) (e : Entry) → header b.below ≡ a ++ e ∷ c → InHeaderAt es at.front at.note a c e
  in_header a c e h =
      let split = before_split ends_header b.below a c e h in
      record {
        under = split.below;
        whole = at.whole ∙ ap (λ l. at.front ++ Annotation at.note ∷ l) split.whole ∙ sym (append_assoc at.front (Annotation at.note ∷ a) (e ∷ split.below));
        place = places_are_found.header at.front a (Annotation at.note) begins split.quiet;
        rest = split.rest;
      }

  -- what a line of the header keeps
  pub header_right : (a c : List Entry) (m : NoteLine) (h : header b.below ≡ a ++ Annotation m ∷ c) → IsRight s (at.front ++ Annotation at.note ∷ a) (InHeader a) m.part (in_header a c (Annotation m) h).under
  header_right a c m h =
      let there = in_header a c (Annotation m) h in
      subst (λ place. IsRight s (at.front ++ Annotation at.note ∷ a) place m.part there.under) there.place
      (line_right s es right (at.front ++ Annotation at.note ∷ a) there.under m there.whole)

  -- what its `pre` and `post` lines keep
  note_at : (said : Part → Option RawNote) (a c : List Entry) (e : Entry) (r : Raw) → header b.below ≡ a ++ e ∷ c → Says said e r
      → (m : NoteLine) × (header b.below ≡ a ++ Annotation m ∷ c) × (said m.part ≡ Some r.note)
  note_at said a c e r h is = (is.note, h ∙ ap (λ x. a ++ x ∷ c) is.is, is.said_is)

  pre_words : (a c : List Entry) (e : Entry) (r : Raw) → header b.below ≡ a ++ e ∷ c → Says pre_in e r → has_word r.note ≡ false
  pre_words a c e r h is =
      let line = note_at pre_in a c e r h is in
      let keeps = header_right a c line.0 line.1 in
      subst (λ part. is_not_here (InHeader a) part (in_header a c (Annotation line.0) line.1).under ≡ false) (pre_is line.0.part r.note line.2) keeps.here

  -- a `post` line has no word of the stack, and its routine isn't a start routine
  post_parts : (a c : List Entry) (e : Entry) (r : Raw) → header b.below ≡ a ++ e ∷ c → Says post_in e r → (has_word r.note ≡ false) × (list_any is_start (header b.below) ≡ false)
  post_parts a c e r h is =
      let line = note_at post_in a c e r h is in
      let keeps = header_right a c line.0 line.1 in
      let there = in_header a c (Annotation line.0) line.1 in
      let here = subst (λ part. is_not_here (InHeader a) part there.under ≡ false) (post_is line.0.part r.note line.2) keeps.here in
      let halves = or_false (list_any is_start a || list_any is_start (header there.under)) (has_word r.note) here in
      let starts = or_false (list_any is_start a) (list_any is_start (header there.under)) halves.0 in
      let below : list_any is_start c ≡ false = ap (list_any is_start) (sym there.rest) ∙ starts.1 in
      (halves.1, ap (list_any is_start) line.1 ∙ any_middle a c (Annotation line.0) starts.0 (ap is_start_part (post_is line.0.part r.note line.2)) below)
    where
      any_middle : (xs ys : List Entry) (x : Entry) → list_any is_start xs ≡ false → is_start x ≡ false → list_any is_start ys ≡ false → list_any is_start (xs ++ x ∷ ys) ≡ false
      any_middle [] ys x h k l = ap (λ t. t || list_any is_start ys) k ∙ l
      any_middle (z ∷ xs) ys x h k l = let parts = or_false (is_start z) (list_any is_start xs) h in ap (λ t. t || list_any is_start (xs ++ x ∷ ys)) parts.0 ∙ any_middle xs ys x parts.1 k l

  pre_few : (a c : List Entry) (e : Entry) → header b.below ≡ a ++ e ∷ c → is_note is_pre_part e ≡ true → count is_pre_part a < 64
  pre_few a c (Statement item) h is = absurd cc
  pre_few a c (Annotation m) h is = by m.part (header_right a c m h).many is
    where
      by : (part : Part) → is_too_many (at.front ++ Annotation at.note ∷ a) (InHeader a) part ≡ false → is_pre_part part ≡ true → count is_pre_part a < 64
      by (parts.Pre note) many k = le_false 64 (count is_pre_part a) many
      by _ many k = absurd cc

  post_few : (a c : List Entry) (e : Entry) → header b.below ≡ a ++ e ∷ c → is_note is_post_part e ≡ true → count is_post_part a < 64
  post_few a c (Statement item) h is = absurd cc
  post_few a c (Annotation m) h is = by m.part (header_right a c m h).many is
    where
      by : (part : Part) → is_too_many (at.front ++ Annotation at.note ∷ a) (InHeader a) part ≡ false → is_post_part part ≡ true → count is_post_part a < 64
      by (parts.Post note) many k = le_false 64 (count is_post_part a) many
      by _ many k = absurd cc

  pub pre_right : AreRawsRight (raws pre_in (header b.below))
  pre_right = record {
    few = subst (λ k. k ≤ 64) (sym (is_said pre_in is_pre_part says_pre (header b.below))) (few (is_note is_pre_part) 64 (header b.below) (λ a c e h is. pre_few a c e h is));
    words = each_said pre_in (λ (r : Raw). has_word r.note ≡ false) (header b.below) pre_words;
  }

  pub post_right : AreRawsRight (raws post_in (header b.below))
  post_right = record {
    few = subst (λ k. k ≤ 64) (sym (is_said post_in is_post_part says_post (header b.below))) (few (is_note is_post_part) 64 (header b.below) (λ a c e h is. post_few a c e h is));
    words = each_said post_in (λ (r : Raw). has_word r.note ≡ false) (header b.below) (λ a c e r h is. (post_parts a c e r h is).0);
  }

  -- nothing is said of a start routine's return
  pub start_post : list_any is_start (header b.below) ≡ true → raws post_in (header b.below) ≡ []
  start_post starts = by (raws post_in (header b.below)) refl
      (each_said post_in (λ (r : Raw). list_any is_start (header b.below) ≡ false) (header b.below) (λ a c e r h is. (post_parts a c e r h is).1))
    where
      by : (rs : List Raw) → raws post_in (header b.below) ≡ rs → Each (λ (r : Raw). list_any is_start (header b.below) ≡ false) (raws post_in (header b.below)) → raws post_in (header b.below) ≡ []
      by [] e h = e
      by (r ∷ rs) e h = let none = (subst (Each (λ (x : Raw). list_any is_start (header b.below) ≡ false)) e h).0 in let wrong : true ≡ false = sym starts ∙ none in absurd cc

-- what lines name
pub each_named : {X : Type 0} (named : Part → List X) (P : X → Type 0) (lines : List Entry) → ((a c : List Entry) (m : NoteLine) → lines ≡ a ++ Annotation m ∷ c → Each P (named m.part)) → Each P (named_in named lines)
each_named named P [] h = tt
each_named named P (Statement item ∷ lines) h = each_named named P lines (λ a c m e. h (Statement item ∷ a) c m (ap (λ l. Statement item ∷ l) e))
each_named named P (Annotation n ∷ lines) h =
    each_append P (named n.part) (named_in named lines) (h [] lines n refl) (each_named named P lines (λ a c m e. h (Annotation n ∷ a) c m (ap (λ l. Annotation n ∷ l) e)))
