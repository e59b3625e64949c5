-- Stretches of lines, and where lines stand.
use Rattle.std.proofs.Common.{◌≡◌, ℕ, zero, suc, ◌<◌, ◌≤◌, Bool, true, false, cond, ◌||◌, List, [], ◌∷◌, ◌++◌, length, map, take, drop, get_or, refl, sym, ap, ◌∙◌, arith, append-nil, append_assoc}
use Rattle.std.specs.Prelude.{fold}
use Rattle.std.specs.List.{list_any}
use Rattle.std.proofs.lemmas.List.Sums.{fold-append}
use Rattle.sp_note.specs.Parts.{Part, Routine}
use Rattle.sp_unit.specs.Lines.{Entry, is_assert_part, is_end_part, is_routine_part, Statement, Annotation, is_routine, is_end, ends_header, before, Place, Outside, InHeader, InBody, grown, next_place, place_after, PlacesAreFound}

-- ---- Stretches

module _ {A B : Type 0} (v : A → B) (test : B → Bool) where
  -- those that were passed, and what comes of the others
  abbrev pub stretch : ℕ → List A → List B
  stretch i xs = map v (take i xs) ++ before test (map v (drop i xs))

  pub starts : (xs : List A) → stretch 0 xs ≡ before test (map v xs)
  starts xs = refl

  pub goes_on : (i : ℕ) (xs : List A) (d : A) → i < length xs → test (v (get_or xs i d)) ≡ false → stretch (suc i) xs ≡ stretch i xs
  goes_on i [] d lt passes = absurd (omega (arith, lt))
  goes_on zero (x ∷ xs) d lt passes = sym (ap (λ t. cond t [] (v x ∷ before test (map v xs))) passes)
  goes_on (suc i) (x ∷ xs) d lt passes = ap (λ rest. v x ∷ rest) (goes_on i xs d (omega (arith, lt)) passes)

  pub stops : (i : ℕ) (xs : List A) (d : A) → i < length xs → test (v (get_or xs i d)) ≡ true → stretch i xs ≡ map v (take i xs)
  stops i [] d lt passes = absurd (omega (arith, lt))
  stops zero (x ∷ xs) d lt passes = ap (λ t. cond t [] (v x ∷ before test (map v xs))) passes
  stops (suc i) (x ∷ xs) d lt passes = ap (λ rest. v x ∷ rest) (stops i xs d (omega (arith, lt)) passes)

  pub ends : (i : ℕ) (xs : List A) → length xs ≤ i → stretch i xs ≡ map v xs
  ends zero [] le = refl
  ends (suc i) [] le = refl
  ends zero (x ∷ xs) le = absurd (omega (arith, le))
  ends (suc i) (x ∷ xs) le = ap (λ rest. v x ∷ rest) (ends i xs (omega (arith, le)))

-- ---- Places

or_parts : (a b : Bool) → (a || b) ≡ false → (a ≡ false) × (b ≡ false)
or_parts false b h = (refl, h)
or_parts true b h = absurd cc

quiet : (e : Entry) → ends_header e ≡ false → (is_routine e ≡ false) × (is_end e ≡ false)
quiet (Statement item) h = absurd cc
quiet (Annotation note) h =
    let parts = or_parts (is_assert_part note.part) (is_end_part note.part || is_routine_part note.part) h in
    let more = or_parts (is_end_part note.part) (is_routine_part note.part) parts.1 in
    (more.1, more.0)

next_is : (place : Place) (e : Entry) → is_routine e ≡ false → is_end e ≡ false → next_place place e ≡ grown place e
next_is place e r d = ap (λ t. cond t (InHeader []) (cond (is_end e) Outside (grown place e))) r ∙ ap (λ t. cond t Outside (grown place e)) d

begins : (place : Place) (r : Entry) → is_routine r ≡ true → next_place place r ≡ InHeader []
begins place r h = ap (λ t. cond t (InHeader []) (cond (is_end r) Outside (grown place r))) h

not_both : (e : Entry) → is_end e ≡ true → is_routine e ≡ false
not_both (Statement item) h = refl
not_both (Annotation note) h = by note.part h
  where
    by : (part : Part) → is_end_part part ≡ true → is_routine_part part ≡ false
    by (Routine name) h = absurd cc
    by _ h = refl

closes : (place : Place) (e : Entry) → is_end e ≡ true → next_place place e ≡ Outside
closes place e h =
    ap (λ t. cond t (InHeader []) (cond (is_end e) Outside (grown place e))) (not_both e h) ∙ ap (λ t. cond t Outside (grown place e)) h

stays_header : (acc : List Entry) (e : Entry) → ends_header e ≡ false → next_place (InHeader acc) e ≡ InHeader (acc ++ e ∷ [])
stays_header acc e h =
    let q = quiet e h in
    next_is (InHeader acc) e q.0 q.1 ∙ ap (λ t. cond t (InBody acc (e ∷ [])) (InHeader (acc ++ e ∷ []))) h

header_goes : (acc lines : List Entry) → list_any ends_header lines ≡ false → fold next_place (InHeader acc) lines ≡ InHeader (acc ++ lines)
header_goes acc [] h = ap InHeader (sym (append-nil acc))
header_goes acc (e ∷ lines) h =
    let parts = or_parts (ends_header e) (list_any ends_header lines) h in
    ap (λ p. fold next_place p lines) (stays_header acc e parts.0) ∙ header_goes (acc ++ e ∷ []) lines parts.1 ∙ ap InHeader (append_assoc acc (e ∷ []) lines)

body_goes : (lines acc more : List Entry) → list_any (λ x. is_routine x || is_end x) more ≡ false → fold next_place (InBody lines acc) more ≡ InBody lines (acc ++ more)
body_goes lines acc [] h = ap (InBody lines) (sym (append-nil acc))
body_goes lines acc (e ∷ more) h =
    let parts = or_parts (is_routine e || is_end e) (list_any (λ x. is_routine x || is_end x) more) h in
    let here = or_parts (is_routine e) (is_end e) parts.0 in
    ap (λ p. fold next_place p more) (next_is (InBody lines acc) e here.0 here.1) ∙ body_goes lines (acc ++ e ∷ []) more parts.1
    ∙ ap (InBody lines) (append_assoc acc (e ∷ []) more)

outside_goes : (more : List Entry) → list_any is_routine more ≡ false → fold next_place Outside more ≡ Outside
outside_goes [] h = refl
outside_goes (e ∷ more) h =
    let parts = or_parts (is_routine e) (list_any is_routine more) h in
    ap (λ p. fold next_place p more) (stays (is_end e) parts.0) ∙ outside_goes more parts.1
  where
    stays : (t : Bool) → is_routine e ≡ false → next_place Outside e ≡ Outside
    stays t r = ap (λ b. cond b (InHeader []) (cond (is_end e) Outside Outside)) r ∙ same (is_end e)
      where
        same : (b : Bool) → cond b Outside Outside ≡ Outside
        same true = refl
        same false = refl

place_of_header : (front lines : List Entry) (r : Entry) → is_routine r ≡ true → list_any ends_header lines ≡ false → place_after (front ++ r ∷ lines) ≡ InHeader lines
place_of_header front lines r h quiet_lines =
    fold-append next_place Outside front (r ∷ lines) ∙ ap (λ p. fold next_place p lines) (begins (place_after front) r h) ∙ header_goes [] lines quiet_lines

pub places_are_found : PlacesAreFound
places_are_found = record {
  header = place_of_header;
  body = λ front lines more r e h quiet_lines closes_header within.
      let parts = or_parts (is_routine e || is_end e) (list_any (λ x. is_routine x || is_end x) more) within in
      let here = or_parts (is_routine e) (is_end e) parts.0 in
      ap place_after (sym (append_assoc front (r ∷ lines) (e ∷ more)))
      ∙ fold-append next_place Outside (front ++ r ∷ lines) (e ∷ more)
      ∙ ap (λ p. fold next_place (next_place p e) more) (place_of_header front lines r h quiet_lines)
      ∙ ap (λ p. fold next_place p more)
      (next_is (InHeader lines) e here.0 here.1 ∙ ap (λ t. cond t (InBody lines (e ∷ [])) (InHeader (lines ++ e ∷ []))) closes_header)
      ∙ body_goes lines (e ∷ []) more parts.1;
  outside = λ front more e h quiet_lines.
      fold-append next_place Outside front (e ∷ more) ∙ ap (λ p. fold next_place p more) (closes (place_after front) e h) ∙ outside_goes more quiet_lines;
  before = outside_goes;
}
