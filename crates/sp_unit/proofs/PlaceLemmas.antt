-- Tests and counts of lines with one line more.
use Rattle.std.proofs.Common.{◌≡◌, ◌+◌, Bool, true, false, cond, ◌||◌, List, [], ◌∷◌, ◌++◌, length, length-append, map, filter, refl, sym, ap, subst, ◌∙◌}
use Rattle.std.specs.List.{list_any}
use Rattle.std.proofs.lemmas.List.Elements.{filter-append}
use Rattle.sp_note.specs.Parts.{Part}
use Rattle.sp_unit.specs.declared.place.Header.{Header}
use Rattle.sp_unit.specs.declared.place.Body.{Body}
use Rattle.sp_unit.specs.declared.place.Place as declared
use Rattle.sp_unit.specs.declared.place.Place.TheVariants as at
use Rattle.sp_unit.specs.code.Places.{IsHeader, IsBody, IsPlace}
use Rattle.sp_unit.specs.Lines.{Entry, is_note, is_start, is_end, is_routine, ends_header, header, Place, Outside, InHeader, InBody, grown, next_place}
use Rattle.sp_unit.specs.Faults.{count}

module _ {A B : Type 0} (test : B → Bool) (v : A → B) where
  pub any_mapped : (xs : List A) → list_any test (map v xs) ≡ list_any (λ x. test (v x)) xs
  any_mapped [] = refl
  any_mapped (x ∷ xs) = ap (λ t. test (v x) || t) (any_mapped xs)

or_false : (a : Bool) → (a || false) ≡ a
or_false true = refl
or_false false = refl

pub or_assoc : (a b c : Bool) → ((a || b) || c) ≡ (a || (b || c))
or_assoc true b c = refl
or_assoc false b c = refl

module _ {A : Type 0} (test : A → Bool) where
  pub any_more : (xs : List A) (x : A) → list_any test (xs ++ x ∷ []) ≡ (list_any test xs || test x)
  any_more [] x = or_false (test x)
  any_more (y ∷ xs) x = ap (λ t. test y || t) (any_more xs x) ∙ sym (or_assoc (test y) (list_any test xs) (test x))

one_of : (t : Bool) (e : Entry) → length (cond t (e ∷ []) []) ≡ cond t 1 0
one_of true e = refl
one_of false e = refl

pub count_more : (test : Part → Bool) (xs : List Entry) (e : Entry) → count test (xs ++ e ∷ []) ≡ count test xs + cond (is_note test e) 1 0
count_more test xs e =
    ap length (filter-append (is_note test) xs (e ∷ [])) ∙ length-append (filter (is_note test) xs) (filter (is_note test) (e ∷ []))
    ∙ ap (λ n. count test xs + n) (one_of (is_note test e) e)

-- a line of a header is one of those below its `routine` line
pub start_more : (all below : List Entry) (e : Entry) → ends_header e ≡ false
    → (list_any is_start all || list_any is_start (header (e ∷ below))) ≡ (list_any is_start (all ++ e ∷ []) || list_any is_start (header below))
start_more all below e h =
    ap (λ t. list_any is_start all || list_any is_start (cond t [] (e ∷ header below))) h
    ∙ sym (or_assoc (list_any is_start all) (is_start e) (list_any is_start (header below)))
    ∙ ap (λ t. t || list_any is_start (header below)) (sym (any_more is_start all e))

-- a line that ends the header isn't
pub start_ends : (all below : List Entry) (e : Entry) → ends_header e ≡ true → (list_any is_start all || list_any is_start (header (e ∷ below))) ≡ list_any is_start all
start_ends all below e h = ap (λ t. list_any is_start all || list_any is_start (cond t [] (e ∷ header below))) h ∙ or_false (list_any is_start all)

-- ---- Places with one line more

pub body_at : (b next : Body) (place : Place) (below : List Entry) (e : Entry) → ((all more : List Entry) → IsBody b all more → IsBody next all (more ++ e ∷ []))
    → IsPlace (at.Body b) place (e ∷ below) → IsPlace (at.Body next) (grown place e) below
body_at b next Outside below e after h = absurd h
body_at b next (InHeader lines) below e after h = absurd h
body_at b next (InBody lines more) below e after h = after lines more h

pub header_at : (b next : Header) (place : Place) (below : List Entry) (e : Entry) → ends_header e ≡ false
    → ((all : List Entry) → IsHeader b all (e ∷ below) → IsHeader next (all ++ e ∷ []) below)
    → IsPlace (at.Header b) place (e ∷ below) → IsPlace (at.Header next) (grown place e) below
header_at b next Outside below e quiet after h = absurd h
header_at b next (InBody lines more) below e quiet after h = absurd h
header_at b next (InHeader lines) below e quiet after h =
    subst (λ t. IsPlace (at.Header next) (cond t (InBody lines (e ∷ [])) (InHeader (lines ++ e ∷ []))) below) (sym quiet) (after lines h)

pub ended_at : (b : Header) (next : declared.Place) (place : Place) (below : List Entry) (e : Entry) → ends_header e ≡ true
    → ((all : List Entry) → IsHeader b all (e ∷ below) → IsPlace next (InBody all (e ∷ [])) below)
    → IsPlace (at.Header b) place (e ∷ below) → IsPlace next (grown place e) below
ended_at b next Outside below e ends after h = absurd h
ended_at b next (InBody lines more) below e ends after h = absurd h
ended_at b next (InHeader lines) below e ends after h =
    subst (λ t. IsPlace next (cond t (InBody lines (e ∷ [])) (InHeader (lines ++ e ∷ []))) below) (sym ends) (after lines h)

pub outside_at : (place : Place) (below : List Entry) (e : Entry) → IsPlace at.Outside place (e ∷ below) → IsPlace at.Outside (grown place e) below
outside_at Outside below e h = tt
outside_at (InHeader lines) below e h = absurd h
outside_at (InBody lines more) below e h = absurd h

-- where a routine begins or ends, and elsewhere
pub next_at : (next : declared.Place) (place : Place) (below : List Entry) (e : Entry) → is_routine e ≡ false → is_end e ≡ false
    → IsPlace next (grown place e) below → IsPlace next (next_place place e) below
next_at next place below e r d h =
    subst (λ t. IsPlace next (cond t (InHeader []) (cond (is_end e) Outside (grown place e))) below) (sym r)
    (subst (λ t. IsPlace next (cond t Outside (grown place e)) below) (sym d) h)
