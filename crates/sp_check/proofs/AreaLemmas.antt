-- In a source that keeps the rules each name is declared for one area.
use Rattle.std.proofs.Common.{◌≡◌, ℕ, zero, suc, Bool, true, false, ◌||◌, List, [], ◌∷◌, ◌++◌, Option, Some, None, refl, sym, ap, subst, ◌∙◌, append_assoc}
use Rattle.std.specs.Prelude.{bytes_eq, unwrap_or, if◌then◌else◌}
use Rattle.std.specs.List.{filter_map, list_any, cons_option}
use Rattle.std.proofs.lemmas.List.{append-nil}
use Rattle.std.proofs.lemmas.List.Elements.{filter_map-append}
use Rattle.std.proofs.lemmas.List.Folds.{list_any-append}
use Rattle.std.proofs.lemmas.Slice.Eq.{bytes_eq-Decides}
use Rattle.sp_note.specs.Parts.{Part, NoteLine, Stack, Byte, Word, Bytes, Routine, Start, Pre, Post, Reads, Changes, Ins, Outs, Depth, Assert, End}
use Rattle.sp_prog.specs.declared.area.Area.{Area}
use Rattle.sp_unit.specs.Faults.{Source, area, area_by, area_in, areas_by, is_declared, clashes, fault, AreRight, is_stray, is_unknown, is_not_here, is_too_many}
use Rattle.sp_unit.specs.Lines.{Entry, Statement, Annotation, note_in, place_after}
use Rattle.sp_prog.specs.declared.area.AreaKind.TheVariants as kind
use Rattle.sp_unit.specs.declared.refusal.UnitKind.{UnitKind}
use Rattle.sp_unit.specs.declared.refusal.UnitKind.TheVariants.{Stray, Unknown, Clash, NotHere, TooMany}
use Rattle.sp_unit.specs.SourceUnits.{StandsAt}

module _ (s : Source) where
  areas_along : (entries : List Entry) → filter_map (area_in s) entries ≡ areas_by s.value (filter_map note_in entries)
  areas_along [] = refl
  areas_along (Statement i ∷ entries) = areas_along entries
  areas_along (Annotation n ∷ entries) = ap (λ l. cons_option (area_by s.value n.part) l) (areas_along entries)

  -- ---- What a line that breaks no rule declares

  left_false : (a b : Bool) → (a || b) ≡ false → a ≡ false
  left_false true b e = absurd cc
  left_false false b e = refl

  third_false : (a b c : Bool) (k l m : UnitKind) (rest : Option UnitKind)
      → (if a then Some k else (if b then Some l else (if c then Some m else rest))) ≡ None → c ≡ false
  third_false true b c k l m rest e = absurd cc
  third_false false true c k l m rest e = absurd cc
  third_false false false true k l m rest e = absurd cc
  third_false false false false k l m rest e = refl

  no_clash : (above below : List Entry) (n : NoteLine) → fault s above (Annotation n) below ≡ None → clashes s above n.part ≡ false
  no_clash above below n e =
      third_false (is_stray above (place_after above) n.part below) (is_unknown s n.part below) (clashes s above n.part) Stray Unknown Clash
      (if is_not_here (place_after above) n.part below then Some NotHere else (if is_too_many above (place_after above) n.part then Some TooMany else None)) e

  fresh_area : (above : List Entry) (part : Part) (a : Area) → area_by s.value part ≡ Some a → clashes s above part ≡ false → is_declared s above a.name ≡ false
  fresh_area above (Byte name addr) a is e =
      let same : area name kind.Byte (unwrap_or (s.value addr) 0) 1 ≡ a = cc in
      subst (λ (b : Area). is_declared s above b.name ≡ false) same (left_false _ _ e)
  fresh_area above (Word name addr) a is e =
      let same : area name kind.Word (unwrap_or (s.value addr) 0) 2 ≡ a = cc in
      subst (λ (b : Area). is_declared s above b.name ≡ false) same (left_false _ _ e)
  fresh_area above (Bytes name addr len) a is e =
      let same : area name kind.Bytes (unwrap_or (s.value addr) 0) (unwrap_or (s.value len) 0) ≡ a = cc in
      subst (λ (b : Area). is_declared s above b.name ≡ false) same (left_false _ _ e)
  fresh_area above (Stack first last) a is e = absurd cc
  fresh_area above (Routine name) a is e = absurd cc
  fresh_area above Start a is e = absurd cc
  fresh_area above (Pre note) a is e = absurd cc
  fresh_area above (Post note) a is e = absurd cc
  fresh_area above (Reads items) a is e = absurd cc
  fresh_area above (Changes items) a is e = absurd cc
  fresh_area above (Ins ports) a is e = absurd cc
  fresh_area above (Outs ports) a is e = absurd cc
  fresh_area above (Depth n) a is e = absurd cc
  fresh_area above (Assert note) a is e = absurd cc
  fresh_area above End a is e = absurd cc

-- ---- Areas with names of their own

abbrev named : List ℕ → Area → Bool
named name a = bytes_eq a.name name

-- each area has another name than those seen before it
abbrev pub AreFresh : List Area → List Area → Type 0
AreFresh seen [] = Unit {0}
AreFresh seen (a ∷ areas) = (list_any (named a.name) seen ≡ false) × AreFresh (seen ++ a ∷ []) areas

abbrev sees : Source → List Entry → List Area
sees s above = filter_map (area_in s) above

fresh_here : (s : Source) (above below : List Entry) (e : Entry) (a : Area) → area_in s e ≡ Some a → fault s above e below ≡ None
    → list_any (named a.name) (sees s above) ≡ false
fresh_here s above below (Statement i) a is right = absurd cc
fresh_here s above below (Annotation n) a is right = fresh_area s above n.part a is (no_clash s above below n right)

fresh_with : (seen rest : List Area) (o : Option Area) → ((a : Area) → o ≡ Some a → list_any (named a.name) seen ≡ false)
    → AreFresh (seen ++ cons_option o []) rest → AreFresh seen (cons_option o rest)
fresh_with seen rest None new h = subst (λ l. AreFresh l rest) (append-nil seen) h
fresh_with seen rest (Some a) new h = (new a refl, h)

fresh : (s : Source) (above below : List Entry) → ((front back : List Entry) (e : Entry) → below ≡ front ++ e ∷ back → fault s (above ++ front) e back ≡ None)
    → AreFresh (sees s above) (sees s below)
fresh s above [] right = tt
fresh s above (e ∷ below) right =
    let rest = fresh s (above ++ e ∷ []) below (λ front back x is.
    subst (λ l. fault s l x back ≡ None) (sym (append_assoc above (e ∷ []) front)) (right (e ∷ front) back x (ap (λ l. e ∷ l) is))) in
    let here : fault s above e below ≡ None = subst (λ l. fault s l e below ≡ None) (append-nil above) (right [] below e refl) in
    fresh_with (sees s above) (sees s below) (area_in s e) (λ a is. fresh_here s above below e a is here)
    (subst (λ l. AreFresh l (sees s below)) (filter_map-append (area_in s) above (e ∷ [])) rest)

-- the areas of a source are fresh
pub areas_fresh : (s : Source) (entries : List Entry) → filter_map note_in entries ≡ s.notes → AreRight s entries → AreFresh [] (areas_by s.value s.notes)
areas_fresh s entries are right =
    subst (λ ns. AreFresh [] (areas_by s.value ns)) are
    (subst (AreFresh []) (areas_along s entries) (fresh s [] entries (λ front back e is. right front back e is)))

-- ---- So each name has one place

some_is : (a b : List ℕ) → Some a ≡ Some b → a ≡ b
some_is a b e = cc

is_named : (a : Area) (name : List ℕ) → Some a.name ≡ Some name → named name a ≡ true
is_named a name e = subst (λ n. bytes_eq n name ≡ true) (sym (some_is a.name name e)) ((bytes_eq-Decides name name).1 refl)

no_more : (seen : List Area) (a : Area) (name : List ℕ) → list_any (named name) seen ≡ true → list_any (named name) (seen ++ a ∷ []) ≡ true
no_more seen a name h = list_any-append (named name) seen (a ∷ []) ∙ ap (λ b. b || (named name a || false)) h

last_named : (seen : List Area) (a : Area) (name : List ℕ) → named name a ≡ true → list_any (named name) (seen ++ a ∷ []) ≡ true
last_named seen a name h = list_any-append (named name) seen (a ∷ []) ∙ ap (λ b. list_any (named name) seen || (b || false)) h ∙ or_true (list_any (named name) seen)
  where
    or_true : (b : Bool) → (b || true) ≡ true
    or_true true = refl
    or_true false = refl

-- no area after those seen has the name of one of them
not_again : (seen areas : List Area) (name : List ℕ) (i : ℕ) → AreFresh seen areas → list_any (named name) seen ≡ true → StandsAt areas name i → ⊥
not_again seen [] name i h g at = cc
not_again seen (a ∷ areas) name zero h g at =
    let e : true ≡ false = sym g ∙ ap (λ n. list_any (named n) seen) (sym (some_is a.name name at)) ∙ h.0 in cc
not_again seen (a ∷ areas) name (suc i) h g at = not_again (seen ++ a ∷ []) areas name i h.1 (no_more seen a name g) at

pub one_place : (seen areas : List Area) (name : List ℕ) (i j : ℕ) → AreFresh seen areas → StandsAt areas name i → StandsAt areas name j → i ≡ j
one_place seen [] name i j h at there = absurd cc
one_place seen (a ∷ areas) name zero zero h at there = refl
one_place seen (a ∷ areas) name zero (suc j) h at there =
    absurd (not_again (seen ++ a ∷ []) areas name j h.1 (last_named seen a name (is_named a name at)) there)
one_place seen (a ∷ areas) name (suc i) zero h at there =
    absurd (not_again (seen ++ a ∷ []) areas name i h.1 (last_named seen a name (is_named a name there)) at)
one_place seen (a ∷ areas) name (suc i) (suc j) h at there = ap suc (one_place (seen ++ a ∷ []) areas name i j h.1 at there)
