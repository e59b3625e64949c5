-- Items of `reads` and `changes`, with one more, and the places of areas.
use Rattle.std.proofs.Common.{◌≡◌, ℕ, zero, suc, Bool, true, false, cond, ◌||◌, List, [], ◌∷◌, ◌++◌, length, find, fold, nat_eq, bytes_eq, Option, Some, None, is_some, refl, sym, ap, subst, ◌∙◌, append-nil}
use Rattle.std.specs.Prelude.{not, filter, slice_get}
use Rattle.std.specs.Cmp.Lexicographic.{pointwise, same_text}
use Rattle.std.specs.List.{AllZip, filter_map, list_any}
use Rattle.std.specs.Map.{lookup}
use Rattle.std.specs.Option.{option_map}
use Rattle.std.proofs.lemmas.Cmp.{nat_list_eq_equiv}
use Rattle.std.proofs.lemmas.List.Elements.{filter-append, filter_map-append}
use Rattle.std.proofs.lemmas.List.Folds.{list_any-append}
use Rattle.std.proofs.lemmas.List.Sums.{fold-append}
use Rattle.sp_base.specs.declared.locs.Locs.{Locs}
use Rattle.sp_base.specs.Locs as locations
use Rattle.sp_asm.specs.Meanings.{each_once}
use Rattle.sp_note.specs.declared.part.Listed.{Listed}
use Rattle.sp_note.specs.declared.part.Listed.TheVariants as listed
use Rattle.sp_prog.specs.declared.area.Area.{Area}
use Rattle.sp_prog.specs.declared.routine.Lists.{Lists}
use Rattle.sp_unit.specs.declared.lists.Mentioned.{Mentioned}
use Rattle.sp_unit.specs.Faults.{or_else}
use Rattle.sp_unit.specs.SourceUnits.{AreLists, StandsAt, with_locs, area_name}
use Rattle.sp_unit.specs.code.Building.{ArePlaces, IsMentioned}
use Rattle.sp_unit.proofs.ScopeLemmas.{find_append}
use Rattle.sp_unit.proofs.UnitListLemmas.{zip_append}

abbrev eq : List ℕ → List ℕ → Bool
eq = pointwise nat_eq

abbrev among : List ℕ → List (List ℕ) → Bool
among name names = list_any (eq name) names

-- ---- Each name once

or_none : (a : Bool) → (a || false) ≡ a
or_none true = refl
or_none false = refl

kept : (p : List ℕ → Bool) (x name : List ℕ) (a b : Bool) (once : List (List ℕ)) → p name ≡ not b
    → x ∷ filter p (cond a once (once ++ name ∷ [])) ≡ cond (b || a) (x ∷ filter p once) (x ∷ filter p once ++ name ∷ [])
kept p x name true true once h = refl
kept p x name true false once h = refl
kept p x name false true once h =
    ap (λ l. x ∷ l) (filter-append p once (name ∷ []) ∙ ap (λ t. filter p once ++ cond t (name ∷ []) []) h ∙ append-nil (filter p once))
kept p x name false false once h =
    ap (λ l. x ∷ l) (filter-append p once (name ∷ []) ∙ ap (λ t. filter p once ++ cond t (name ∷ []) []) h)

pub once_more : (names : List (List ℕ)) (name : List ℕ) → each_once (names ++ name ∷ []) ≡ cond (among name names) (each_once names) (each_once names ++ name ∷ [])
once_more [] name = refl
once_more (x ∷ names) name =
    let p = λ (other : List ℕ). not (eq other x) in
    ap (λ l. x ∷ filter p l) (once_more names name) ∙ kept p x name (among name names) (eq name x) (each_once names) refl

-- ---- One item more

names_more : (items : List Listed) (item : Listed) → filter_map area_name (items ++ item ∷ []) ≡ filter_map area_name items ++ filter_map area_name (item ∷ [])
names_more items item = filter_map-append area_name items (item ∷ [])

locs_more : (items : List Listed) (item : Listed) → fold with_locs locations.none (items ++ item ∷ []) ≡ with_locs (fold with_locs locations.none items) item
locs_more items item = fold-append with_locs locations.none items (item ∷ [])

pub with_more_locs : (areas : List Area) (items : List Listed) (m next : Mentioned) (locs : Locs) → IsMentioned areas items m → next.locs ≡ locations.both m.locs locs
    → next.areas ≡ m.areas → next.seen ≡ m.seen → IsMentioned areas (items ++ listed.Locs locs ∷ []) next
with_more_locs areas items m next locs h is same seen =
    let names : filter_map area_name (items ++ listed.Locs locs ∷ []) ≡ filter_map area_name items = names_more items (listed.Locs locs) ∙ append-nil (filter_map area_name items) in
    record {
      locs = is ∙ ap (λ l. locations.both l locs) h.locs ∙ sym (locs_more items (listed.Locs locs));
      places = subst (λ l. AllZip (StandsAt areas) (each_once l) next.areas.items) (sym names) (subst (λ a. AllZip (StandsAt areas) (each_once (filter_map area_name items)) a.items) (sym same) h.places);
      seen = λ name. ap (λ t. is_some (lookup (eq name) t.entries)) seen ∙ h.seen name ∙ ap (λ l. among name l) (sym names);
    }

pub mentioned_none : (areas : List Area) (m : Mentioned) → m.locs ≡ locations.none → m.areas.items ≡ [] → ((name : List ℕ) → is_some (lookup (eq name) m.seen.entries) ≡ false) → IsMentioned areas [] m
mentioned_none areas m locs places seen = record { locs = locs; places = subst (AllZip (StandsAt areas) []) (sym places) tt; seen = seen }

pub listed_all : (areas : List Area) (items : List Listed) (m : Mentioned) (lists : Lists) → IsMentioned areas items m → lists.locs ≡ m.locs → lists.areas ≡ m.areas.items → AreLists areas items lists
listed_all areas items m lists h locs places = record {
  locs = locs ∙ h.locs;
  places = subst (AllZip (StandsAt areas) (each_once (filter_map area_name items))) (sym places) h.places;
}

-- a name that is among the names already
known : (names : List (List ℕ)) (name other : List ℕ) → among name names ≡ true → (among other names || (eq other name || false)) ≡ among other names
known names name other e = by (eq other name) refl
  where
    by : (b : Bool) → eq other name ≡ b → (among other names || (b || false)) ≡ among other names
    by false apart = or_none (among other names)
    by true same = ap (λ n. among n names || true) (same_text other name (sym same)) ∙ ap (λ t. t || true) e ∙ sym e ∙ ap (λ n. among n names) (sym (same_text other name (sym same)))

pub with_known_area : (areas : List Area) (items : List Listed) (m : Mentioned) (name : List ℕ) → is_some (lookup (eq name) m.seen.entries) ≡ true → IsMentioned areas items m
    → IsMentioned areas (items ++ listed.Area name ∷ []) m
with_known_area areas items m name there h =
    let names = filter_map area_name items in
    let found : among name names ≡ true = sym (h.seen name) ∙ there in
    let more = names_more items (listed.Area name) in
    record {
      locs = h.locs ∙ sym (locs_more items (listed.Area name));
      places = subst (λ l. AllZip (StandsAt areas) l m.areas.items) (sym (ap each_once more ∙ once_more names name ∙ ap (λ t. cond t (each_once names) (each_once names ++ name ∷ [])) found)) h.places;
      seen = λ other. h.seen other ∙ sym (ap (λ l. among other l) more ∙ list_any-append (eq other) names (name ∷ []) ∙ known names name other found);
    }

some_or : {A : Type 0} (t : Bool) (x : A) (o : Option A) (b : Bool) → is_some o ≡ b → is_some (cond t (Some x) o) ≡ (b || (t || false))
some_or true x None b h = sym (by b)
  where
    by : (b : Bool) → (b || true) ≡ true
    by true = refl
    by false = refl
some_or true x (Some y) b h = ap (λ t. t || true) h
some_or false x o b h = h ∙ sym (or_none b)

pub with_new_area : (areas : List Area) (items : List Listed) (m next : Mentioned) (name : List ℕ) (place : ℕ) (x : Unit {0}) → is_some (lookup (eq name) m.seen.entries) ≡ false → IsMentioned areas items m
    → StandsAt areas name place → next.locs ≡ m.locs → next.areas.items ≡ m.areas.items ++ place ∷ []
    → ((other : List ℕ) → lookup (eq other) next.seen.entries ≡ cond (eq name other) (Some x) (lookup (eq other) m.seen.entries))
    → IsMentioned areas (items ++ listed.Area name ∷ []) next
with_new_area areas items m next name place x there h stands locs more_areas seen =
    let names = filter_map area_name items in
    let found : among name names ≡ false = sym (h.seen name) ∙ there in
    let more = names_more items (listed.Area name) in
    let once : each_once (filter_map area_name (items ++ listed.Area name ∷ [])) ≡ each_once names ++ name ∷ [] =
    ap each_once more ∙ once_more names name ∙ ap (λ t. cond t (each_once names) (each_once names ++ name ∷ [])) found in
    record {
      locs = locs ∙ h.locs ∙ sym (locs_more items (listed.Area name));
      places = subst (λ l. AllZip (StandsAt areas) l next.areas.items) (sym once)
          (subst (AllZip (StandsAt areas) (each_once names ++ name ∷ [])) (sym more_areas)
          (zip_append (StandsAt areas) (each_once names) (name ∷ []) m.areas.items (place ∷ []) h.places (stands, tt)));
      seen = λ other.
          ap is_some (seen other) ∙ some_or (eq name other) x (lookup (eq other) m.seen.entries) (among other names) (h.seen other)
          ∙ ap (λ t. among other names || (t || false)) (nat_list_eq_equiv.symm name other)
          ∙ sym (ap (λ l. among other l) more ∙ list_any-append (eq other) names (name ∷ []));
    }

-- ---- Places

got_front : {A : Type 0} (xs ys : List A) (i : ℕ) (x : A) → slice_get xs i ≡ Some x → slice_get (xs ++ ys) i ≡ Some x
got_front [] ys i x e = absurd cc
got_front (y ∷ xs) ys zero x e = e
got_front (y ∷ xs) ys (suc i) x e = got_front xs ys i x e

got_last : {A : Type 0} (xs : List A) (x : A) → slice_get (xs ++ x ∷ []) (length xs) ≡ Some x
got_last [] x = refl
got_last (y ∷ xs) x = got_last xs x

named_front : (o p : Option Area) (name : List ℕ) → ((a : Area) → o ≡ Some a → p ≡ Some a) → option_map (λ (a : Area). a.name) o ≡ Some name → option_map (λ (a : Area). a.name) p ≡ Some name
named_front None p name h e = absurd cc
named_front (Some a) p name h e = ap (option_map (λ (a : Area). a.name)) (h a refl) ∙ e

stands_front : (areas more : List Area) (name : List ℕ) (place : ℕ) → StandsAt areas name place → StandsAt (areas ++ more) name place
stands_front areas more name place h = named_front (slice_get areas place) (slice_get (areas ++ more) place) name (got_front areas more place) h

some_of_or : {A B : Type 0} (o : Option A) (p : Option B) (t : Bool) (x : A) (a : B) → is_some o ≡ is_some p → is_some (cond t (Some x) o) ≡ is_some (or_else p (cond t (Some a) None))
some_of_or None None true x a h = refl
some_of_or None None false x a h = refl
some_of_or None (Some p) t x a h = absurd cc
some_of_or (Some o) None t x a h = absurd cc
some_of_or (Some o) (Some p) true x a h = refl
some_of_or (Some o) (Some p) false x a h = refl

pub places_none : ArePlaces [] []
places_none = record { right = λ name place e. absurd cc; each = λ name. refl }

pub places_more : (above : List Area) (a : Area) (old new : List (List ℕ × ℕ)) → ArePlaces above old
    → ((name : List ℕ) → lookup (eq name) new ≡ cond (eq a.name name) (Some (length above)) (lookup (eq name) old)) → ArePlaces (above ++ a ∷ []) new
places_more above a old new h is = record {
  right = λ name place e. found name place (eq a.name name) refl (sym (is name) ∙ e);
  each = λ name.
      ap is_some (is name) ∙ some_of_or (lookup (eq name) old) (find (λ (b : Area). bytes_eq b.name name) above) (eq a.name name) (length above) a (h.each name)
      ∙ sym (ap is_some (find_append (λ (b : Area). bytes_eq b.name name) above (a ∷ [])));
}
  where
    found : (name : List ℕ) (place : ℕ) (t : Bool) → eq a.name name ≡ t → cond t (Some (length above)) (lookup (eq name) old) ≡ Some place → StandsAt (above ++ a ∷ []) name place
    found name place true same e =
        let at : length above ≡ place = cc in
        subst (StandsAt (above ++ a ∷ []) name) at (ap (option_map (λ (b : Area). b.name)) (got_last above a) ∙ ap (λ n. Some n) (same_text a.name name (sym same)))
    found name place false same e = stands_front above (a ∷ []) name place (h.right name place e)
