-- The areas that a routine reads or changes.
use Rattle.std.proofs.Common.{◌≡◌, ℕ, zero, suc, ◌+◌, ◌-◌, ◌<◌, ◌≤◌, Bool, true, false, cond, not, ◌&&◌, List, [], ◌∷◌, length, Some, refl, sym, ap, subst, ◌∙◌, arith}
use Rattle.std.specs.Prelude.{filter, find, bytes_eq, nat_eq, nat_lt, slice_get, unwrap_or}
use Rattle.std.specs.Option.{option_map}
use Rattle.std.specs.Cmp.Lexicographic.{pointwise, same_text}
use Rattle.std.specs.List.{filter_map}
use Rattle.std.proofs.lemmas.Bool.Decides.{nat_tests}
use Rattle.std.proofs.lemmas.List.Elements.{All-from_recursion}
use Rattle.sp_base.specs.Image.{ImageMap}
use Rattle.sp_asm.specs.Meanings.{each_once}
use Rattle.sp_asm.proofs.DefinitionLemmas.{eq_same}
use Rattle.sp_note.specs.declared.part.Listed.{Listed}
use Rattle.sp_note.specs.declared.part.Listed.TheVariants as listed
use Rattle.sp_prog.specs.declared.area.Area.{Area}
use Rattle.sp_prog.specs.declared.routine.Lists.{Lists}
use Rattle.sp_prog.specs.Program.{Program}
use Rattle.sp_prog.specs.Rules.{AreListed, AreFree, IsInArea, IsFree}
use Rattle.sp_unit.specs.Faults.{Source, area_of, areas_by, meets_image, meets, changes_image}
use Rattle.sp_unit.specs.SourceUnits.{StandsAt, AreLists, area_name}
use Rattle.sp_unit.proofs.UnitListLemmas.{Each, Pairwise, each_filtered, each_get, each_of, each_weaker, get_within, pairwise_filtered, zip_each, zip_pairs, distinct_pairs}
use Rattle.sp_unit.proofs.UnitAreaLemmas.{free_between}
use Rattle.sp_unit.proofs.UnitPartsLemmas.{Mapped, mapped}

abbrev eq : List ℕ → List ℕ → Bool
eq = pointwise nat_eq

not_true : (b : Bool) → not b ≡ true → b ≡ false
not_true false h = refl
not_true true h = absurd cc

eq_flip : (a b : List ℕ) → eq a b ≡ false → eq b a ≡ false
eq_flip a b h = by (eq b a) refl
  where
    by : (t : Bool) → eq b a ≡ t → eq b a ≡ false
    by false e = e
    by true e =
        let same : b ≡ a = same_text b a (sym e) in
        let wrong : true ≡ false = sym (eq_same a) ∙ ap (eq a) (sym same) ∙ h in
        absurd cc

-- ---- Each name once

kept_once : (P : List ℕ → Type 0) (names : List (List ℕ)) → Each P names → Each P (each_once names)
kept_once P [] h = tt
kept_once P (n ∷ names) h = (h.0, each_filtered P (λ other. not (eq other n)) (each_once names) (kept_once P names h.1))

others : (n : List ℕ) (names : List (List ℕ)) → Each (λ y. eq n y ≡ false) (filter (λ other. not (eq other n)) names)
others n [] = tt
others n (x ∷ names) = by (not (eq x n)) refl (others n names)
  where
    by : (b : Bool) → not (eq x n) ≡ b → Each (λ y. eq n y ≡ false) (filter (λ other. not (eq other n)) names)
        → Each (λ y. eq n y ≡ false) (cond b (x ∷ filter (λ other. not (eq other n)) names) (filter (λ other. not (eq other n)) names))
    by true e rest = (eq_flip x n (not_true (eq x n) e), rest)
    by false e rest = rest

once_apart : (names : List (List ℕ)) → Pairwise (λ x y. eq x y ≡ false) (each_once names)
once_apart [] = tt
once_apart (n ∷ names) = (others n (each_once names), pairwise_filtered (λ x y. eq x y ≡ false) (λ other. not (eq other n)) (each_once names) (once_apart names))

-- ---- Places

module _ (areas : List Area) where
  stands : (name : List ℕ) (place : ℕ) → StandsAt areas name place → Mapped (λ (a : Area). a.name) (slice_get areas place) name
  stands name place h = mapped (λ (a : Area). a.name) (slice_get areas place) name h

  within : (name : List ℕ) (place : ℕ) → StandsAt areas name place → place < length areas
  within name place h = let at = stands name place h in get_within areas place at.from at.given

  apart : (x z : List ℕ) (i j : ℕ) → StandsAt areas x i → StandsAt areas z j → eq x z ≡ false → nat_eq i j ≡ false
  apart x z i j h k differ = by (nat_eq i j) refl
    where
      same_place : nat_eq i j ≡ true → i ≡ j
      same_place e = grind (arith, nat_tests)

      some_is : (a b : List ℕ) → Some a ≡ Some b → a ≡ b
      some_is a b e = cc

      by : (t : Bool) → nat_eq i j ≡ t → nat_eq i j ≡ false
      by false e = e
      by true e =
          let same : x ≡ z = some_is x z (sym h ∙ ap (λ n. option_map (λ (a : Area). a.name) (slice_get areas n)) (same_place e) ∙ k) in
          let wrong : true ≡ false = sym (eq_same z) ∙ ap (λ w. eq w z) (sym same) ∙ differ in
          absurd cc

  pub are_listed : (items : List Listed) (lists : Lists) → AreLists areas items lists → AreListed (length areas) lists
  are_listed items lists h = record {
    areas =
        All-from_recursion (λ place. place < length areas) lists.areas
        (zip_each (StandsAt areas) (λ name. Unit {0}) (λ place. place < length areas) (λ name place is done. within name place is) (each_once (filter_map area_name items)) lists.areas h.places
        (all_done (each_once (filter_map area_name items))));
    once =
        distinct_pairs nat_eq lists.areas
        (zip_pairs (StandsAt areas) (λ x y. eq x y ≡ false) (λ i j. nat_eq i j ≡ false) (λ x z i j is also. apart x z i j is also) (each_once (filter_map area_name items)) lists.areas h.places
        (once_apart (filter_map area_name items)));
  }
    where
      all_done : (xs : List (List ℕ)) → Each (λ name. Unit {0}) xs
      all_done [] = tt
      all_done (x ∷ xs) = (tt, all_done xs)

  -- an area is the first of its name
  find_at : (xs : List Area) (i : ℕ) (a : Area) → Pairwise (λ (x y : Area). bytes_eq x.name y.name ≡ false) xs → slice_get xs i ≡ Some a → find (λ (x : Area). bytes_eq x.name a.name) xs ≡ Some a
  find_at [] i a h e = absurd cc
  find_at (x ∷ xs) zero a h e =
      let is : x ≡ a = cc in
      ap (λ t. cond t (Some x) (find (λ (y : Area). bytes_eq y.name a.name) xs)) (ap (λ (z : Area). bytes_eq z.name a.name) is ∙ eq_same a.name) ∙ e
  find_at (x ∷ xs) (suc i) a h e =
      let differ = each_get (λ (y : Area). bytes_eq x.name y.name ≡ false) xs i a h.0 e in
      ap (λ t. cond t (Some x) (find (λ (y : Area). bytes_eq y.name a.name) xs)) differ ∙ find_at xs i a h.1 e

-- ---- Changed areas

-- the area of a name has no cell at a byte of the image
abbrev IsApartNamed : Source → List ℕ → Type 0
IsApartNamed s name = unwrap_or (option_map (meets_image s.image) (area_of s name)) false ≡ false

names_apart : (s : Source) (item : Listed) (name : List ℕ) → area_name item ≡ Some name → changes_image s item ≡ false → IsApartNamed s name
names_apart s (listed.Locs locs) name e h = absurd cc
names_apart s (listed.Area other) name e h = let same : other ≡ name = cc in subst (IsApartNamed s) same h

no_cell : (image : ImageMap) (a : Area) (x : ℕ) → 0 < a.len → meets_image image a ≡ false → IsInArea a x → IsFree image x
no_cell image a x some h inside =
    let apart : meets image a.addr (a.addr + a.len - 1) ≡ false = sym (ap (λ t. t && meets image a.addr (a.addr + a.len - 1)) (positive a.len some)) ∙ h in
    let low : a.addr ≤ x = inside.0 in
    let high : x < a.addr + a.len = inside.1 in
    free_between image a.addr (a.addr + a.len - 1) x apart low (omega (arith, high))
  where
    positive : (n : ℕ) → 0 < n → nat_lt 0 n ≡ true
    positive n lt = grind (arith, nat_tests)

module _ (s : Source) (areas : List Area) (same : areas ≡ areas_by s.value s.notes) (apart_names : Pairwise (λ (x y : Area). bytes_eq x.name y.name ≡ false) areas) (some : Each (λ (a : Area). 0 < a.len) areas) where
  free_place : (name : List ℕ) (place : ℕ) → StandsAt areas name place → IsApartNamed s name → (a : Area) → slice_get areas place ≡ Some a → (x : ℕ) → IsInArea a x → IsFree s.image x
  free_place name place h free a e x inside =
      let at = stands areas name place h in
      let is : at.from ≡ a = same_some at.from a (sym at.given ∙ e) in
      let named : a.name ≡ name = ap (λ (z : Area). z.name) (sym is) ∙ at.is in
      let found : area_of s name ≡ Some a = ap (λ n. find (λ (z : Area). bytes_eq z.name n) (areas_by s.value s.notes)) (sym named) ∙ ap (find (λ (z : Area). bytes_eq z.name a.name)) (sym same) ∙ find_at areas areas place a apart_names e in
      let clear : meets_image s.image a ≡ false = sym (ap (λ o. unwrap_or (option_map (meets_image s.image) o) false) found) ∙ free in
      no_cell s.image a x (each_get (λ (z : Area). 0 < z.len) areas place a some e) clear inside
    where
      same_some : (y z : Area) → Some y ≡ Some z → y ≡ z
      same_some y z k = cc

  pub are_free : (p : Program) → p.image ≡ s.image → p.areas ≡ areas → (items : List Listed) (lists : Lists) → AreLists areas items lists → Each (λ item. changes_image s item ≡ false) items → AreFree p lists
  are_free p image_is areas_is items lists h clear =
      let names = each_of area_name (λ item. changes_image s item ≡ false) (IsApartNamed s) (names_apart s) items clear in
      let each = zip_each (StandsAt areas) (IsApartNamed s) (λ place. (a : Area) → slice_get areas place ≡ Some a → (x : ℕ) → IsInArea a x → IsFree s.image x) (λ name place is free. free_place name place is free)
      (each_once (filter_map area_name items)) lists.areas h.places (kept_once (IsApartNamed s) (filter_map area_name items) names) in
      All-from_recursion (λ place. (area : Area) → slice_get p.areas place ≡ Some area → (a : ℕ) → IsInArea area a → IsFree p.image a) lists.areas
      (each_weaker (λ place. (a : Area) → slice_get areas place ≡ Some a → (x : ℕ) → IsInArea a x → IsFree s.image x) (λ place. (area : Area) → slice_get p.areas place ≡ Some area → (a : ℕ) → IsInArea area a → IsFree p.image a)
      (λ place free area e a inside. subst (λ i. IsFree i a) (sym image_is) (free area (ap (λ l. slice_get l place) (sym areas_is) ∙ e) a inside)) lists.areas each)
