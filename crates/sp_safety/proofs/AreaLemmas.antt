-- Areas that are listed, and what can be decided of lists.
use Rattle.std.proofs.Common.{◌≡◌, ◌⊎◌, inl, inr, ℕ, ◌+◌, ◌<◌, ◌≤◌, List, [], ◌∷◌, map, Option, Some, None, slice_get, refl, sym, ap, subst, ◌∙◌, arith}
use Rattle.std.specs.Prelude.{Contains}
use Rattle.std.specs.List.{filter_map, cons_option}
use Rattle.std.proofs.lemmas.Bool.{cases_order}
use Rattle.std.proofs.lemmas.List.Elements.{All-contains}
use Rattle.sp_model.specs.Good.{InArea}
use Rattle.sp_model.specs.Unit as runs
use Rattle.sp_prog.specs.Program.{Program}
use Rattle.sp_prog.specs.Rules.{HasLength, IsArea, IsInArea, IsInStack, IsUnit}
use Rattle.sp_prog.specs.View.{area_of, listed_areas}
use Rattle.sp_prog.specs.declared.area.Area.{Area}
use Rattle.sp_prog.specs.declared.area.AreaKind.{AreaKind}
use Rattle.sp_prog.specs.declared.area.AreaKind.TheVariants as kind
use Rattle.sp_prog.specs.declared.routine.Lists.{Lists}
use Rattle.sp_prog.proofs.MemberLemmas.{first, later, none, first_or_later, found, mapped, in_map, kept}
use Rattle.sp_flow.specs.Flow.{IsListed}
use Rattle.sp_facts.specs.Ends as ends

-- ---- Deciding

pub same_or_not : (m n : ℕ) → (m ≡ n) ⊎ ¬ (m ≡ n)
same_or_not m n = elim (cases_order m n) [ inl e ↦ inl e | inr (inl l) ↦ inr (λ e. omega (arith, l, e)) | inr (inr l) ↦ inr (λ e. omega (arith, l, e)) ]

has_or_not : (xs : List ℕ) (n : ℕ) → Contains xs n ⊎ ¬ Contains xs n
has_or_not [] n = inr (λ h. none n h)
has_or_not (x ∷ xs) n =
    elim (same_or_not x n) [
      | inl e ↦ inl (subst (λ y. Contains (x ∷ xs) y) e (first x xs))
      | inr other ↦ elim (has_or_not xs n) [
        | inl below ↦ inl (later x n xs below)
        | inr rest ↦ inr (λ h. elim (first_or_later x n xs h) [ inl e ↦ other e | inr below ↦ rest below ])
      ]
    ]

pub stable_has : (xs : List ℕ) (n : ℕ) → ((Contains xs n → ⊥) → ⊥) → Contains xs n
stable_has xs n h = elim (has_or_not xs n) [ inl there ↦ there | inr other ↦ absurd (h other) ]

in_or_not : (area : Area) (a : ℕ) → IsInArea area a ⊎ ¬ IsInArea area a
in_or_not area a =
    elim (cases_order area.addr a) [
      | inl e ↦ upper (omega (arith, e))
      | inr (inl l) ↦ upper (omega (arith, l))
      | inr (inr l) ↦ inr (λ h. let low = h.0 in omega (arith, l, low))
    ]
  where
    upper : area.addr ≤ a → IsInArea area a ⊎ ¬ IsInArea area a
    upper low = elim (cases_order a (area.addr + area.len)) [
      | inl e ↦ inr (λ h. let high = h.1 in omega (arith, e, high))
      | inr (inl l) ↦ inl (low, l)
      | inr (inr l) ↦ inr (λ h. let high = h.1 in omega (arith, l, high))
    ]

module _ (areas : List Area) (a : ℕ) where
  -- a cell lies in the area at one of these places
  abbrev pub LiesIn : List ℕ → Type 0
  LiesIn places = (at : ℕ) × (area : Area) × Contains places at × (slice_get areas at ≡ Some area) × IsInArea area a

  at_place : (place : ℕ) (o : Option Area) → slice_get areas place ≡ o → ((area : Area) × (slice_get areas place ≡ Some area) × IsInArea area a) ⊎ ((area : Area) → slice_get areas place ≡ Some area → IsInArea area a → ⊥)
  at_place place None is = inr (λ area there within. let clash : None ≡ Some area = sym is ∙ there in cc)
  at_place place (Some found_area) is =
      elim (in_or_not found_area a) [
        | inl within ↦ inl (found_area, is, within)
        | inr out ↦ inr (λ area there within. let both : Some found_area ≡ Some area = sym is ∙ there in let same : found_area ≡ area = cc in out (subst (λ x. IsInArea x a) (sym same) within))
      ]

  lies_or_not : (places : List ℕ) → LiesIn places ⊎ ¬ LiesIn places
  lies_or_not [] = inr (λ h. none h.0 h.2)
  lies_or_not (place ∷ places) =
      elim (at_place place (slice_get areas place) refl) [
        | inl here ↦ inl (place, here.0, first place places, here.1, here.2)
        | inr other ↦ elim (lies_or_not places) [
          | inl h ↦ inl (h.0, h.1, later place h.0 places h.2, h.3, h.4)
          | inr rest ↦ inr (λ h. elim (first_or_later place h.0 places h.2) [
            | inl e ↦ other h.1 (subst (λ x. slice_get areas x ≡ Some h.1) (sym e) h.3) h.4
            | inr below ↦ rest (h.0, h.1, below, h.3, h.4)
          ])
        ]
      ]

pub stable_listed : (p : Program) (lists : Lists) (cell : ℕ) → ((IsListed p lists cell → ⊥) → ⊥) → IsListed p lists cell
stable_listed p lists cell h = elim (lies_or_not p.areas cell lists.areas) [ inl there ↦ there | inr other ↦ absurd (h other) ]

-- ---- Views

module _ {A B : Type 0} (f : A → Option B) where
  some_first : (o : Option B) (y : B) (xs : List A) → o ≡ Some y → Contains (cons_option o (filter_map f xs)) y
  some_first None y xs h = cc
  some_first (Some z) y xs h = let same : z ≡ y = cc in subst (λ w. Contains (z ∷ filter_map f xs) w) same (first z (filter_map f xs))

  past_first : (o : Option B) (y : B) (xs : List A) → Contains (filter_map f xs) y → Contains (cons_option o (filter_map f xs)) y
  past_first None y xs h = h
  past_first (Some z) y xs h = later z y (filter_map f xs) h

  -- what an element gives is kept
  gives : (xs : List A) (x : A) (y : B) → Contains xs x → f x ≡ Some y → Contains (filter_map f xs) y
  gives [] x y h e = absurd (none x h)
  gives (z ∷ xs) x y h e =
      elim (first_or_later z x xs h) [
        | inl same ↦ some_first (f z) y xs (ap f same ∙ e)
        | inr below ↦ past_first (f z) y xs (gives xs x y below e)
      ]

pub in_model : (p : Program) (lists : Lists) (a : ℕ) → IsListed p lists a → (area : runs.Area) × Contains (map area_of (listed_areas p.areas lists.areas)) area × InArea a area
in_model p lists a h = (area_of h.1, in_map area_of (listed_areas p.areas lists.areas) h.1 (gives (slice_get p.areas) lists.areas h.0 h.1 h.2 h.3), h.4)

pub of_model : (p : Program) (lists : Lists) (a : ℕ) (area : runs.Area) → Contains (map area_of (listed_areas p.areas lists.areas)) area → InArea a area → IsListed p lists a
of_model p lists a area there within =
    let m = mapped area_of (listed_areas p.areas lists.areas) area there in
    let k = kept (slice_get p.areas) lists.areas m.0 m.1 in
    (k.0, m.0, k.1, k.2, subst (InArea a) (sym m.2) within)

length_some : (k : AreaKind) (n : ℕ) → HasLength k n → 1 ≤ n
length_some kind.Byte n h = let one : n ≡ 1 = h in omega (arith, one)
length_some kind.Word n h = let two : n ≡ 2 = h in omega (arith, two)
length_some kind.Bytes n h = let some : 0 < n = h in omega (arith, some)

module _ (p : Program) (unit : IsUnit p) where
  is_area : (place : ℕ) (area : Area) → slice_get p.areas place ≡ Some area → IsArea p area
  is_area place area e = All-contains (IsArea p) p.areas area unit.areas (found p.areas place area e)

  -- cells of areas are in memory, outside the stack region
  pub listed_apart : (lists : Lists) (a : ℕ) → IsListed p lists a → (a < 65536) × ¬ IsInStack p a
  listed_apart lists a h =
      let area = is_area h.0 h.1 h.3 in
      let within = area.within in
      let high = h.4.1 in
      (omega (arith, within, high), area.apart a h.4)

  -- an address in an area as facts on runs tell it
  pub lies_in : (places : List ℕ) (a : ℕ) (area : Area) → Contains (listed_areas p.areas places) area → ends.IsInArea a area → LiesIn p.areas a places
  lies_in places a area there within =
      let k = kept (slice_get p.areas) places area there in
      let rules = is_area k.0 area k.2 in
      let some = length_some area.kind area.len rules.length in
      let high = within.1 in
      (k.0, area, k.1, k.2, (within.0, omega (arith, some, high)))

  pub lies_apart : (places : List ℕ) (a : ℕ) → LiesIn p.areas a places → (a < 65536) × ¬ IsInStack p a
  lies_apart places a h =
      let area = is_area h.0 h.1 h.3 in
      let within = area.within in
      let high = h.4.1 in
      (omega (arith, within, high), area.apart a h.4)
