-- The stack region and the areas of a source that keeps the rules.
use Rattle.std.proofs.Common.{◌≡◌, ℕ, suc, ◌+◌, ◌<◌, ◌≤◌, Bool, true, false, cond, ◌&&◌, ◌||◌, List, [], ◌∷◌, ◌++◌, length, map, Option, Some, None, is_some, refl, sym, ap, subst, ◌∙◌, arith}
use Rattle.std.specs.Prelude.{filter, find, bytes_eq, nat_eq, nat_lt, nat_le, unwrap_or}
use Rattle.std.specs.Cmp.Lexicographic.{pointwise}
use Rattle.std.specs.FinMap as maps
use Rattle.std.specs.List.{IsDistinct, filter_map, cons_option}
use Rattle.std.proofs.lemmas.Bool.Decides.{nat_tests}
use Rattle.sp_base.specs.Image.{ImageMap}
use Rattle.sp_note.specs.Parts as parts
use Rattle.sp_note.specs.Parts.{NoteLine, Part, Expression}
use Rattle.sp_prog.specs.declared.area.Area.{Area}
use Rattle.sp_prog.specs.declared.area.AreaKind.TheVariants as kind
use Rattle.sp_prog.specs.Program.{Program}
use Rattle.sp_prog.specs.Rules.{IsArea, IsFree, HasLength}
use Rattle.sp_unit.specs.Lines.{Entry, Statement, Annotation, note_in, is_note, place_after}
use Rattle.sp_unit.specs.Faults.{Source, AreRight, area, area_by, area_in, stack_by, stack_line, stack_of, region, first_of, meets, meets_stack, stack_clashes, area_clashes, clashes, is_declared, is_area_part, is_too_many, count}
use Rattle.sp_unit.proofs.RegionLemmas.{any_key, present, le_true}
use Rattle.sp_unit.proofs.SeenLemmas.{clash_is}
use Rattle.sp_unit.proofs.UnitListLemmas.{Each, Pairwise, each_given, all_new, few, distinct_from}
use Rattle.sp_unit.proofs.UnitMergeLemmas.{found_first}
use Rattle.sp_unit.proofs.UnitFaultLemmas.{IsRight, note_right}
use Rattle.sp_unit.proofs.UnitPartsLemmas.{chained, both_given}

or_false : (a b : Bool) → (a || b) ≡ false → (a ≡ false) × (b ≡ false)
or_false true b h = absurd cc
or_false false b h = (refl, h)

lt_false : (a b : ℕ) → nat_lt a b ≡ false → b ≤ a
lt_false a b h = grind (arith, nat_tests)

le_false : (a b : ℕ) → nat_le a b ≡ false → b < a
le_false a b h = grind (arith, nat_tests)

lt_true : (a b : ℕ) → a < b → nat_lt a b ≡ true
lt_true a b h = grind (arith, nat_tests)

not_zero : (n : ℕ) → nat_eq n 0 ≡ false → 0 < n
not_zero n h = grind (arith, nat_tests)

-- an annotation line keeps the rules where it stands
pub line_right : (s : Source) (es : List Entry) → AreRight s es → (above below : List Entry) (n : NoteLine) → es ≡ above ++ Annotation n ∷ below → IsRight s above (place_after above) n.part below
line_right s es right above below n whole = note_right s above (place_after above) n.part below (right above below (Annotation n) whole)

-- ---- The stack region

-- no byte stands between two addresses
pub free_between : (image : ImageMap) (first last a : ℕ) → meets image first last ≡ false → first ≤ a → a ≤ last → maps.get image a ≡ None
free_between image first last a apart low high = by (maps.get image a) refl
  where
    by : (o : Option ℕ) → maps.get image a ≡ o → maps.get image a ≡ None
    by None e = e
    by (Some byte) e =
        let within : (nat_le first a && nat_le a last) ≡ true = ap (λ t. t && nat_le a last) (le_true image first a low) ∙ le_true image a last high in
        let wrong : true ≡ false = sym (any_key (λ q. nat_le first q && nat_le q last) (maps.keys image) a (present image a byte e) within) ∙ apart in
        absurd cc

pub record IsStackRight (s : Source) (first last : ℕ) : Type 0 where
  pub ordered : first ≤ last
  pub end : last ≤ 65534
  pub free : (a : ℕ) → first ≤ a → a ≤ last → IsFree s.image a

stack_part : (part : Part) (line : Expression × Expression) → stack_by part ≡ Some line → part ≡ parts.Stack line.0 line.1
stack_part (parts.Stack first last) line e = let is : (first, last) ≡ line = cc in ap (λ (l : Expression × Expression). parts.Stack l.0 l.1) is
stack_part _ line e = absurd cc

pub stack_right : (s : Source) (es : List Entry) → AreRight s es → filter_map note_in es ≡ s.notes → (first last : ℕ) → stack_of s ≡ Some (first, last) → IsStackRight s first last
stack_right s es right notes first last is =
    let line = chained (λ (l : Expression × Expression). region (s.value l.0) (s.value l.1)) (stack_line s) (first, last) is in
    let ends = both_given (λ (a b : ℕ). (a, b)) (s.value line.from.0) (s.value line.from.1) (first, last) line.is in
    let one : ends.left ≡ first = ap (λ (p : ℕ × ℕ). p.0) ends.is in
    let other : ends.right ≡ last = ap (λ (p : ℕ × ℕ). p.1) ends.is in
    let found = found_first (λ (n : NoteLine). stack_by n.part) line.from es (ap (first_of (λ (n : NoteLine). stack_by n.part)) notes ∙ line.given) in
    let keeps = line_right s es right found.front found.back found.note found.whole in
    let clash : clashes s found.front (parts.Stack line.from.0 line.from.1) ≡ false = subst (λ part. clashes s found.front part ≡ false) (stack_part found.note.part line.from found.is) keeps.clash in
    let apart : stack_clashes s.image first last ≡ false =
    sym (λ i. stack_clashes s.image (unwrap_or ((ends.left_given ∙ ap (λ z. Some z) one) i) 0) (unwrap_or ((ends.right_given ∙ ap (λ z. Some z) other) i) 0)) ∙ clash in
    let halves = or_false (nat_lt last first) (nat_lt 65534 last || meets s.image first last) apart in
    let rest = or_false (nat_lt 65534 last) (meets s.image first last) halves.1 in
    record { ordered = lt_false last first halves.0; end = lt_false 65534 last rest.0; free = λ a low high. free_between s.image first last a rest.1 low high }

-- ---- Areas

-- what an area of a source keeps
pub record IsAreaRight (s : Source) (a : Area) : Type 0 where
  pub length : HasLength a.kind a.len
  pub some : 0 < a.len
  pub within : a.addr + a.len ≤ 65536
  pub stack : meets_stack a (stack_of s) ≡ false

length_is : (s : Source) (part : Part) (a : Area) → area_by s.value part ≡ Some a → nat_eq a.len 0 ≡ false → HasLength a.kind a.len
length_is s (parts.Byte name addr) a e some = let is : area name kind.Byte (unwrap_or (s.value addr) 0) 1 ≡ a = cc in subst (λ (x : Area). HasLength x.kind x.len) is refl
length_is s (parts.Word name addr) a e some = let is : area name kind.Word (unwrap_or (s.value addr) 0) 2 ≡ a = cc in subst (λ (x : Area). HasLength x.kind x.len) is refl
length_is s (parts.Bytes name addr len) a e some =
    let is : area name kind.Bytes (unwrap_or (s.value addr) 0) (unwrap_or (s.value len) 0) ≡ a = cc in
    let there : 0 < unwrap_or (s.value len) 0 = subst (λ (x : Area). 0 < x.len) (sym is) (not_zero a.len some) in
    subst (λ (x : Area). HasLength x.kind x.len) is there
length_is s _ a e some = absurd cc

-- what the line of an area keeps
record IsLineRight (s : Source) (above : List Entry) (a : Area) : Type 0 where
  fresh : is_declared s above a.name ≡ false
  right : IsAreaRight s a

area_line : (s : Source) (es : List Entry) → AreRight s es → (above below : List Entry) (e : Entry) (a : Area) → es ≡ above ++ e ∷ below → area_in s e ≡ Some a → IsLineRight s above a
area_line s es right above below (Statement item) a whole is = absurd cc
area_line s es right above below (Annotation n) a whole is =
    let keeps = line_right s es right above below n whole in
    let apart : area_clashes s above a ≡ false = sym (clash_is s above n.part a is) ∙ keeps.clash in
    let one = or_false (is_declared s above a.name) (nat_eq a.len 0 || (nat_lt 65536 (a.addr + a.len) || meets_stack a (stack_of s))) apart in
    let two = or_false (nat_eq a.len 0) (nat_lt 65536 (a.addr + a.len) || meets_stack a (stack_of s)) one.1 in
    let three = or_false (nat_lt 65536 (a.addr + a.len)) (meets_stack a (stack_of s)) two.1 in
    record {
      fresh = one.0;
      right = record { length = length_is s n.part a is two.0; some = not_zero a.len two.0; within = lt_false 65536 (a.addr + a.len) three.0; stack = three.1 };
    }

module _ (s : Source) (es : List Entry) (right : AreRight s es) where
  pub areas_right : Each (IsAreaRight s) (filter_map (area_in s) es)
  areas_right = each_given (area_in s) (λ (a b : Area). bytes_eq a.name b.name) (IsAreaRight s) es (λ above below e a whole is. (area_line s es right above below e a whole is).right)

  -- each area has a name of its own
  pub areas_apart : Pairwise (λ (a b : Area). bytes_eq a.name b.name ≡ false) (filter_map (area_in s) es)
  areas_apart = all_new (area_in s) (λ (a b : Area). bytes_eq a.name b.name) es (λ above below e a whole is. (area_line s es right above below e a whole is).fresh)

  pub areas_named : IsDistinct (pointwise nat_eq) (map (λ (a : Area). a.name) (filter_map (area_in s) es))
  areas_named = distinct_from (pointwise nat_eq) (λ (a : Area). a.name) (filter_map (area_in s) es) areas_apart

  few_above : (above below : List Entry) (e : Entry) → es ≡ above ++ e ∷ below → is_note is_area_part e ≡ true → count is_area_part above < 1024
  few_above above below (Statement item) whole is = absurd cc
  few_above above below (Annotation n) whole is = by n.part (line_right s es right above below n whole).many is
    where
      by : (part : Part) → is_too_many above (place_after above) part ≡ false → is_area_part part ≡ true → count is_area_part above < 1024
      by (parts.Byte name addr) many k = le_false 1024 (count is_area_part above) many
      by (parts.Word name addr) many k = le_false 1024 (count is_area_part above) many
      by (parts.Bytes name addr len) many k = le_false 1024 (count is_area_part above) many
      by _ many k = absurd cc

  declares : (part : Part) → is_some (area_by s.value part) ≡ is_area_part part
  declares (parts.Byte name addr) = refl
  declares (parts.Word name addr) = refl
  declares (parts.Bytes name addr len) = refl
  declares _ = refl

  counted : (entries : List Entry) → length (filter_map (area_in s) entries) ≡ count is_area_part entries
  counted [] = refl
  counted (Statement item ∷ entries) = counted entries
  counted (Annotation n ∷ entries) = by (area_by s.value n.part) (is_area_part n.part) (declares n.part) (counted entries)
    where
      by : (o : Option Area) (b : Bool) → is_some o ≡ b → length (filter_map (area_in s) entries) ≡ count is_area_part entries
          → length (cons_option o (filter_map (area_in s) entries)) ≡ length (cond b (Annotation n ∷ filter (is_note is_area_part) entries) (filter (is_note is_area_part) entries))
      by None false e k = k
      by (Some a) true e k = ap suc k
      by None true e k = absurd cc
      by (Some a) false e k = absurd cc

  pub few_areas : length (filter_map (area_in s) es) ≤ 1024
  few_areas = subst (λ n. n ≤ 1024) (sym (counted es)) (few (is_note is_area_part) 1024 es few_above)

-- an area is an area of a unit with the source's stack region
apart_from : (a : Area) (first last x : ℕ) → first ≤ last → meets_stack a (Some (first, last)) ≡ false → a.addr ≤ x → x < a.addr + a.len → first ≤ x → x ≤ last → ⊥
apart_from a first last x ordered apart low high from to =
    let meets_it : (nat_le first last && (nat_le a.addr last && nat_lt first (a.addr + a.len))) ≡ true =
    (λ i. le_at first last ordered i && (le_at a.addr last (omega arith) i && lt_true first (a.addr + a.len) (omega arith) i)) in
    let wrong : true ≡ false = sym meets_it ∙ apart in
    cc
  where
    le_at : (m n : ℕ) → m ≤ n → nat_le m n ≡ true
    le_at m n h = grind (arith, nat_tests)

pub is_area : (s : Source) (p : Program) (a : Area) → stack_of s ≡ Some (p.first, p.last) → p.first ≤ p.last → IsAreaRight s a → IsArea p a
is_area s p a stack ordered h = record {
  length = h.length;
  within = h.within;
  apart = λ x inside there. apart_from a p.first p.last x ordered (subst (λ o. meets_stack a o ≡ false) stack h.stack) inside.0 inside.1 there.0 there.1;
}

-- what holds of each element holds of one that is found
pub each_found : {X : Type 0} (P : X → Type 0) (test : X → Bool) (xs : List X) (x : X) → Each P xs → find test xs ≡ Some x → P x
each_found P test [] x h e = absurd cc
each_found P test (y ∷ ys) x h e = by (test y) e (each_found P test ys x h.1)
  where
    by : (b : Bool) → cond b (Some y) (find test ys) ≡ Some x → (find test ys ≡ Some x → P x) → P x
    by true k again = let is : y ≡ x = cc in subst P is h.0
    by false k again = again k
