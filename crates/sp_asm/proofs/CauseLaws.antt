-- What refuses a source is one thing, and excludes an assembly.
use Rattle.std.proofs.Common.{◌≡◌, ◌⊎◌, inl, inr, ℕ, ◌%◌, Bool, true, false, List, [], ◌∷◌, ◌++◌, map, Option, refl, sym, ap, subst, ◌∙◌, append_assoc}
use Rattle.std.specs.Prelude.{nat_eq}
use Rattle.std.specs.List.{IsDistinct, AllByRecursion}
use Rattle.std.proofs.lemmas.List.{map-append}
use Rattle.std.proofs.lemmas.Grind.{flat_map-append}
use Rattle.sp_base.specs.Cells.{Data, cells_at, cells_of}
use Rattle.sp_stmt.specs.declared.operand.Operand.{Operand}
use Rattle.sp_stmt.specs.declared.statement.Statement.{Statement}
use Rattle.sp_asm.specs.declared.refusal.AsmKind.{AsmKind}
use Rattle.sp_asm.specs.declared.refusal.AsmKind.TheVariants.{Syntax, TooDeep, Duplicate, Later, Undefined, ZeroDivisor, Range, PastEnd, Overlap}
use Rattle.sp_asm.specs.Values.{AreValues, AreInRange}
use Rattle.sp_asm.specs.Assembly.{IsAssembly, Place, uses_names_above, HasPlaceValue, HasRoom, IsPlaced, address_after, names_above, names_at, is_duplicate, ArePlaced, Row, HasRowValues, row_data, places_of, addresses_of}
use Rattle.sp_asm.specs.Refusals.{UsesLater, UsesUndefined, DividesByZero, BreaksPlace, BreaksRow, FirstRound, SecondRound}
use Rattle.sp_asm.proofs.SplitLaws.{AllSplits, fronts, further, kept_further}
use Rattle.sp_asm.proofs.ValueLaws.{values_are_one, none_missing, none_without}
use Rattle.sp_asm.proofs.UniqueLaws.{same_place, statement_at, one_place, places_are_one, place_of, Keeps, one_row}

-- ---- Operands without a value

-- operands have no value, for the reason of this kind
abbrev Lack : List Statement → (List ℕ → Option ℕ) → ℕ → List Operand → AsmKind → Type 0
Lack statements names here operands kind =
    ((kind ≡ Later) × UsesLater statements names operands)
    ⊎ (((kind ≡ Undefined) × UsesUndefined statements names operands) ⊎ ((kind ≡ ZeroDivisor) × DividesByZero names here operands))

module _ (statements : List Statement) (names : List ℕ → Option ℕ) (here : ℕ) (operands : List Operand) where
  one_lack : (a b : AsmKind) → Lack statements names here operands a → Lack statements names here operands b → a ≡ b
  one_lack a b (inl later) (inl again) = later.0 ∙ sym again.0
  one_lack a b (inl later) (inr (inl undefined)) = absurd (undefined.1.none_later later.1)
  one_lack a b (inl later) (inr (inr zero_divisor)) = absurd (zero_divisor.1.none_missing later.1.0 later.1.1)
  one_lack a b (inr (inl undefined)) (inl later) = absurd (undefined.1.none_later later.1)
  one_lack a b (inr (inl undefined)) (inr (inl again)) = undefined.0 ∙ sym again.0
  one_lack a b (inr (inl undefined)) (inr (inr zero_divisor)) = absurd (zero_divisor.1.none_missing undefined.1.name undefined.1.missing)
  one_lack a b (inr (inr zero_divisor)) (inl later) = absurd (zero_divisor.1.none_missing later.1.0 later.1.1)
  one_lack a b (inr (inr zero_divisor)) (inr (inl undefined)) = absurd (zero_divisor.1.none_missing undefined.1.name undefined.1.missing)
  one_lack a b (inr (inr zero_divisor)) (inr (inr again)) = zero_divisor.0 ∙ sym again.0

  no_lack : (values : List ℕ) (kind : AsmKind) → AreValues names here operands values → Lack statements names here operands kind → ⊥
  no_lack values kind h (inl later) = none_missing names here operands values later.1.0 h later.1.1
  no_lack values kind h (inr (inl undefined)) = none_missing names here operands values undefined.1.name h undefined.1.missing
  no_lack values kind h (inr (inr zero_divisor)) = none_without names here operands values h zero_divisor.1.without

clash : (b : Bool) → b ≡ true → b ≡ false → ⊥
clash b here there = cc

-- ---- Places

-- where a statement uses the names above, these are its values
values_above : (uses : Bool) (names : List ℕ → Option ℕ) (here : ℕ) (operands : List Operand) (value : ℕ) → uses ≡ true → HasPlaceValue uses names here operands value → (values : List ℕ) × AreValues names here operands values
values_above uses names here operands value are_above h =
    let k = subst (λ b. HasPlaceValue b names here operands value) are_above h in
    (k.0, k.1)

-- a place of the statement without room
record IsPastEnd (above : List Place) (s : Statement) : Type 0 where
  place : Place
  statement : place.statement ≡ s
  address : place.address ≡ address_after above
  apart : is_duplicate above s ≡ false
  value : HasPlaceValue (uses_names_above s.code) (names_above above) (place.address % 65536) s.operands place.value
  no_room : ¬ HasRoom place

record LacksAbove (statements : List Statement) (above : List Place) (s : Statement) (kind : AsmKind) : Type 0 where
  apart : is_duplicate above s ≡ false
  uses : uses_names_above s.code ≡ true
  lack : Lack statements (names_above above) (address_after above % 65536) s.operands kind

abbrev PlaceFault : List Statement → List Place → Statement → AsmKind → Type 0
PlaceFault statements above s kind =
    ((kind ≡ Duplicate) × (is_duplicate above s ≡ true)) ⊎ (LacksAbove statements above s kind ⊎ ((kind ≡ PastEnd) × IsPastEnd above s))

module _ (statements : List Statement) (above : List Place) (s : Statement) where
  place_fault : (kind : AsmKind) → BreaksPlace statements above s kind → PlaceFault statements above s kind
  place_fault Duplicate h = inl (refl, h)
  place_fault Later h = inr (inl (record { apart = h.0; uses = h.1; lack = inl (refl, h.2) }))
  place_fault Undefined h = inr (inl (record { apart = h.0; uses = h.1; lack = inr (inl (refl, h.2)) }))
  place_fault ZeroDivisor h = inr (inl (record { apart = h.0; uses = h.1; lack = inr (inr (refl, h.2)) }))
  place_fault PastEnd h = inr (inr (refl, record { place = h.0; statement = h.1; address = h.2; apart = h.3; value = h.4; no_room = h.5 }))
  place_fault Syntax h = absurd h
  place_fault TooDeep h = absurd h
  place_fault Range h = absurd h
  place_fault Overlap h = absurd h

  lack_or_past_end : (kind : AsmKind) → LacksAbove statements above s kind → IsPastEnd above s → ⊥
  lack_or_past_end kind lacks past =
      let value = subst (λ address. HasPlaceValue (uses_names_above s.code) (names_above above) (address % 65536) s.operands past.place.value) past.address past.value in
      let found = values_above (uses_names_above s.code) (names_above above) (address_after above % 65536) s.operands past.place.value lacks.uses value in
      no_lack statements (names_above above) (address_after above % 65536) s.operands found.0 kind found.1 lacks.lack

  one_fault : (a b : AsmKind) → PlaceFault statements above s a → PlaceFault statements above s b → a ≡ b
  one_fault a b (inl duplicate) (inl again) = duplicate.0 ∙ sym again.0
  one_fault a b (inl duplicate) (inr (inl lacks)) = absurd (clash (is_duplicate above s) duplicate.1 lacks.apart)
  one_fault a b (inl duplicate) (inr (inr past)) = absurd (clash (is_duplicate above s) duplicate.1 past.1.apart)
  one_fault a b (inr (inl lacks)) (inl duplicate) = absurd (clash (is_duplicate above s) duplicate.1 lacks.apart)
  one_fault a b (inr (inl lacks)) (inr (inl again)) = one_lack statements (names_above above) (address_after above % 65536) s.operands a b lacks.lack again.lack
  one_fault a b (inr (inl lacks)) (inr (inr past)) = absurd (lack_or_past_end a lacks past.1)
  one_fault a b (inr (inr past)) (inl duplicate) = absurd (clash (is_duplicate above s) duplicate.1 past.1.apart)
  one_fault a b (inr (inr past)) (inr (inl lacks)) = absurd (lack_or_past_end b lacks past.1)
  one_fault a b (inr (inr past)) (inr (inr again)) = past.0 ∙ sym again.0

  -- a statement breaks the equations of places in one way
  one_place_break : (a b : AsmKind) → BreaksPlace statements above s a → BreaksPlace statements above s b → a ≡ b
  one_place_break a b h k = one_fault a b (place_fault a h) (place_fault b k)

placed_or_fault : (statements : List Statement) (above : List Place) (p : Place) (kind : AsmKind) → IsPlaced above p → PlaceFault statements above p.statement kind → ⊥
placed_or_fault statements above p kind h (inl duplicate) = clash (is_duplicate above p.statement) duplicate.1 h.apart
placed_or_fault statements above p kind h (inr (inl lacks)) =
    let value = subst (λ address. HasPlaceValue (uses_names_above p.statement.code) (names_above above) (address % 65536) p.statement.operands p.value) h.address h.value in
    let found = values_above (uses_names_above p.statement.code) (names_above above) (address_after above % 65536) p.statement.operands p.value lacks.uses value in
    no_lack statements (names_above above) (address_after above % 65536) p.statement.operands found.0 kind found.1 lacks.lack
placed_or_fault statements above p kind h (inr (inr past)) =
    let q = past.1 in
    let value = subst (λ (t : Statement). HasPlaceValue (uses_names_above t.code) (names_above above) (q.place.address % 65536) t.operands q.place.value) (sym q.statement) q.value in
    q.no_room (subst HasRoom (same_place (names_above above) p q.place (sym q.statement) (h.address ∙ sym q.address) h.value value) h.room)

-- a place that keeps its equations breaks none
placed_or_broken : (statements : List Statement) (above : List Place) (p : Place) (s : Statement) (kind : AsmKind) → IsPlaced above p → p.statement ≡ s → BreaksPlace statements above s kind → ⊥
placed_or_broken statements above p s kind h e broken =
    let fault = place_fault statements above p.statement kind (subst (λ (t : Statement). BreaksPlace statements above t kind) (sym e) broken) in
    placed_or_fault statements above p kind h fault

-- ---- The first round

first_or_placed : (statements : List Statement) (line : ℕ) (kind : AsmKind) (all : List Place) → FirstRound statements line kind → ArePlaced all → map statement_at all ≡ statements → ⊥
first_or_placed statements line kind all h placed whole =
    let found = kept_further statement_at IsPlaced one_place h.above all h.broken h.below h.placed placed (whole ∙ h.whole) in
    placed_or_broken statements h.above found.0 h.broken kind found.1 found.2 h.breaks

one_first : (statements : List Statement) (line other : ℕ) (a b : AsmKind) → FirstRound statements line a → FirstRound statements other b → (line ≡ other) × (a ≡ b)
one_first statements line other a b h k =
    elim (fronts statement_at IsPlaced one_place h.above k.above h.broken k.broken h.below k.below h.placed k.placed (sym h.whole ∙ k.whole)) [
      | inl same ↦
          let at = subst (λ (s : Statement). BreaksPlace statements h.above s a) same.1 h.breaks in
          let there = subst (λ above. BreaksPlace statements above k.broken a) same.0 at in
          (sym h.at ∙ ap (λ (s : Statement). s.line.0) same.1 ∙ k.at, one_place_break statements k.above k.broken a b there k.breaks)
      | inr (inl longer) ↦ absurd (placed_or_broken statements h.above longer.0 h.broken a (k.placed h.above longer.1 longer.0 longer.2) longer.3 h.breaks)
      | inr (inr shorter) ↦ absurd (placed_or_broken statements k.above shorter.0 k.broken b (h.placed k.above shorter.1 shorter.0 shorter.2) shorter.3 k.breaks)
    ]

-- ---- Bytes apart

all_front : (P : ℕ → Type 0) (xs ys : List ℕ) → AllByRecursion P (xs ++ ys) → AllByRecursion P xs
all_front P [] ys h = tt
all_front P (x ∷ xs) ys h = (h.0, all_front P xs ys h.1)

distinct_front : (xs ys : List ℕ) → IsDistinct nat_eq (xs ++ ys) → IsDistinct nat_eq xs
unfolding IsDistinct
distinct_front [] ys h = tt
distinct_front (x ∷ xs) ys h = (all_front (λ y. nat_eq x y ≡ false) xs ys h.0, distinct_front xs ys h.1)

addresses_of-append : (xs ys : List Row) → addresses_of (xs ++ ys) ≡ addresses_of xs ++ addresses_of ys
addresses_of-append xs ys =
    ap (λ cells. map (λ (c : ℕ × ℕ). c.0) (cells_of cells)) (map-append row_data xs ys)
    ∙ ap (map (λ (c : ℕ × ℕ). c.0)) (flat_map-append (λ (d : Data). cells_at d.address d.bytes) (map row_data xs) (map row_data ys))
    ∙ map-append (λ (c : ℕ × ℕ). c.0) (cells_of (map row_data xs)) (cells_of (map row_data ys))

-- where the bytes of rows are apart, so are those of a front
apart_above : (rows above rest : List Row) (r : Row) → rows ≡ above ++ r ∷ rest → IsDistinct nat_eq (addresses_of rows) → IsDistinct nat_eq (addresses_of (above ++ r ∷ []))
apart_above rows above rest r e h =
    let parts : rows ≡ (above ++ r ∷ []) ++ rest = e ∙ sym (append_assoc above (r ∷ []) rest) in
    distinct_front (addresses_of (above ++ r ∷ [])) (addresses_of rest)
    (subst (IsDistinct nat_eq) (ap addresses_of parts ∙ addresses_of-append (above ++ r ∷ []) rest) h)

-- ---- Rows

-- where a statement uses all names, these are its values
values_at : (uses : Bool) (names : List ℕ → Option ℕ) (here : ℕ) (operands : List Operand) (values : List ℕ) → uses ≡ false → HasRowValues uses names here operands values → AreValues names here operands values × AreInRange operands values
values_at uses names here operands values not_above h = subst (λ b. HasRowValues b names here operands values) not_above h

record LacksAt (statements : List Statement) (names : List ℕ → Option ℕ) (p : Place) (kind : AsmKind) : Type 0 where
  uses : uses_names_above p.statement.code ≡ false
  lack : Lack statements names (p.address % 65536) p.statement.operands kind

record IsOutOfRange (names : List ℕ → Option ℕ) (p : Place) : Type 0 where
  uses : uses_names_above p.statement.code ≡ false
  values : List ℕ
  are : AreValues names (p.address % 65536) p.statement.operands values
  not_in_range : ¬ AreInRange p.statement.operands values

record Overlaps (all : List Place) (above : List Row) (p : Place) : Type 0 where
  row : Row
  place : row.place ≡ p
  keeps : Keeps all above row
  not_apart : ¬ IsDistinct nat_eq (addresses_of (above ++ row ∷ []))

abbrev RowFault : List Statement → List Place → List Row → Place → AsmKind → Type 0
RowFault statements all above p kind =
    LacksAt statements (names_at all (places_of above)) p kind
    ⊎ (((kind ≡ Range) × IsOutOfRange (names_at all (places_of above)) p) ⊎ ((kind ≡ Overlap) × Overlaps all above p))

module _ (statements : List Statement) (all : List Place) (above : List Row) (p : Place) where
  row_fault : (kind : AsmKind) → BreaksRow statements all above p kind → RowFault statements all above p kind
  row_fault Later h = inl (record { uses = h.0; lack = inl (refl, h.1) })
  row_fault Undefined h = inl (record { uses = h.0; lack = inr (inl (refl, h.1)) })
  row_fault ZeroDivisor h = inl (record { uses = h.0; lack = inr (inr (refl, h.1)) })
  row_fault Range h = inr (inl (refl, record { uses = h.0; values = h.1.0; are = h.1.1; not_in_range = h.1.2 }))
  row_fault Overlap h = inr (inr (refl, record { row = h.0; place = h.1; keeps = h.2; not_apart = h.3 }))
  row_fault Syntax h = absurd h
  row_fault TooDeep h = absurd h
  row_fault Duplicate h = absurd h
  row_fault PastEnd h = absurd h

  -- the values of a row for this place that keeps its equations
  kept_values : (r : Row) → uses_names_above p.statement.code ≡ false → r.place ≡ p → Keeps all above r
      → AreValues (names_at all (places_of above)) (p.address % 65536) p.statement.operands r.values × AreInRange p.statement.operands r.values
  kept_values r not_above e h =
      let moved = subst (λ (q : Place). HasRowValues (uses_names_above q.statement.code) (names_at all (places_of above)) (q.address % 65536) q.statement.operands r.values) e h in
      values_at (uses_names_above p.statement.code) (names_at all (places_of above)) (p.address % 65536) p.statement.operands r.values not_above moved

  lack_or_kept : (kind : AsmKind) (r : Row) → LacksAt statements (names_at all (places_of above)) p kind → r.place ≡ p → Keeps all above r → ⊥
  lack_or_kept kind r lacks e h =
      no_lack statements (names_at all (places_of above)) (p.address % 65536) p.statement.operands r.values kind (kept_values r lacks.uses e h).0 lacks.lack

  lack_or_range : (kind : AsmKind) → LacksAt statements (names_at all (places_of above)) p kind → IsOutOfRange (names_at all (places_of above)) p → ⊥
  lack_or_range kind lacks range = no_lack statements (names_at all (places_of above)) (p.address % 65536) p.statement.operands range.values kind range.are lacks.lack

  range_or_kept : (r : Row) → IsOutOfRange (names_at all (places_of above)) p → r.place ≡ p → Keeps all above r → ⊥
  range_or_kept r range e h =
      let kept = kept_values r range.uses e h in
      let same = values_are_one (names_at all (places_of above)) (p.address % 65536) p.statement.operands r.values range.values kept.0 range.are in
      range.not_in_range (subst (AreInRange p.statement.operands) same kept.1)

  one_row_fault : (a b : AsmKind) → RowFault statements all above p a → RowFault statements all above p b → a ≡ b
  one_row_fault a b (inl lacks) (inl again) = one_lack statements (names_at all (places_of above)) (p.address % 65536) p.statement.operands a b lacks.lack again.lack
  one_row_fault a b (inl lacks) (inr (inl range)) = absurd (lack_or_range a lacks range.1)
  one_row_fault a b (inl lacks) (inr (inr overlap)) = absurd (lack_or_kept a overlap.1.row lacks overlap.1.place overlap.1.keeps)
  one_row_fault a b (inr (inl range)) (inl lacks) = absurd (lack_or_range b lacks range.1)
  one_row_fault a b (inr (inl range)) (inr (inl again)) = range.0 ∙ sym again.0
  one_row_fault a b (inr (inl range)) (inr (inr overlap)) = absurd (range_or_kept overlap.1.row range.1 overlap.1.place overlap.1.keeps)
  one_row_fault a b (inr (inr overlap)) (inl lacks) = absurd (lack_or_kept b overlap.1.row lacks overlap.1.place overlap.1.keeps)
  one_row_fault a b (inr (inr overlap)) (inr (inl range)) = absurd (range_or_kept overlap.1.row range.1 overlap.1.place overlap.1.keeps)
  one_row_fault a b (inr (inr overlap)) (inr (inr again)) = overlap.0 ∙ sym again.0

  -- a place breaks the equations of rows in one way
  one_row_break : (a b : AsmKind) → BreaksRow statements all above p a → BreaksRow statements all above p b → a ≡ b
  one_row_break a b h k = one_row_fault a b (row_fault a h) (row_fault b k)

  row_or_fault : (r : Row) (kind : AsmKind) → r.place ≡ p → Keeps all above r → IsDistinct nat_eq (addresses_of (above ++ r ∷ [])) → RowFault statements all above p kind → ⊥
  row_or_fault r kind e h apart (inl lacks) = lack_or_kept kind r lacks e h
  row_or_fault r kind e h apart (inr (inl range)) = range_or_kept r range.1 e h
  row_or_fault r kind e h apart (inr (inr overlap)) =
      let q = overlap.1 in
      q.not_apart (subst (λ (x : Row). IsDistinct nat_eq (addresses_of (above ++ x ∷ []))) (one_row all above r q.row (e ∙ sym q.place) h q.keeps) apart)

  -- a row that keeps its equations breaks none
  row_or_broken : (rows rest : List Row) (r : Row) (kind : AsmKind) → rows ≡ above ++ r ∷ rest → r.place ≡ p → Keeps all above r → IsDistinct nat_eq (addresses_of rows) → BreaksRow statements all above p kind → ⊥
  row_or_broken rows rest r kind parts e h apart broken = row_or_fault r kind e h (apart_above rows above rest r parts apart) (row_fault kind broken)

-- ---- The second round

second_or_assembly : (statements : List Statement) (line : ℕ) (kind : AsmKind) (rows : List Row) → SecondRound statements line kind → IsAssembly statements rows → ⊥
second_or_assembly statements line kind rows h k =
    let same = places_are_one (places_of rows) h.all k.places h.placed (k.whole ∙ sym h.whole) in
    let each = subst (λ all. AllSplits (Keeps all) rows) same k.each in
    let found = further place_of (Keeps h.all) (one_row h.all) h.above rows h.broken h.below h.rows each (same ∙ h.parts) in
    row_or_broken statements h.all h.above h.broken rows found.1 found.0 kind found.2 found.3 (each h.above found.1 found.0 found.2) k.apart h.breaks

one_second : (statements : List Statement) (line other : ℕ) (a b : AsmKind) → SecondRound statements line a → SecondRound statements other b → (line ≡ other) × (a ≡ b)
one_second statements line other a b h k =
    let all = places_are_one k.all h.all k.placed h.placed (k.whole ∙ sym h.whole) in
    let rows = subst (λ places. AllSplits (Keeps places) k.above) all k.rows in
    let breaks = subst (λ places. BreaksRow statements places k.above k.broken b) all k.breaks in
    elim (fronts place_of (Keeps h.all) (one_row h.all) h.above k.above h.broken k.broken h.below k.below h.rows rows (sym h.parts ∙ sym all ∙ k.parts)) [
      | inl same ↦
          let at = subst (λ (p : Place). BreaksRow statements h.all h.above p a) same.1 h.breaks in
          let there = subst (λ above. BreaksRow statements h.all above k.broken a) same.0 at in
          (sym h.at ∙ ap (λ (p : Place). p.statement.line.0) same.1 ∙ k.at, one_row_break statements h.all k.above k.broken a b there breaks)
      | inr (inl longer) ↦
          absurd (row_or_broken statements h.all h.above h.broken k.above longer.1 longer.0 a longer.2 longer.3 (rows h.above longer.1 longer.0 longer.2) k.apart h.breaks)
      | inr (inr shorter) ↦
          absurd (row_or_broken statements h.all k.above k.broken h.above shorter.1 shorter.0 b shorter.2 shorter.3 (h.rows k.above shorter.1 shorter.0 shorter.2) h.apart breaks)
    ]

-- ---- Both rounds

abbrev pub Round : List Statement → ℕ → AsmKind → Type 0
Round statements line kind = FirstRound statements line kind ⊎ SecondRound statements line kind

first_or_second : (statements : List Statement) (line other : ℕ) (a b : AsmKind) → FirstRound statements line a → SecondRound statements other b → ⊥
first_or_second statements line other a b h k = first_or_placed statements line a k.all h k.placed k.whole

-- statements are refused for one kind at one line
pub one_round : (statements : List Statement) (line other : ℕ) (a b : AsmKind) → Round statements line a → Round statements other b → (line ≡ other) × (a ≡ b)
one_round statements line other a b (inl h) (inl k) = one_first statements line other a b h k
one_round statements line other a b (inl h) (inr k) = absurd (first_or_second statements line other a b h k)
one_round statements line other a b (inr h) (inl k) = absurd (first_or_second statements other line b a k h)
one_round statements line other a b (inr h) (inr k) = one_second statements line other a b h k

-- and not where they have an assembly
pub round_or_assembly : (statements : List Statement) (line : ℕ) (kind : AsmKind) (rows : List Row) → IsAssembly statements rows → Round statements line kind → ⊥
round_or_assembly statements line kind rows h (inl k) = first_or_placed statements line kind (places_of rows) k h.places h.whole
round_or_assembly statements line kind rows h (inr k) = second_or_assembly statements line kind rows k h
