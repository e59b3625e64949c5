-- What the items and the names of a listing say of addresses.
use Rattle.std.proofs.Common.{◌≡◌, ℕ, ◌+◌, ◌%◌, ◌<◌, Bool, true, false, List, [], ◌∷◌, ◌++◌, length, map, Option, Some, is_some, refl, sym, ap, subst, ◌∙◌, arith, append_assoc, lit<}
use Rattle.std.specs.Prelude.{slice_index}
use Rattle.std.proofs.lemmas.List.Sums.{fold-append}
use Rattle.sp_isa.specs.Code as isa
use Rattle.sp_stmt.specs.declared.operand.Operand.{Operand}
use Rattle.sp_stmt.specs.declared.operand.Operand.TheVariants as operand
use Rattle.sp_stmt.specs.declared.statement.Code.{Code}
use Rattle.sp_stmt.specs.declared.statement.Code.TheVariants as code
use Rattle.sp_asm.specs.declared.listing.Item.{Item}
use Rattle.sp_asm.specs.declared.listing.ItemKind.{ItemKind}
use Rattle.sp_asm.specs.declared.listing.ItemKind.TheVariants as kind
use Rattle.sp_asm.specs.Assembly.{Place, Row, places_of, item_of, kind_by, names_of, uses_names_above, address_behind, next_address, address_after, HasPlaceValue, names_above, ArePlaced, IsPlaced}
use Rattle.sp_asm.specs.Names.{value_in}
use Rattle.sp_asm.specs.Meanings.{Means, by_label, by_equ, by_last_set}
use Rattle.sp_asm.specs.Source.{HasAssembly}
use Rattle.sp_asm.specs.Values.{IsValue, AreValues}
use Rattle.sp_asm.proofs.DataLaws.{size-with_value}
use Rattle.sp_asm.proofs.MeaningLemmas.{means_in}
use Rattle.sp_asm.proofs.PlainLemmas.{plain_assembly}
use Rattle.sp_unit.specs.Faults.{is_data}
use Rattle.sp_unit.proofs.UnitValueLemmas.{IsShort, tree_short}

-- ---- Addresses follow on

-- how many bytes an item has that is no data and leaves no space
abbrev pub size_by : ItemKind → ℕ
size_by (kind.Instr i) = length (isa.code i)
size_by kind.Label = 0
size_by kind.Bytes = 0
size_by kind.Space = 0
size_by kind.Org = 0
size_by kind.Other = 0

-- the first of these stands there
abbrev pub Expects : ℕ → List Item → Type 0
Expects a [] = Unit {0}
Expects a (item ∷ items) = item.addr ≡ a

-- each stands where the one above ends, where that is no data and leaves no space
abbrev pub FollowOn : List Item → Type 0
FollowOn [] = Unit {0}
FollowOn (item ∷ items) = (is_data item.kind ≡ false → Expects (item.addr + size_by item.kind) items) × FollowOn items

same_end : (c : Code) (values : List ℕ) (operands : List Operand) (a v : ℕ) → is_data (kind_by c values) ≡ false → address_behind c operands a v ≡ a + size_by (kind_by c values)
same_end (code.Instr i) values operands a v free = ap (λ n. a + n) (sym (size-with_value (slice_index values 0) i))
same_end code.Data values operands a v free = absurd cc
same_end code.Space values operands a v free = absurd cc
same_end code.Org values operands a v free = absurd cc
same_end (code.Equ name) values operands a v free = omega arith
same_end (code.Set name) values operands a v free = omega arith
same_end code.Nothing values operands a v free = omega arith
same_end code.End values operands a v free = omega arith

after_last : (above : List Place) (p : Place) → address_after (above ++ p ∷ []) ≡ next_address p
after_last above p = fold-append (λ (address : ℕ) (q : Place). next_address q) 0 above (p ∷ [])

module _ (all : List Place) (placed : ArePlaced all) where
  expects : (above : List Place) (r : Row) (rows : List Row) → all ≡ above ++ r.place ∷ places_of rows → is_data (kind_by r.place.statement.code r.values) ≡ false
      → Expects (r.place.address + size_by (kind_by r.place.statement.code r.values)) (map item_of rows)
  expects above r [] whole free = tt
  expects above r (q ∷ rows) whole free =
      let is = placed (above ++ r.place ∷ []) (places_of rows) q.place (whole ∙ sym (append_assoc above (r.place ∷ []) (q.place ∷ places_of rows))) in
      is.address ∙ after_last above r.place ∙ same_end r.place.statement.code r.values r.place.statement.operands r.place.address r.place.value free

  follow_from : (above : List Place) (rows : List Row) → all ≡ above ++ places_of rows → FollowOn (map item_of rows)
  follow_from above [] whole = tt
  follow_from above (r ∷ rows) whole = (
    expects above r rows whole,
    follow_from (above ++ r.place ∷ []) rows (whole ∙ sym (append_assoc above (r.place ∷ []) (places_of rows))),
  )

pub follow_on : (rows : List Row) → ArePlaced (places_of rows) → FollowOn (map item_of rows)
follow_on rows placed = follow_from (places_of rows) placed [] rows refl

-- ---- Names

operand_short : (names : List ℕ → Option ℕ) (here : ℕ) (o : Operand) (v : ℕ) → IsValue names here o v → v < 65536
operand_short names here (operand.Text characters) v h = subst (λ n. n < 65536) (sym h) (lit< tt)
operand_short names here (operand.Byte ws) v h = subst IsShort h.value_is (tree_short names here h.tree)
operand_short names here (operand.Word ws) v h = subst IsShort h.value_is (tree_short names here h.tree)
operand_short names here (operand.Restart ws) v h = subst IsShort h.value_is (tree_short names here h.tree)

first_short : (names : List ℕ → Option ℕ) (here : ℕ) (operands : List Operand) (values : List ℕ) → AreValues names here operands values → slice_index values 0 < 65536
first_short names here [] [] h = lit< tt
first_short names here [] (v ∷ values) h = absurd h
first_short names here (o ∷ operands) [] h = absurd h
first_short names here (o ∷ operands) (v ∷ values) h = operand_short names here o v h.0

place_short : (uses : Bool) (names : List ℕ → Option ℕ) (here : ℕ) (operands : List Operand) (v : ℕ) → HasPlaceValue uses names here operands v → v < 65536
place_short true names here operands v h = subst (λ n. n < 65536) (sym h.2) (first_short names here operands h.0 h.1)
place_short false names here operands v h = subst (λ n. n < 65536) (sym h) (lit< tt)

placed_short : (above : List Place) (p : Place) → IsPlaced above p → p.value < 65536
placed_short above p h = place_short (uses_names_above p.statement.code) (names_above above) (p.address % 65536) p.statement.operands p.value h.value

module _ (source : List ℕ) (rows : List Row) (h : HasAssembly source rows) where
  means_short : (name : List ℕ) (v : ℕ) → Means (places_of rows) (places_of rows) name v → v < 65536
  means_short name v (by_label front back p whole is) =
      let placed = h.assembles.2.places front back p whole in
      subst (λ n. n < 65536) (sym is.1) (placed.room.label (ap is_some is.0))
  means_short name v (by_equ front back p whole is) = subst (λ n. n < 65536) (sym is.1) (placed_short front p (h.assembles.2.places front back p whole))
  means_short name v (by_last_set front back p whole is last) = subst (λ n. n < 65536) (sym is.1) (placed_short front p (h.assembles.2.places front back p whole))

  -- each name stands for a number of sixteen bits
  pub names_short : (name : List ℕ) (v : ℕ) → value_in (names_of rows) name ≡ Some v → v < 65536
  names_short name v e = means_short name v ((means_in (places_of rows) h.assembles.2.places (plain_assembly source rows h) name v).0 e)

  found_place : (rs : List Row) (front back : List Item) (item : Item) → map item_of rs ≡ front ++ item ∷ back
      → (above below : List Place) × (p : Place) × (places_of rs ≡ above ++ p ∷ below) × (p.statement.label ≡ item.label) × (p.address ≡ item.addr)
  found_place [] [] back item e = absurd cc
  found_place [] (x ∷ front) back item e = absurd cc
  found_place (r ∷ rs) [] back item e =
      let first : item_of r ≡ item = cc in
      ([], places_of rs, r.place, refl, ap (λ (i : Item). i.label) first, ap (λ (i : Item). i.addr) first)
  found_place (r ∷ rs) (x ∷ front) back item e =
      let rest : map item_of rs ≡ front ++ item ∷ back = cc in
      let found = found_place rs front back item rest in
      (r.place ∷ found.0, found.1, found.2, ap (λ l. r.place ∷ l) found.3, found.4, found.5)

  -- a label stands for the address of its item
  pub label_is : (front back : List Item) (item : Item) (name : List ℕ) → map item_of rows ≡ front ++ item ∷ back → item.label ≡ Some name → value_in (names_of rows) name ≡ Some item.addr
  label_is front back item name e is =
      let found = found_place rows front back item e in
      (means_in (places_of rows) h.assembles.2.places (plain_assembly source rows h) name item.addr).1
      (by_label found.0 found.1 found.2 found.3 (found.4 ∙ is, sym found.5))
