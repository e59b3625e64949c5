-- One row more.
use Rattle.std.proofs.Common.{◌≡◌, ℕ, ◌+◌, ◌<◌, ◌%◌, Bool, true, false, ◌||◌, List, [], ◌∷◌, ◌++◌, map, refl, sym, ap, subst, ◌∙◌, fold, inl, inr, arith, length, append_assoc, get_or, take, drop}
use Rattle.std.specs.Prelude.{Option, Some, None, Err, nat_eq}
use Rattle.std.specs.List.{IsDistinct, list_any}
use Rattle.std.specs.Cmp.Lexicographic.{pointwise}
use Rattle.std.proofs.lemmas.List.Folds.{list_any-append}
use Rattle.std.proofs.lemmas.List.Elements.{filter-append}
use Rattle.std.proofs.lemmas.List.{map-append, length-map}
use Rattle.sp_base.specs.declared.line.Line.{Line}
use Rattle.sp_base.specs.declared.refused.Refused.{Refused}
use Rattle.sp_base.specs.declared.refused.Refused.TheVariants as refused
use Rattle.sp_base.specs.Refused.{Answers}
use Rattle.sp_base.specs.Image.{ImageMap}
use Rattle.sp_base.specs.Cells.{cells_at, cells_of, placed}
use Rattle.sp_base.proofs.CellLaws.{placed_apart, placed_some, cells_more, map_of, some_map}
use Rattle.sp_base.proofs.FindLaws.{Cells}
use Rattle.sp_stmt.specs.declared.operand.Operand.{Operand}
use Rattle.sp_stmt.specs.declared.statement.Code.{Code}
use Rattle.sp_stmt.specs.declared.statement.Code.TheVariants as code
use Rattle.sp_stmt.specs.declared.statement.Statement.{Statement}
use Rattle.sp_asm.specs.declared.listing.Item.{Item}
use Rattle.sp_asm.specs.declared.listing.Listing.{Listing}
use Rattle.sp_asm.specs.declared.refusal.AsmKind.{AsmKind}
use Rattle.sp_asm.specs.declared.refusal.AsmKind.TheVariants as kind
use Rattle.sp_asm.specs.declared.places.Spot.{Spot}
use Rattle.sp_asm.specs.declared.rows.Rows.{Rows}
use Rattle.sp_asm.specs.Names.{Definition, Entries, with_definition, symbols, fixed, by_set, is_set, name_by, name_of, set_definition, is_named, defines, value_in}
use Rattle.sp_asm.specs.Assembly.{Place, definition_of, definition_by, defined_value, definitions, uses_names_above, Row, places_of, row_bytes, bytes_by, row_data, item_of, addresses_of, names_at, HasRowValues, IsRow, ArePlaced, IsAssembly}
use Rattle.sp_asm.specs.Values.{AreValues, AreInRange}
use Rattle.sp_asm.specs.code.Passes.{spot_of, IsRows, Declares, RefusesLine, ListsAssembly}
use Rattle.sp_asm.specs.Refusals.{BreaksRow, SecondRound}
use Rattle.sp_asm.proofs.ElementLaws.{element, cut_at, one_further}
use Rattle.sp_asm.proofs.FaultLaws.{Faults}
use Rattle.sp_asm.proofs.NameLaws.{found}
use Rattle.sp_asm.proofs.PlaceLaws.{definitions_more, symbols_more}
use Rattle.sp_asm.proofs.SplitLaws.{splits_more}

-- the cells of rows
abbrev pub cells : List Row → Cells
cells rows = cells_of (map row_data rows)

pub row_cells : (rows : List Row) (r : Row) → cells (rows ++ r ∷ []) ≡ cells rows ++ cells_at r.place.address (row_bytes r)
row_cells rows r = ap cells_of (map-append row_data rows (r ∷ [])) ∙ cells_more (map row_data rows) (row_data r)

pub row_places : (rows : List Row) (r : Row) → places_of (rows ++ r ∷ []) ≡ places_of rows ++ r.place ∷ []
row_places rows r = map-append (λ (q : Row). q.place) rows (r ∷ [])

abbrev names_with : List Place → List Place → Entries
names_with all above = symbols (fixed (definitions all) ++ by_set (definitions above))

pub row_names : (all : List Place) (rows : List Row) (r : Row) (es new : Entries) → es ≡ names_with all (places_of rows)
    → new ≡ fold with_definition es (by_set (definition_of r.place)) → new ≡ names_with all (places_of (rows ++ r ∷ []))
row_names all rows r es new old is =
    is ∙ ap (λ (n : Entries). fold with_definition n (by_set (definition_of r.place))) old
    ∙ sym (symbols_more (fixed (definitions all) ++ by_set (definitions (places_of rows))) (by_set (definition_of r.place)))
    ∙ ap symbols (append_assoc (fixed (definitions all)) (by_set (definitions (places_of rows))) (by_set (definition_of r.place)))
    ∙ ap (λ (ds : List Definition). symbols (fixed (definitions all) ++ ds)) (sym (filter-append (λ (d : Definition). d.by_set) (definitions (places_of rows)) (definition_of r.place)))
    ∙ ap (λ (ds : List Definition). symbols (fixed (definitions all) ++ by_set ds)) (sym (definitions_more (places_of rows) r.place))
    ∙ ap (names_with all) (sym (row_places rows r))

unset : (label : Option (List ℕ)) (value : ℕ) → by_set (definition_by label value false) ≡ []
unset None value = refl
unset (Some name) value = refl

-- the name that SET gives
pub set_is : (c : Code) (label : Option (List ℕ)) (a value : ℕ) → by_set (definition_by (name_by c label) (defined_value c a value) (is_set c)) ≡ set_definition c value
set_is (code.Set name) label a value = refl
set_is (code.Equ name) label a value = refl
set_is code.Nothing label a value = unset label a
set_is (code.Instr i) label a value = unset label a
set_is code.Data label a value = unset label a
set_is code.Space label a value = unset label a
set_is code.Org label a value = unset label a
set_is code.End label a value = unset label a

-- the bytes of codes that use the names above: none
pub early_bytes : (c : Code) (operands : List Operand) (values : List ℕ) → uses_names_above c ≡ true → bytes_by c operands values ≡ []
early_bytes code.Space operands values h = refl
early_bytes code.Org operands values h = refl
early_bytes (code.Equ name) operands values h = refl
early_bytes (code.Set name) operands values h = refl
early_bytes code.Nothing operands values h = absurd cc
early_bytes (code.Instr i) operands values h = absurd cc
early_bytes code.Data operands values h = absurd cc
early_bytes code.End operands values h = absurd cc

-- SET uses the names above
pub late_is_no_set : (c : Code) (value : ℕ) → uses_names_above c ≡ false → set_definition c value ≡ []
late_is_no_set code.Space value h = refl
late_is_no_set code.Org value h = refl
late_is_no_set (code.Equ name) value h = refl
late_is_no_set (code.Set name) value h = absurd cc
late_is_no_set code.Nothing value h = refl
late_is_no_set (code.Instr i) value h = refl
late_is_no_set code.Data value h = refl
late_is_no_set code.End value h = refl

-- what the code has with one row more
pub more_rows : (old new : Rows) (all : List Place) (rows : List Row) (r : Row) → IsRows old all rows
    → new.items.items ≡ old.items.items ++ item_of r ∷ []
    → placed r.place.address (row_bytes r) old.image ≡ Some new.image
    → new.names.entries ≡ fold with_definition old.names.entries (by_set (definition_of r.place))
    → IsRow all (places_of rows) r → IsRows new all (rows ++ r ∷ [])
more_rows old new all rows r h items image names row =
    let put : placed r.place.address (row_bytes r) (map_of (cells rows)) ≡ Some new.image = ap (placed r.place.address (row_bytes r)) (sym h.image) ∙ image in
    let both = placed_some (cells rows) r.place.address (row_bytes r) new.image h.apart put in
    record {
      items = map-append item_of rows (r ∷ []) ∙ ap (λ (xs : List Item). xs ++ item_of r ∷ []) h.items ∙ sym items;
      image = both.1 ∙ ap map_of (sym (row_cells rows r));
      names = row_names all rows r old.names.entries new.names.entries h.names names;
      each = splits_more (λ above q. IsRow all (places_of above) q) rows r row h.each;
      apart = subst (λ (cs : Cells). IsDistinct nat_eq (map (λ c. c.0) cs)) (sym (row_cells rows r)) both.0;
    }

-- bytes of which one has an address that is taken
pub overlaps : (old : Rows) (all : List Place) (rows : List Row) (r : Row) → IsRows old all rows → placed r.place.address (row_bytes r) old.image ≡ None
    → ¬ IsDistinct nat_eq (addresses_of (rows ++ r ∷ []))
overlaps old all rows r h none apart =
    let new = placed_apart (cells rows) r.place.address (row_bytes r) (subst (λ (cs : Cells). IsDistinct nat_eq (map (λ c. c.0) cs)) (row_cells rows r) apart) in
    some_map _ (sym new ∙ ap (placed r.place.address (row_bytes r)) (sym h.image) ∙ none)

-- no bytes leave an image
pub placed_nothing : (bytes : List ℕ) (a : ℕ) (image : ImageMap) → length bytes ≡ 0 → placed a bytes image ≡ Some image
unfolding placed
placed_nothing [] a image h = refl
placed_nothing (byte ∷ bytes) a image h = absurd (omega arith)

named_by : (name : List ℕ) (n : Option (List ℕ)) (value : ℕ) (set rest : Bool)
    → (list_any (λ (d : Definition). pointwise nat_eq name d.name) (definition_by n value set) || rest) ≡ (is_named name n || rest)
named_by name None value set rest = refl
named_by name (Some other) value set rest = ap (λ b. b || rest) (or_false (pointwise nat_eq name other))
  where
    or_false : (a : Bool) → (a || false) ≡ a
    or_false true = refl
    or_false false = refl

named_in : (name : List ℕ) (places : List Place) → list_any (λ d. pointwise nat_eq name d.name) (definitions places) ≡ defines (map (λ (q : Place). q.statement) places) name
named_in name [] = refl
named_in name (p ∷ places) =
    list_any-append (λ (d : Definition). pointwise nat_eq name d.name) (definition_of p) (definitions places)
    ∙ named_by name (name_of p.statement) (defined_value p.statement.code p.address p.value) (is_set p.statement.code) (list_any (λ (d : Definition). pointwise nat_eq name d.name) (definitions places))
    ∙ ap (λ b. is_named name (name_of p.statement) || b) (named_in name places)

-- the names of all places are those that their statements define
pub declares_all : (places : List Place) → Declares (value_in (symbols (definitions places))) (map (λ (q : Place). q.statement) places)
declares_all places name = found name (definitions places) ∙ named_in name places

-- a statement that uses all names, of which one operand has no value
pub breaks_by_fault : (statements : List Statement) (all : List Place) (rows : List Row) (p : Place) (why : AsmKind) → uses_names_above p.statement.code ≡ false
    → Faults statements (names_at all (places_of rows)) (p.address % 65536) p.statement.operands why → BreaksRow statements all rows p why
breaks_by_fault statements all rows p kind.Later late h = (late, h)
breaks_by_fault statements all rows p kind.Undefined late h = (late, h)
breaks_by_fault statements all rows p kind.ZeroDivisor late h = (late, h)
breaks_by_fault statements all rows p kind.Syntax late h = absurd h
breaks_by_fault statements all rows p kind.TooDeep late h = absurd h
breaks_by_fault statements all rows p kind.Duplicate late h = absurd h
breaks_by_fault statements all rows p kind.Range late h = absurd h
breaks_by_fault statements all rows p kind.PastEnd late h = absurd h
breaks_by_fault statements all rows p kind.Overlap late h = absurd h

-- values by the names of the code, in their ranges, keep the equations of a row
pub row_of : (old : Rows) (all : List Place) (rows : List Row) (p : Place) (s : Statement) (address : ℕ) (values : List ℕ) → IsRows old all rows → p.statement ≡ s → p.address ≡ address
    → uses_names_above s.code ≡ false → AreValues (value_in old.names.entries) (address % 65536) s.operands values → AreInRange s.operands values
    → IsRow all (places_of rows) (record { place = p; values = values })
row_of old all rows p s address values h at is late are within =
    let now = subst (λ (b : Bool). HasRowValues b (value_in old.names.entries) (address % 65536) s.operands values) (sym late) (are, within) in
    let named = subst (λ (es : Entries). HasRowValues (uses_names_above s.code) (value_in es) (address % 65536) s.operands values) h.names now in
    let placed_at = subst (λ (a : ℕ). HasRowValues (uses_names_above s.code) (names_at all (places_of rows)) (a % 65536) s.operands values) (sym is) named in
    subst (λ (st : Statement). HasRowValues (uses_names_above st.code) (names_at all (places_of rows)) (p.address % 65536) st.operands values) (sym at) placed_at

-- a place that has no row refuses the source
pub refuses_second : (statements : List Statement) (all below : List Place) (rows : List Row) (p : Place) (line : Line) (r : Refused AsmKind) (old : Rows)
    → map (λ (q : Place). q.statement) all ≡ statements → ArePlaced all → all ≡ places_of rows ++ p ∷ below → IsRows old all rows → p.statement.line ≡ line
    → RefusesLine line (BreaksRow statements all rows p) r → Answers {A = Listing} (ListsAssembly statements) (SecondRound statements) (Err r)
refuses_second statements all below rows p line refused.Memory old whole placed_all parts h at stops = tt
refuses_second statements all below rows p line (refused.At found kind) old whole placed_all parts h at stops = record {
  all = all;
  whole = whole;
  placed = placed_all;
  above = rows;
  broken = p;
  below = below;
  parts = parts;
  rows = h.each;
  apart = h.apart;
  at = ap (λ (l : Line). l.0) (at ∙ sym stops.0);
  breaks = stops.1;
}

-- the rows of all places are an assembly
pub assembled : (statements : List Statement) (all : List Place) (rows : List Row) (old : Rows) → map (λ (q : Place). q.statement) all ≡ statements → ArePlaced all
    → places_of rows ≡ all → IsRows old all rows → IsAssembly statements rows
assembled statements all rows old whole placed_all every h = record {
  whole = ap (map (λ (q : Place). q.statement)) every ∙ whole;
  places = subst ArePlaced (sym every) placed_all;
  each = subst (λ (ps : List Place). (above below : List Row) (r : Row) → rows ≡ above ++ r ∷ below → IsRow ps (places_of above) r) (sym every) h.each;
  apart = h.apart;
}

-- the place at an index, by its statement and what the code keeps of it
pub place_at : (all : List Place) (statements : List Statement) (spots : List Spot) (i : ℕ) (s : Statement) (spot : Spot)
    → map (λ (q : Place). q.statement) all ≡ statements → map spot_of all ≡ spots → i < length statements → s ≡ get_or statements i s → spot ≡ get_or spots i spot
    → (p : Place) × (p.statement ≡ s) × (p.address ≡ spot.address) × (p.value ≡ spot.value) × (all ≡ take i all ++ p ∷ drop (i + 1) all) × (take (i + 1) all ≡ take i all ++ p ∷ [])
place_at all statements spots i s spot whole kept lt is at =
    let count : length statements ≡ length all = ap length (sym whole) ∙ length-map all (λ (q : Place). q.statement) in
    let within : i < length all = omega arith in
    let e = element (λ (q : Place). q.statement) spot_of all i within in
    let same : spot_of e.0 ≡ spot = sym (e.3 spot) ∙ ap (λ (xs : List Spot). get_or xs i spot) kept ∙ sym at in (
      e.0,
      sym (e.2 s) ∙ ap (λ (xs : List Statement). get_or xs i s) whole ∙ sym is,
      ap (λ (q : Spot). q.address) same,
      ap (λ (q : Spot). q.value) same,
      cut_at all i e.0 within (sym (e.1 e.0)),
      one_further all i e.0 within (sym (e.1 e.0)),
    )
