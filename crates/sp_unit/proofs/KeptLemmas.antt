-- Lines that keep the rules are sound: what their names, lists and ports mean is known.
use Rattle.std.proofs.Common.{◌≡◌, ◌≢◌, ℕ, ◌+◌, ◌<◌, ◌≤◌, arith, Bool, true, false, cond, not, ◌&&◌, List, [], ◌∷◌, ◌++◌, length, map, Option, Some, None, IsSome, is_some, is_none, refl, sym, ap, subst, ◌∙◌, append-nil}
use Rattle.std.specs.Prelude.{All, AllPairs, flat_map, nat_lt}
use Rattle.std.specs.List.{filter_map, list_any, list_all}
use Rattle.std.specs.Option.{option_and_then}
use Rattle.std.proofs.lemmas.List.{map-append}
use Rattle.std.proofs.lemmas.List.Elements.{recursion_from_All}
use Rattle.sp_isa.specs.Code as isa
use Rattle.sp_asm.specs.declared.listing.Item.{Item}
use Rattle.sp_asm.specs.declared.listing.Listing.{Listing}
use Rattle.sp_asm.specs.Assembly.{Place, Row, places_of, item_of, kind_by, next_address, address_behind}
use Rattle.sp_stmt.specs.declared.statement.Code.{Code}
use Rattle.sp_stmt.specs.declared.statement.Code.TheVariants as code
use Rattle.sp_note.specs.declared.part.Listed.{Listed}
use Rattle.sp_note.specs.declared.part.Listed.TheVariants as listed
use Rattle.sp_note.specs.declared.part.NoteLine as declared
use Rattle.sp_note.specs.Parts.{Part, NoteLine, Expression, Stack, Byte, Word, Bytes, Routine, Start, Pre, Post, Reads, Changes, Ins, Outs, Depth, Assert, End, lines_of}
use Rattle.sp_note.specs.RawNotes.{RawNote}
use Rattle.sp_prog.specs.declared.routine.Routine as program
use Rattle.sp_prog.specs.declared.routine.Stmt.{Stmt}
use Rattle.sp_prog.specs.Rules.{HaveNoCommonByte, first_address, address_of}
use Rattle.sp_unit.specs.declared.noted.Point.{Point}
use Rattle.sp_unit.specs.declared.noted.Point.TheVariants as point
use Rattle.sp_unit.specs.declared.lists.Access.{Access}
use Rattle.sp_unit.specs.declared.lists.Access.TheVariants as access
use Rattle.sp_unit.specs.declared.ports.Direction.{Direction}
use Rattle.sp_unit.specs.declared.ports.Direction.TheVariants as direction
use Rattle.sp_unit.specs.Faults.{Source, KeepsRules, AreRight, areas_by, is_listed, is_over, is_unknown, clashes, meanings, region, stack_by, stack_line, stack_of, first_of, fault}
use Rattle.sp_unit.specs.Lines.{Entry, Statement, Annotation, is_instr, note_in, placed, merged, place_after}
use Rattle.sp_unit.specs.Origin.{AreOfOneSource, said_by, entries_by}
use Rattle.sp_unit.specs.Resolution.{condition}
use Rattle.sp_unit.specs.SourceUnits.{pre_in, post_in, assert_in}
use Rattle.sp_unit.specs.code.Building.{ArePlaces, IsPlacedLine, is_placed}
use Rattle.sp_unit.specs.code.Sounds.{IsSound, IsSoundPart, AreSound, said_at, listed_by, ports_by}
use Rattle.sp_unit.proofs.UnitListLemmas.{Each, Pairwise, Across, each_splits, each_at, each_weaker, each_mapped, all_pairs, pairwise_all, parts_apart}
use Rattle.sp_unit.proofs.UnitMergeLemmas.{found_first, merged_notes}
use Rattle.sp_unit.proofs.UnitFaultLemmas.{note_right}

-- ---- Parts

some_of : {A : Type 0} (o : Option A) → is_none o ≡ false → IsSome o
some_of None e = absurd cc
some_of (Some x) e = refl

not_false : (b : Bool) → not b ≡ false → b ≡ true
not_false true e = refl
not_false false e = absurd cc

module _ (s : Source) where
  no_note : (part : Part) → pre_in part ≡ None → post_in part ≡ None → assert_in part ≡ None → (at : Point) (note : RawNote) → said_at at part ≡ Some note → IsSome (condition (meanings s) [] note)
  no_note part pre post assert point.Entry note e = absurd cc
  no_note part pre post assert point.Return note e = absurd cc
  no_note part pre post assert point.Next note e = absurd cc

  no_items : (part : Part) → listed_by access.Reads part ≡ [] → listed_by access.Changes part ≡ [] → (by : Access) → list_all (is_listed s) (listed_by by part) ≡ true
  no_items part r c access.Reads = ap (list_all (is_listed s)) r
  no_items part r c access.Changes = ap (list_all (is_listed s)) c

  no_ports : (part : Part) → ports_by direction.Ins part ≡ [] → ports_by direction.Outs part ≡ [] → (to : Direction) → list_any (is_over s) (ports_by to part) ≡ false
  no_ports part i o direction.Ins = ap (list_any (is_over s)) i
  no_ports part i o direction.Outs = ap (list_any (is_over s)) o

  plain : (part : Part) → pre_in part ≡ None → post_in part ≡ None → assert_in part ≡ None → listed_by access.Reads part ≡ [] → listed_by access.Changes part ≡ []
      → ports_by direction.Ins part ≡ [] → ports_by direction.Outs part ≡ [] → IsSoundPart s part
  plain part pre post assert r c i o = record { notes = no_note part pre post assert; items = no_items part r c; ports = no_ports part i o }

  same_note : (one other : RawNote) → is_none (condition (meanings s) [] one) ≡ false → Some one ≡ Some other → IsSome (condition (meanings s) [] other)
  same_note one other known e = let same : one ≡ other = cc in subst (λ note. IsSome (condition (meanings s) [] note)) same (some_of (condition (meanings s) [] one) known)

  pub part_sound : (part : Part) (above below : List Entry) → is_unknown s part below ≡ false → clashes s above part ≡ false → IsSoundPart s part
  part_sound (Pre note) above below known right = record {
    notes = λ at other. at_point at other;
    items = no_items (Pre note) refl refl;
    ports = no_ports (Pre note) refl refl;
  }
    where
      at_point : (at : Point) (other : RawNote) → said_at at (Pre note) ≡ Some other → IsSome (condition (meanings s) [] other)
      at_point point.Entry other e = same_note note other known e
      at_point point.Return other e = absurd cc
      at_point point.Next other e = absurd cc
  part_sound (Post note) above below known right = record {
    notes = λ at other. at_point at other;
    items = no_items (Post note) refl refl;
    ports = no_ports (Post note) refl refl;
  }
    where
      at_point : (at : Point) (other : RawNote) → said_at at (Post note) ≡ Some other → IsSome (condition (meanings s) [] other)
      at_point point.Entry other e = absurd cc
      at_point point.Return other e = same_note note other known e
      at_point point.Next other e = absurd cc
  part_sound (Assert note) above below known right = record {
    notes = λ at other. at_point at other;
    items = no_items (Assert note) refl refl;
    ports = no_ports (Assert note) refl refl;
  }
    where
      at_point : (at : Point) (other : RawNote) → said_at at (Assert note) ≡ Some other → IsSome (condition (meanings s) [] other)
      at_point point.Entry other e = absurd cc
      at_point point.Return other e = absurd cc
      at_point point.Next other e = same_note note other known e
  part_sound (Reads items) above below known right = record { notes = no_note (Reads items) refl refl refl; items = λ by. of by; ports = no_ports (Reads items) refl refl }
    where
      of : (by : Access) → list_all (is_listed s) (listed_by by (Reads items)) ≡ true
      of access.Reads = not_false (list_all (is_listed s) items) known
      of access.Changes = refl
  part_sound (Changes items) above below known right = record { notes = no_note (Changes items) refl refl refl; items = λ by. of by; ports = no_ports (Changes items) refl refl }
    where
      of : (by : Access) → list_all (is_listed s) (listed_by by (Changes items)) ≡ true
      of access.Reads = refl
      of access.Changes = not_false (list_all (is_listed s) items) known
  part_sound (Ins ports) above below known right = record { notes = no_note (Ins ports) refl refl refl; items = no_items (Ins ports) refl refl; ports = λ to. of to }
    where
      of : (to : Direction) → list_any (is_over s) (ports_by to (Ins ports)) ≡ false
      of direction.Ins = right
      of direction.Outs = refl
  part_sound (Outs ports) above below known right = record { notes = no_note (Outs ports) refl refl refl; items = no_items (Outs ports) refl refl; ports = λ to. of to }
    where
      of : (to : Direction) → list_any (is_over s) (ports_by to (Outs ports)) ≡ false
      of direction.Ins = refl
      of direction.Outs = right
  part_sound (Stack first last) above below known right = plain (Stack first last) refl refl refl refl refl refl refl
  part_sound (Byte name addr) above below known right = plain (Byte name addr) refl refl refl refl refl refl refl
  part_sound (Word name addr) above below known right = plain (Word name addr) refl refl refl refl refl refl refl
  part_sound (Bytes name addr len) above below known right = plain (Bytes name addr len) refl refl refl refl refl refl refl
  part_sound (Routine name) above below known right = plain (Routine name) refl refl refl refl refl refl refl
  part_sound Start above below known right = plain Start refl refl refl refl refl refl refl
  part_sound (Depth n) above below known right = plain (Depth n) refl refl refl refl refl refl refl
  part_sound End above below known right = plain End refl refl refl refl refl refl refl

-- ---- Instructions stand at addresses

abbrev IsInMemoryItem : Item → Type 0
IsInMemoryItem item = is_instr item.kind ≡ true → item.addr < 65536

row_within : (r : Row) → next_address r.place ≤ 65536 → IsInMemoryItem (item_of r)
row_within r le = by r.place.statement.code refl
  where
    by : (c : Code) → r.place.statement.code ≡ c → is_instr (kind_by r.place.statement.code r.values) ≡ true → r.place.address < 65536
    by (code.Instr i) e h =
        let next : next_address r.place ≡ r.place.address + length (isa.code i) = ap (λ c. address_behind c r.place.statement.operands r.place.address r.place.value) e in
        omega (arith, next, le)
    by _ e h = let wrong : is_instr (kind_by r.place.statement.code r.values) ≡ false = ap (λ c. is_instr (kind_by c r.values)) e in absurd cc

rows_within : (rows : List Row) → ((above below : List Place) (p : Place) → places_of rows ≡ above ++ p ∷ below → next_address p ≤ 65536) → Each (λ (r : Row). IsInMemoryItem (item_of r)) rows
rows_within rows h =
    each_splits (λ (r : Row). IsInMemoryItem (item_of r)) rows (λ front back r e.
    row_within r (h (places_of front) (places_of back) r.place (ap places_of e ∙ map-append (λ (q : Row). q.place) front (r ∷ back))))

items_within : (listing : Listing) (notes : List declared.NoteLine) → AreOfOneSource listing notes → Each IsInMemoryItem listing.items
items_within listing notes origin =
    let rows = origin.listed.0 in
    let assembly = origin.listed.1.2 in
    subst (Each IsInMemoryItem) (sym origin.listed.2.items)
    (each_mapped IsInMemoryItem item_of rows (rows_within rows (λ above below p e. (assembly.places above below p e).room.behind)))

-- ---- Lines

-- what holds of statements holds of those among lines
abbrev HoldsOfItem : (Item → Type 0) → Entry → Type 0
HoldsOfItem P (Statement item) = P item
HoldsOfItem P (Annotation n) = Unit {0}

notes_hold : (P : Item → Type 0) (notes : List NoteLine) → Each (HoldsOfItem P) (map Annotation notes)
notes_hold P [] = tt
notes_hold P (n ∷ notes) = (tt, notes_hold P notes)

placed_hold : (P : Item → Type 0) (item : Item) (later : List NoteLine → List Entry) → P item → ((ns : List NoteLine) → Each (HoldsOfItem P) (later ns)) → (notes : List NoteLine)
    → Each (HoldsOfItem P) (placed item later notes)
placed_hold P item later is h [] = (is, h [])
placed_hold P item later is h (n ∷ notes) = by (nat_lt item.line.0 n.line) (placed_hold P item later is h notes)
  where
    by : (b : Bool) → Each (HoldsOfItem P) (placed item later notes)
        → Each (HoldsOfItem P) (cond b (Statement item ∷ later (n ∷ notes)) (Annotation n ∷ placed item later notes))
    by true rest = (is, h (n ∷ notes))
    by false rest = (tt, rest)

merged_hold : (P : Item → Type 0) (items : List Item) (notes : List NoteLine) → Each P items → Each (HoldsOfItem P) (merged items notes)
merged_hold P [] notes h = notes_hold P notes
merged_hold P (item ∷ items) notes h = placed_hold P item (merged items) h.0 (λ ns. merged_hold P items ns h.1) notes

entry_sound : (s : Source) (above below : List Entry) (e : Entry) → fault s above e below ≡ None → HoldsOfItem IsInMemoryItem e → IsSound s e
entry_sound s above below (Statement item) right here = here
entry_sound s above below (Annotation n) right here =
    let keeps = note_right s above (place_after above) n.part below right in
    part_sound s n.part above below keeps.unknown keeps.clash

-- the lines of a source that keeps the rules are sound
pub lines_sound : (listing : Listing) (notes : List declared.NoteLine) → AreOfOneSource listing notes → KeepsRules (said_by listing notes) (entries_by listing notes)
    → AreSound (said_by listing notes) (entries_by listing notes)
lines_sound listing notes origin keeps =
    let s = said_by listing notes in
    let entries = entries_by listing notes in
    let within = merged_hold IsInMemoryItem listing.items (lines_of notes) (items_within listing notes origin) in
    each_splits (IsSound s) entries (λ front back e split.
    entry_sound s front back e (keeps.right front back e split) (each_at (HoldsOfItem IsInMemoryItem) front back e (subst (Each (HoldsOfItem IsInMemoryItem)) split within)))

-- ---- The stack region

both_known : (x y : Option ℕ) → not (is_some x && is_some y) ≡ false → IsSome (region x y)
both_known (Some x) (Some y) e = refl
both_known (Some x) None e = absurd cc
both_known None y e = absurd cc

named_region : (s : Source) (part : Part) (below : List Entry) (line : Expression × Expression) → stack_by part ≡ Some line → is_unknown s part below ≡ false → IsSome (region (s.value line.0) (s.value line.1))
named_region s (Stack first last) below line e known =
    let same : (first, last) ≡ line = cc in
    subst (λ (l : Expression × Expression). IsSome (region (s.value l.0) (s.value l.1))) same (both_known (s.value first) (s.value last) known)
named_region s _ below line e known = absurd cc

region_of : (s : Source) (entries : List Entry) → AreRight s entries → filter_map note_in entries ≡ s.notes → (o : Option (Expression × Expression)) → stack_line s ≡ o → IsSome o → IsSome (stack_of s)
region_of s entries right notes None e some = absurd cc
region_of s entries right notes (Some line) e some =
    let f = λ (n : NoteLine). stack_by n.part in
    let found = found_first f line entries (ap (first_of f) notes ∙ e) in
    let keeps = note_right s found.front (place_after found.front) found.note.part found.back (right found.front found.back (Annotation found.note) found.whole) in
    subst (λ o. IsSome (option_and_then (λ (l : Expression × Expression). region (s.value l.0) (s.value l.1)) o)) (sym e)
    (named_region s found.note.part found.back line found.is keeps.unknown)

pub stack_known : (listing : Listing) (notes : List declared.NoteLine) → KeepsRules (said_by listing notes) (entries_by listing notes) → IsSome (stack_of (said_by listing notes))
stack_known listing notes keeps =
    let s = said_by listing notes in
    region_of s (entries_by listing notes) keeps.right (merged_notes listing.items (lines_of notes)) (stack_line s) refl keeps.has_stack

-- ---- Areas of lists

placed_is : (s : Source) (places : List (List ℕ × ℕ)) → ArePlaces (areas_by s.value s.notes) places → (item : Listed) → is_placed places item ≡ is_listed s item
placed_is s places h (listed.Locs locs) = refl
placed_is s places h (listed.Area name) = h.each name

all_same : {A : Type 0} (p q : A → Bool) → ((x : A) → p x ≡ q x) → (xs : List A) → list_all p xs ≡ list_all q xs
all_same p q h [] = refl
all_same p q h (x ∷ xs) = let below = all_same p q h xs in λ i. h x i && below i

line_placed : (s : Source) (places : List (List ℕ × ℕ)) (by : Access) → ArePlaces (areas_by s.value s.notes) places → (e : Entry) → IsSound s e → IsPlacedLine places by e
line_placed s places by h (Statement item) sound = refl
line_placed s places by h (Annotation n) sound =
    all_same (is_placed places) (is_listed s) (placed_is s places h) (listed_by by n.part ++ []) ∙ ap (list_all (is_listed s)) (append-nil (listed_by by n.part)) ∙ sound.items by

pub lines_placed : (s : Source) (places : List (List ℕ × ℕ)) (by : Access) (lines : List Entry) → ArePlaces (areas_by s.value s.notes) places → AreSound s lines → Each (IsPlacedLine places by) lines
lines_placed s places by lines h sound = each_weaker (IsSound s) (IsPlacedLine places by) (line_placed s places by h) lines sound

-- ---- Addresses of routines

apart_at : (a b : Stmt) → HaveNoCommonByte a b → a.addr ≢ b.addr
apart_at a b h e = h 0 0 (omega arith) (omega arith) (ap (λ n. n + 0) e)

first_apart : (one other : List Stmt) → 0 < length one → 0 < length other → Across HaveNoCommonByte one other → first_address one ≢ first_address other
first_apart [] other some more h = absurd (omega (arith, some))
first_apart (a ∷ one) [] some more h = absurd (omega (arith, more))
first_apart (a ∷ one) (b ∷ other) some more h = apart_at a b h.0.0

abbrev HasCode : program.Routine → Type 0
HasCode r = 0 < length r.code

abbrev AreApartCodes : program.Routine → program.Routine → Type 0
AreApartCodes r q = Across HaveNoCommonByte r.code q.code

apart_from : (r : program.Routine) (rs : List program.Routine) → HasCode r → Each HasCode rs → Each (AreApartCodes r) rs → Each (λ q. address_of r ≢ address_of q) rs
apart_from r [] some more h = tt
apart_from r (q ∷ rs) some more h = (first_apart r.code q.code some more.0 h.0, apart_from r rs some more.1 h.1)

all_apart : (rs : List program.Routine) → Each HasCode rs → Pairwise AreApartCodes rs → Pairwise (λ r q. address_of r ≢ address_of q) rs
all_apart [] some h = tt
all_apart (r ∷ rs) some h = (apart_from r rs some.0 some.1 h.0, all_apart rs some.1 h.1)

-- routines with instructions, no two of which have a byte at one address, begin at different addresses
pub addresses_differ : (found : List program.Routine) → AllPairs HaveNoCommonByte (flat_map (λ (r : program.Routine). r.code) found) → All HasCode found → AllPairs (λ r q. address_of r ≢ address_of q) found
addresses_differ found apart some =
    let code = λ (r : program.Routine). r.code in
    let parts = parts_apart code HaveNoCommonByte found (pairwise_all HaveNoCommonByte (flat_map code found) apart) in
    all_pairs (λ r q. address_of r ≢ address_of q) found (all_apart found (recursion_from_All HasCode found some) parts.outer)
