-- The unit of a source keeps the rules of units.
use Rattle.std.proofs.Common.{◌≡◌, ℕ, suc, ◌<◌, ◌≤◌, Bool, true, false, cond, ◌||◌, List, [], ◌∷◌, ◌++◌, length, map, Option, Some, None, is_some, refl, sym, ap, subst, ◌∙◌, arith, IsTrue, lit<}
use Rattle.std.specs.Prelude.{All, AllPairs, filter, bytes_eq, nat_eq, nat_le, unwrap_or}
use Rattle.std.specs.Option.{option_map}
use Rattle.std.specs.Cmp.Lexicographic.{pointwise, same_text}
use Rattle.std.specs.List.{AllZip, IsDistinct, filter_map, list_any}
use Rattle.std.specs.List.Sorted.{IsStrictlyIncreasing}
use Rattle.std.proofs.lemmas.Bool.Decides.{nat_tests}
use Rattle.std.proofs.lemmas.List.Elements.{All-from_recursion}
use Rattle.std.proofs.lemmas.List.Sorted.{length_permutation}
use Rattle.sp_base.specs.Image.{ImageMap, IsInMemory}
use Rattle.sp_isa.specs.declared.instr.Instr.{Instr}
use Rattle.sp_isa.specs.Code.{code, valid}
use Rattle.sp_logic.specs.View.{note_of}
use Rattle.sp_eval.specs.Wide.{IsNarrow}
use Rattle.sp_expr.specs.Parsing.{outcome}
use Rattle.sp_expr.specs.Undefined.{first_undefined}
use Rattle.sp_expr.specs.code.Evaluation.{run, start, finished}
use Rattle.sp_asm.specs.declared.listing.Item.{Item}
use Rattle.sp_asm.specs.declared.listing.ItemKind.TheVariants as kind
use Rattle.sp_asm.specs.declared.listing.Listing.{Listing}
use Rattle.sp_asm.specs.Items.{HoldsItems, StandAt}
use Rattle.sp_asm.specs.Names.{value_in}
use Rattle.sp_asm.specs.Source.{HasAssembly}
use Rattle.sp_asm.proofs.ListingLemmas.{holds_items, code_stands, rising_lines}
use Rattle.sp_note.specs.declared.part.NoteLine as declared
use Rattle.sp_note.specs.declared.part.Listed.{Listed}
use Rattle.sp_note.specs.Bounds.{bound_of}
use Rattle.sp_note.specs.Parts as parts
use Rattle.sp_note.specs.Parts.{NoteLine, Part, Expression, lines_of}
use Rattle.sp_note.specs.RawNotes.{RawNote}
use Rattle.sp_prog.specs.declared.area.Area.{Area}
use Rattle.sp_prog.specs.declared.area.AreaKind.TheVariants as area_kind
use Rattle.sp_prog.specs.declared.routine.Noted.{Noted}
use Rattle.sp_prog.specs.declared.routine.Routine.{Routine}
use Rattle.sp_prog.specs.declared.routine.Stmt.{Stmt}
use Rattle.sp_prog.specs.Program.{Program}
use Rattle.sp_prog.specs.Rules.{IsArea, IsFree, IsEvaluable, AreNotes, HaveNoWords, note_has_word, HasBytes, IsStmt, HaveNoCommonByte, address_of, IsRoutine, instructions, IsUnit}
use Rattle.sp_unit.specs.Lines.{Entry, Statement, Annotation, item_in, note_in, is_note, is_routine_part, is_start, header, inside, is_end, ends_header, before, place_after}
use Rattle.sp_unit.specs.Faults.{Source, AreRight, number_in, area, area_by, area_in, areas_by, meanings, changes_image, clashes, is_too_many, count}
use Rattle.sp_unit.specs.Origin.{AreOfOneSource, said_by, entries_by, IsJoined}
use Rattle.sp_unit.specs.Sources.{number_of, value_by}
use Rattle.sp_unit.specs.SourceUnits.{Raw, IsNoted, pre_in, post_in, assert_in, raws, reads_in, changes_in, named_in, Coded, coded, IsCoded, Begun, begun, begun_by, IsRoutineOf}
use Rattle.sp_unit.specs.Words.{has_word}
use Rattle.sp_unit.proofs.UnitListLemmas.{Each, Pairwise, each_and, each_given, each_of, each_permuted, each_splits, each_weaker, few, pairs_of, pairwise_each, pairwise_reordered, all_pairs, distinct_from, rising_pairs, rising_from_pairs, zip_each, zip_pairs, zip_length}
use Rattle.sp_unit.proofs.UnitMergeLemmas.{merged_notes, merged_items, areas_in}
use Rattle.sp_unit.proofs.UnitValueLemmas.{IsShort, words_short}
use Rattle.sp_unit.proofs.UnitSourceLemmas.{FollowOn, follow_on, names_short, label_is}
use Rattle.sp_unit.proofs.UnitFormedLemmas.{AreShort, note_formed}
use Rattle.sp_unit.proofs.UnitNarrowLemmas.{note_narrow}
use Rattle.sp_unit.proofs.UnitWordLemmas.{condition_words}
use Rattle.sp_unit.proofs.UnitReadLemmas.{IsRawRight, IsPartRight, AreInOrder, notes_in_order}
use Rattle.sp_unit.proofs.UnitAreaLemmas.{line_right, IsStackRight, stack_right, IsAreaRight, areas_right, areas_apart, areas_named, few_areas, is_area, each_found}
use Rattle.sp_unit.proofs.UnitFoundLemmas.{BeginsAt, each_begun, Stands, begun_right, routine_stands, pairs_of_code, bytes_apart, coded_items}
use Rattle.sp_unit.proofs.UnitBodyLemmas.{said_at, raws_are, pre_right, post_right, start_post, header_right, each_named}
use Rattle.sp_unit.proofs.UnitAssertLemmas.{coded_each, coded_pairs, few_asserts, laid_out, start_bare}
use Rattle.sp_unit.proofs.UnitListedLemmas.{are_listed, are_free}
use Rattle.sp_unit.proofs.UnitPieceLemmas.{piece_each, piece_pairs, below_follows, coded_of, labelled}

-- ---- Values of sixteen bits

value_short : (entries : List (List ℕ × ℕ)) (e : Expression) → IsShort (value_by entries e)
value_short entries e = by (first_undefined (number_of entries) e) (finished (run (number_of entries) 0 start e)) (words_short (number_of entries) 0 e)
  where
    by : (o : Option (List ℕ)) (v : Option ℕ) → IsShort v → IsShort (number_in (outcome o v))
    by (Some name) v h = tt
    by None (Some v) h = h
    by None None h = tt

or_zero : (o : Option ℕ) → IsShort o → unwrap_or o 0 < 65536
or_zero None h = lit< tt
or_zero (Some v) h = h

part_small : (value : Expression → Option ℕ) → ((e : Expression) → IsShort (value e)) → (part : Part) (a : Area) → area_by value part ≡ Some a → a.len < 65536
part_small value short (parts.Byte name addr) a e = let is : area name area_kind.Byte (unwrap_or (value addr) 0) 1 ≡ a = cc in subst (λ (x : Area). x.len < 65536) is (lit< tt)
part_small value short (parts.Word name addr) a e = let is : area name area_kind.Word (unwrap_or (value addr) 0) 2 ≡ a = cc in subst (λ (x : Area). x.len < 65536) is (lit< tt)
part_small value short (parts.Bytes name addr len) a e =
    let is : area name area_kind.Bytes (unwrap_or (value addr) 0) (unwrap_or (value len) 0) ≡ a = cc in
    subst (λ (x : Area). x.len < 65536) is (or_zero (value len) (short len))
part_small value short _ a e = absurd cc

-- ---- Annotations

module _ (s : Source) (short : AreShort (meanings s)) where
  evaluable : (r : Raw) (n : Noted) → IsNoted s r n → IsRawRight r.note → IsEvaluable n
  evaluable r n is right = record {
    formed = note_formed (meanings s) short r.note (note_of n.note) right.limits is.note;
    narrow = by (bound_of [] r.note) refl right.narrow;
  }
    where
      by : (o : Option ℕ) → bound_of [] r.note ≡ o → is_some o ≡ true → IsNarrow (note_of n.note)
      by None e h = absurd cc
      by (Some k) e h = note_narrow (meanings s) short r.note (note_of n.note) k is.note e

  rises : (a b : Raw) (m n : Noted) → IsNoted s a m → IsNoted s b n → a.line < b.line → m.line.0 < n.line.0
  rises a b m n h k lt = let one = h.line in let other = k.line in omega (arith, one, other, lt)

  are_notes : (rs : List Raw) (ns : List Noted) → AllZip (IsNoted s) rs ns → length rs ≤ 64 → Each (λ (r : Raw). IsRawRight r.note) rs → Pairwise (λ (a b : Raw). a.line < b.line) rs → AreNotes ns
  are_notes rs ns z le right rising = record {
    few = let same = zip_length (IsNoted s) rs ns z in omega (arith, le, same);
    each = All-from_recursion IsEvaluable ns (zip_each (IsNoted s) (λ (r : Raw). IsRawRight r.note) IsEvaluable (λ r n is h. evaluable r n is h) rs ns z right);
    rising =
        rising_from_pairs (λ (n : Noted). n.line.0) ns
        (zip_pairs (IsNoted s) (λ (a b : Raw). a.line < b.line) (λ (m n : Noted). m.line.0 < n.line.0) (λ a b m n h k lt. rises a b m n h k lt) rs ns z rising);
  }

  no_words : (rs : List Raw) (ns : List Noted) → AllZip (IsNoted s) rs ns → Each (λ (r : Raw). has_word r.note ≡ false) rs → HaveNoWords ns
  no_words rs ns z h =
      All-from_recursion (λ (n : Noted). note_has_word (note_of n.note) ≡ false) ns
      (zip_each (IsNoted s) (λ (r : Raw). has_word r.note ≡ false) (λ (n : Noted). note_has_word (note_of n.note) ≡ false)
      (λ r n is free. condition_words (meanings s) [] r.note (note_of n.note) free is.note) rs ns z h)

no_notes : (s : Source) (rs : List Raw) (ns : List Noted) → rs ≡ [] → AllZip (IsNoted s) rs ns → ns ≡ []
no_notes s [] [] e z = refl
no_notes s [] (n ∷ ns) e z = absurd z
no_notes s (r ∷ rs) ns e z = absurd cc

-- what lines say is right
pre_part : (part : Part) (note : RawNote) → pre_in part ≡ Some note → IsPartRight part → IsRawRight note
pre_part (parts.Pre other) note e h = let is : other ≡ note = cc in subst IsRawRight is h
pre_part _ note e h = absurd cc

post_part : (part : Part) (note : RawNote) → post_in part ≡ Some note → IsPartRight part → IsRawRight note
post_part (parts.Post other) note e h = let is : other ≡ note = cc in subst IsRawRight is h
post_part _ note e h = absurd cc

assert_part : (part : Part) (note : RawNote) → assert_in part ≡ Some note → IsPartRight part → IsRawRight note
assert_part (parts.Assert other) note e h = let is : other ≡ note = cc in subst IsRawRight is h
assert_part _ note e h = absurd cc

-- an annotation of a line has its number, and is what the line says
record IsOf (said : Part → Option RawNote) (n : NoteLine) (r : Raw) : Type 0 where
  line : r.line ≡ n.line
  is : said n.part ≡ Some r.note

raw_of : (said : Part → Option RawNote) (n : NoteLine) (r : Raw) → option_map (λ note. record { line = n.line; note = note }) (said n.part) ≡ Some r → IsOf said n r
raw_of said n r h = by (said n.part) refl h
  where
    by : (o : Option RawNote) → said n.part ≡ o → option_map (λ note. record { line = n.line; note = note }) o ≡ Some r → IsOf said n r
    by None e k = absurd cc
    by (Some note) e k =
        let there : Raw = record { line = n.line; note = note } in
        let same : there ≡ r = cc in
        record { line = ap (λ (x : Raw). x.line) (sym same); is = e ∙ ap (λ (x : Raw). Some x.note) same }

-- annotations of lines that rise and are right
record AreRawsInOrder (rs : List Raw) : Type 0 where
  right : Each (λ (r : Raw). IsRawRight r.note) rs
  rising : Pairwise (λ (a b : Raw). a.line < b.line) rs

raws_in_order : (said : Part → Option RawNote) → ((part : Part) (note : RawNote) → said part ≡ Some note → IsPartRight part → IsRawRight note) → (es : List Entry) → AreInOrder 1 (filter_map note_in es) → AreRawsInOrder (raws said es)
raws_in_order said gives es h = record {
  right =
      each_of (λ (n : NoteLine). option_map (λ note. record { line = n.line; note = note }) (said n.part)) (λ (n : NoteLine). IsPartRight n.part) (λ (r : Raw). IsRawRight r.note)
      (λ n r e right. gives n.part r.note (raw_of said n r e).is right) (filter_map note_in es) h.right;
  rising =
      pairs_of (λ (n : NoteLine). option_map (λ note. record { line = n.line; note = note }) (said n.part)) (λ (m n : NoteLine). m.line < n.line) (λ (a b : Raw). a.line < b.line)
      (λ m n a b e f lt. let one = (raw_of said m a e).line in let other = (raw_of said n b f).line in omega (arith, one, other, lt)) (filter_map note_in es) h.rising;
}

piece_in_order : (said : Part → Option RawNote) (es : List Entry) (b : Begun) (at : BeginsAt es b) (test : Entry → Bool) → AreRawsInOrder (raws said es) → AreRawsInOrder (raws said (before test b.below))
piece_in_order said es b at test h = record {
  right =
      subst (Each (λ (r : Raw). IsRawRight r.note)) (sym (raws_are said (before test b.below)))
      (piece_each (said_at said) es b at test (λ (r : Raw). IsRawRight r.note) (subst (Each (λ (r : Raw). IsRawRight r.note)) (raws_are said es) h.right));
  rising =
      subst (Pairwise (λ (x y : Raw). x.line < y.line)) (sym (raws_are said (before test b.below)))
      (piece_pairs (said_at said) es b at test (λ (x y : Raw). x.line < y.line) (subst (Pairwise (λ (x y : Raw). x.line < y.line)) (raws_are said es) h.rising));
}

-- ---- Instructions

-- the codes of a statement's instruction stand in an image
abbrev CodeStands : ImageMap → Item → Type 0
CodeStands image item = (i : Instr) → item.kind ≡ kind.Instr i → IsTrue (valid i) × StandAt image item.addr (code i)

all_stand : (image : ImageMap) (items : List Item) → HoldsItems image items → Each (CodeStands image) items
all_stand image items holds = each_splits (CodeStands image) items (λ front back item whole i is. code_stands image items holds front back item i whole is)

-- what an instruction of a source keeps
abbrev IsCodeRight : ImageMap → Coded → Type 0
IsCodeRight image c =
    CodeStands image c.item
    × ((c.item.kind ≡ kind.Instr c.instr) × ((length c.asserts ≤ 64) × (Each (λ (r : Raw). IsRawRight r.note) c.asserts × Pairwise (λ (a b : Raw). a.line < b.line) c.asserts)))

stmt_right : (s : Source) → AreShort (meanings s) → (image : ImageMap) (c : Coded) (stmt : Stmt) → IsCoded s c stmt → IsCodeRight image c → IsStmt image stmt
stmt_right s short image c stmt is h =
    let stands = h.0 c.instr h.1.0 in
    let there : HasBytes image c.item.addr (code c.instr) = stands.1 in
    record {
      valid = subst (λ i. IsTrue (valid i)) (sym is.instr) stands.0;
      code = subst (λ i. HasBytes image stmt.addr (code i)) (sym is.instr) (subst (λ a. HasBytes image a (code c.instr)) (sym is.address) there);
      asserts = are_notes s short c.asserts stmt.asserts is.asserts h.1.1.0 h.1.1.1.0 h.1.1.1.1;
    }

-- ---- Changed areas

no_clash : (s : Source) (items : List Listed) → list_any (changes_image s) items ≡ false → Each (λ item. changes_image s item ≡ false) items
no_clash s [] h = tt
no_clash s (item ∷ items) h = by (changes_image s item) refl h (no_clash s items)
  where
    by : (b : Bool) → changes_image s item ≡ b → (b || list_any (changes_image s) items) ≡ false → (list_any (changes_image s) items ≡ false → Each (λ i. changes_image s i ≡ false) items) → Each (λ i. changes_image s i ≡ false) (item ∷ items)
    by true e k rest = absurd cc
    by false e k rest = (e, rest k)

part_clear : (s : Source) (above : List Entry) (part : Part) → clashes s above part ≡ false → Each (λ item. changes_image s item ≡ false) (changes_in part)
part_clear s above (parts.Changes items) h = no_clash s items h
part_clear s above _ h = tt

-- ---- Names and numbers

eq_true : (a : ℕ) → nat_eq a a ≡ true
eq_true a = grind (arith, nat_tests)

not_eq : (a b : ℕ) → a < b → nat_eq a b ≡ false
not_eq a b lt = grind (arith, nat_tests)

eq_flip : (a b : ℕ) → nat_eq a b ≡ false → nat_eq b a ≡ false
eq_flip a b h = grind (arith, nat_tests)

some_number : (a b : ℕ) → Some a ≡ Some b → a ≡ b
some_number a b e = cc

-- routines with names of different values have different names
names_differ : (names : List ℕ → Option ℕ) (r q : Routine) → names r.name ≡ Some (address_of r) → names q.name ≡ Some (address_of q) → address_of r < address_of q → pointwise nat_eq r.name q.name ≡ false
names_differ names r q h k lt = by (pointwise nat_eq r.name q.name) refl
  where
    by : (b : Bool) → pointwise nat_eq r.name q.name ≡ b → pointwise nat_eq r.name q.name ≡ false
    by false e = e
    by true e =
        let same : r.name ≡ q.name = same_text r.name q.name (sym e) in
        let wrong : address_of r ≡ address_of q = some_number (address_of r) (address_of q) (sym h ∙ ap names same ∙ k) in
        absurd (omega (arith, wrong, lt))

le_false : (a b : ℕ) → nat_le a b ≡ false → b < a
le_false a b h = grind (arith, nat_tests)

begun_count : (es : List Entry) → length (begun es) ≡ count is_routine_part es
begun_count [] = refl
begun_count (Statement item ∷ es) = begun_count es
begun_count (Annotation n ∷ es) = by n.part (begun_count es)
  where
    by : (part : Part) → length (begun es) ≡ count is_routine_part es
        → length (begun_by n.line part es ++ begun es) ≡ length (cond (is_routine_part part) (Annotation n ∷ filter (is_note is_routine_part) es) (filter (is_note is_routine_part) es))
    by (parts.Routine name) h = ap suc h
    by _ h = h

few_begun : (s : Source) (es : List Entry) → AreRight s es → length (begun es) ≤ 1024
few_begun s es right = subst (λ n. n ≤ 1024) (sym (begun_count es)) (few (is_note is_routine_part) 1024 es above)
  where
    above : (front below : List Entry) (e : Entry) → es ≡ front ++ e ∷ below → is_note is_routine_part e ≡ true → length (filter (is_note is_routine_part) front) < 1024
    above front below (Statement item) whole is = absurd cc
    above front below (Annotation n) whole is = by n.part (line_right s es right front below n whole).many is
      where
        by : (part : Part) → is_too_many front (place_after front) part ≡ false → is_routine_part part ≡ true → length (filter (is_note is_routine_part) front) < 1024
        by (parts.Routine name) many k = le_false 1024 (count is_routine_part front) many
        by _ many k = absurd cc

-- ---- The unit of a source

module _ (listing : Listing) (notes : List declared.NoteLine) (p : Program) (origin : AreOfOneSource listing notes) (in_memory : IsInMemory listing.image) (joined : IsJoined listing notes p) where
  abbrev s : Source
  s = said_by listing notes

  abbrev es : List Entry
  es = entries_by listing notes

  right : AreRight s es
  right = joined.rules.right

  notes_are : filter_map note_in es ≡ lines_of notes
  notes_are = merged_notes listing.items (lines_of notes)

  items_are : filter_map item_in es ≡ listing.items
  items_are = merged_items listing.items (lines_of notes)

  areas_are : filter_map (area_in s) es ≡ p.areas
  areas_are = areas_in s es ∙ ap (areas_by s.value) notes_are ∙ sym joined.areas

  assembly : HasAssembly origin.bytes origin.listed.0
  assembly = record { lines = origin.rows; read = origin.read; assembles = origin.listed.1 }

  holds : HoldsItems s.image (filter_map item_in es)
  holds = subst (HoldsItems s.image) (sym items_are) (holds_items origin.bytes origin.rows listing origin.listed)

  follows : FollowOn (filter_map item_in es)
  follows = subst FollowOn (sym (items_are ∙ origin.listed.2.items)) (follow_on origin.listed.0 assembly.assembles.2.places)

  ordered : AreInOrder 1 (filter_map note_in es)
  ordered = subst (AreInOrder 1) (sym notes_are) (notes_in_order origin.bytes origin.rows (lines_of notes) origin.read origin.noted)

  areas_ok : Each (IsAreaRight s) p.areas
  areas_ok = subst (Each (IsAreaRight s)) areas_are (areas_right s es right)

  small_in : (e : Entry) (a : Area) → area_in s e ≡ Some a → a.len < 65536
  small_in (Statement item) a is = absurd cc
  small_in (Annotation n) a is = part_small s.value (value_short listing.names.entries) n.part a is

  abbrev IsShortArea : Area → Type 0
  IsShortArea a = (a.addr < 65536) × (a.len < 65536)

  areas_short : Each IsShortArea p.areas
  areas_short =
      let small = subst (Each (λ (a : Area). a.len < 65536)) areas_are
      (each_given (area_in s) (λ (a b : Area). bytes_eq a.name b.name) (λ (a : Area). a.len < 65536) es (λ above below e a whole is. small_in e a is)) in
      each_weaker (λ (a : Area). IsAreaRight s a × (a.len < 65536)) IsShortArea (λ a h. (low a h.0, h.1)) p.areas (each_and (IsAreaRight s) (λ (a : Area). a.len < 65536) p.areas areas_ok small)
    where
      low : (a : Area) → IsAreaRight s a → a.addr < 65536
      low a h = let some = h.some in let within = h.within in omega (arith, some, within)

  short : AreShort (meanings s)
  short = record {
    areas = λ name a e. each_found IsShortArea (λ (x : Area). bytes_eq x.name name) (areas_by s.value s.notes) a (subst (Each IsShortArea) joined.areas areas_short) e;
    names = λ name n e. names_short origin.bytes origin.listed.0 assembly name n (ap (λ entries. value_in entries name) (sym origin.listed.2.names) ∙ e);
  }

  -- each label has its address
  labels : Each (λ (i : Item). (n : List ℕ) → i.label ≡ Some n → s.names n ≡ Some i.addr) (filter_map item_in es)
  labels =
      subst (Each (λ (i : Item). (n : List ℕ) → i.label ≡ Some n → s.names n ≡ Some i.addr)) (sym items_are)
      (each_splits (λ (i : Item). (n : List ℕ) → i.label ≡ Some n → s.names n ≡ Some i.addr) listing.items
      (λ front back item whole name is. ap (λ entries. value_in entries name) origin.listed.2.names ∙ label_is origin.bytes origin.listed.0 assembly front back item name (sym origin.listed.2.items ∙ whole) is))

  stack : IsStackRight s p.first p.last
  stack = stack_right s es right notes_are p.first p.last joined.stack

  apart_names : Pairwise (λ (a b : Area). bytes_eq a.name b.name ≡ false) p.areas
  apart_names = subst (Pairwise (λ (a b : Area). bytes_eq a.name b.name ≡ false)) areas_are (areas_apart s es right)

  module _ (b : Begun) (r : Routine) (at : BeginsAt es b) (h : IsRoutineOf s p.areas b r) where
    asserted : AreRawsInOrder (raws assert_in (inside b.below))
    asserted = piece_in_order assert_in es b at is_end (raws_in_order assert_in assert_part es ordered)

    codes_right : Each (IsCodeRight s.image) (coded [] (inside b.below))
    codes_right =
        let cs = coded [] (inside b.below) in
        let stand = coded_of (CodeStands s.image) [] (inside b.below) (piece_each item_in es b at is_end (CodeStands s.image) (all_stand s.image (filter_map item_in es) holds)) in
        let good = coded_each (λ (x : Raw). IsRawRight x.note) [] (inside b.below) tt asserted.right in
        let rising = coded_pairs (λ (x y : Raw). x.line < y.line) [] (inside b.below) asserted.rising in
        let few_ones = few_asserts s es right b at (begun_right s es right b at) in
        each_and (λ (c : Coded). CodeStands s.image c.item) _ cs stand
        (each_and (λ (c : Coded). c.item.kind ≡ kind.Instr c.instr) _ cs (coded_items [] (inside b.below))
        (each_and (λ (c : Coded). length c.asserts ≤ 64) _ cs few_ones
        (each_and (λ (c : Coded). Each (λ (x : Raw). IsRawRight x.note) c.asserts) (λ (c : Coded). Pairwise (λ (x y : Raw). x.line < y.line) c.asserts) cs good rising)))

    stmts_right : All (IsStmt p.image) r.code
    stmts_right =
        subst (λ image. All (IsStmt image) r.code) (sym joined.image)
        (All-from_recursion (IsStmt s.image) r.code (zip_each (IsCoded s) (IsCodeRight s.image) (IsStmt s.image) (λ c stmt is k. stmt_right s short s.image c stmt is k) (coded [] (inside b.below)) r.code h.code codes_right))

    pre_notes : AreNotes r.pre
    pre_notes =
        let raws_ok = piece_in_order pre_in es b at ends_header (raws_in_order pre_in pre_part es ordered) in
        are_notes s short (raws pre_in (header b.below)) r.pre h.pre (pre_right s es right b at).few raws_ok.right raws_ok.rising

    post_notes : AreNotes r.post
    post_notes =
        let raws_ok = piece_in_order post_in es b at ends_header (raws_in_order post_in post_part es ordered) in
        are_notes s short (raws post_in (header b.below)) r.post h.post (post_right s es right b at).few raws_ok.right raws_ok.rising

    changed_clear : Each (λ item. changes_image s item ≡ false) (named_in changes_in (header b.below))
    changed_clear =
        each_named changes_in (λ item. changes_image s item ≡ false) (header b.below)
        (λ a c m e. part_clear s (at.front ++ Annotation at.note ∷ a) m.part (header_right s es right b at a c m e).clash)

    some_cells : Each (λ (a : Area). 0 < a.len) p.areas
    some_cells = each_weaker (IsAreaRight s) (λ (a : Area). 0 < a.len) (λ a k. k.some) p.areas areas_ok

    routine_is : IsRoutine p r
    routine_is = record {
      some = (routine_stands s p.areas es right b r at h).0;
      laid_out = laid_out s es right b at (begun_right s es right b at) r.code h.code (below_follows es b at follows);
      code = stmts_right;
      pre = pre_notes;
      pre_words = no_words s short (raws pre_in (header b.below)) r.pre h.pre (pre_right s es right b at).words;
      post = post_notes;
      post_words = no_words s short (raws post_in (header b.below)) r.post h.post (post_right s es right b at).words;
      reads = are_listed p.areas (named_in reads_in (header b.below)) r.reads h.reads;
      changes = are_listed p.areas (named_in changes_in (header b.below)) r.changes h.changes;
      changes_free = are_free s p.areas joined.areas apart_names some_cells p joined.image refl (named_in changes_in (header b.below)) r.changes h.changes changed_clear;
      start = λ is.
          let starts : list_any is_start (header b.below) ≡ true = sym h.start ∙ is in
          record {
            post = no_notes s (raws post_in (header b.below)) r.post (start_post s es right b at starts) h.post;
            asserts = start_bare s es right b at (begun_right s es right b at) r.code h.code starts;
          };
    }

    -- a routine's name stands for its address
    name_is : s.names r.name ≡ Some (address_of r)
    name_is =
        let begins = (begun_right s es right b at).first in
        let value = labelled s.names b.name begins.address (inside b.below) (piece_each item_in es b at is_end (λ (i : Item). (n : List ℕ) → i.label ≡ Some n → s.names n ≡ Some i.addr) labels) begins.label in
        ap s.names h.name ∙ value ∙ sym begins.first ∙ (routine_stands s p.areas es right b r at h).1

  found_right : Each (IsRoutine p) joined.found
  found_right = zip_each (IsRoutineOf s p.areas) (BeginsAt es) (IsRoutine p) (λ b r h at. routine_is b r at h) (begun es) joined.found joined.each (each_begun es)

  found_named : Each (λ (r : Routine). s.names r.name ≡ Some (address_of r)) joined.found
  found_named = zip_each (IsRoutineOf s p.areas) (BeginsAt es) (λ (r : Routine). s.names r.name ≡ Some (address_of r)) (λ b r h at. name_is b r at h) (begun es) joined.found joined.each (each_begun es)

  names_apart : Pairwise (λ (r q : Routine). pointwise nat_eq r.name q.name ≡ false) p.routines
  names_apart =
      pairwise_each (λ (r : Routine). s.names r.name ≡ Some (address_of r)) (λ (r q : Routine). address_of r < address_of q) (λ (r q : Routine). pointwise nat_eq r.name q.name ≡ false)
      (λ r q h k lt. names_differ s.names r q h k lt) p.routines
      (each_permuted (λ (r : Routine). s.names r.name ≡ Some (address_of r)) joined.found p.routines joined.routines found_named) (rising_pairs address_of p.routines joined.rising)

  few_routines : length p.routines ≤ 1024
  few_routines =
      let long : length p.routines ≡ length joined.found = length_permutation joined.found p.routines joined.routines in
      let same : length (begun es) ≡ length joined.found = zip_length (IsRoutineOf s p.areas) (begun es) joined.found joined.each in
      let le = few_begun s es right in
      omega (arith, long, same, le)

  bytes_differ : AllPairs HaveNoCommonByte (instructions p)
  bytes_differ =
      let turned : (x y : Stmt) → HaveNoCommonByte x y → HaveNoCommonByte y x = λ x y apart k m lk lm same. apart m k lm lk (sym same) in
      all_pairs HaveNoCommonByte (instructions p)
      (pairwise_reordered (λ (r : Routine). r.code) HaveNoCommonByte turned joined.found p.routines joined.routines (bytes_apart s p.areas es joined.found joined.each right s.image holds))

  lines_differ : IsDistinct nat_eq (map (λ (x : Stmt). x.line.0) (instructions p))
  lines_differ =
      let rising = rising_pairs (λ (i : Item). i.line.0) (filter_map item_in es) (subst (λ items. IsStrictlyIncreasing (map (λ (i : Item). i.line.0) items)) (sym items_are) (rising_lines origin.bytes origin.rows listing origin.listed)) in
      let pairs = pairs_of_code s p.areas es joined.found joined.each right (λ (i j : Item). i.line.0 < j.line.0) (λ (x y : Stmt). nat_eq x.line.0 y.line.0 ≡ false) line_apart rising in
      distinct_from nat_eq (λ (x : Stmt). x.line.0) (instructions p)
      (pairwise_reordered (λ (r : Routine). r.code) (λ (x y : Stmt). nat_eq x.line.0 y.line.0 ≡ false) (λ x y e. eq_flip x.line.0 y.line.0 e) joined.found p.routines joined.routines pairs)
    where
      line_apart : (c d : Coded) (x y : Stmt) → Stands s c x → Stands s d y → c.item.line.0 < d.item.line.0 → nat_eq x.line.0 y.line.0 ≡ false
      line_apart c d x y h k lt = subst (λ n. nat_eq n y.line.0 ≡ false) (ap (λ l. l.0) (sym h.is.line)) (subst (λ n. nat_eq c.item.line.0 n ≡ false) (ap (λ l. l.0) (sym k.is.line)) (not_eq c.item.line.0 d.item.line.0 lt))

  -- the unit of a source keeps the rules
  pub unit_keeps : IsUnit p
  unit_keeps = record {
    image = subst IsInMemory (sym joined.image) in_memory;
    stack_ordered = stack.ordered;
    stack_end = stack.end;
    stack_free = λ a inside. subst (λ i. IsFree i a) (sym joined.image) (stack.free a inside.0 inside.1);
    areas = All-from_recursion (IsArea p) p.areas (each_weaker (IsAreaRight s) (IsArea p) (λ a h. is_area s p a joined.stack stack.ordered h) p.areas areas_ok);
    area_names = subst (λ (l : List Area). IsDistinct (pointwise nat_eq) (map (λ (a : Area). a.name) l)) areas_are (areas_named s es right);
    few_areas = subst (λ (l : List Area). length l ≤ 1024) areas_are (few_areas s es right);
    routines = All-from_recursion (IsRoutine p) p.routines (each_permuted (IsRoutine p) joined.found p.routines joined.routines found_right);
    routine_names = distinct_from (pointwise nat_eq) (λ (r : Routine). r.name) p.routines names_apart;
    few_routines = few_routines;
    rising = joined.rising;
    apart = bytes_differ;
    lines = lines_differ;
  }
