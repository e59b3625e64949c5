-- What listings hold.
use Rattle.std.proofs.Common.{◌≡◌, ◌≢◌, ℕ, zero, suc, ◌+◌, ◌<◌, ◌≤◌, ◌%◌, Bool, true, false, List, [], ◌∷◌, ◌++◌, length, map, Option, Some, None, refl, sym, ap, subst, ◌∙◌, arith, add-one, append_assoc, IsTrue}
use Rattle.std.specs.Prelude.{nat_eq, nat_lt, slice_index, All, Ok}
use Rattle.std.specs.Ordering.{nat_cmp}
use Rattle.std.specs.Cmp.{nat_cmp_total}
use Rattle.std.specs.FinMap as maps
use Rattle.std.specs.FinMap.{find}
use Rattle.std.specs.List.{AllZip, AllByRecursion, IsDistinct}
use Rattle.std.specs.List.Sorted.{IsStrictlyIncreasing}
use Rattle.std.proofs.lemmas.Bool.{eqb-false}
use Rattle.std.proofs.lemmas.Bool.Decides.{nat_tests}
use Rattle.std.proofs.lemmas.Grind.{flat_map-append}
use Rattle.std.proofs.lemmas.List.{map-append}
use Rattle.std.proofs.lemmas.List.Elements.{All-head, All-tail}
use Rattle.sp_base.specs.Cells.{Data, cells_at, cells_of}
use Rattle.sp_base.specs.Image.{ImageMap}
use Rattle.sp_base.proofs.CellLaws.{map_of}
use Rattle.sp_base.proofs.FindLaws.{Cells, here, other}
use Rattle.sp_isa.specs.declared.instr.Instr.{Instr}
use Rattle.sp_isa.specs.declared.instr.Instr.TheVariants as instr
use Rattle.sp_isa.specs.Code.{code, valid}
use Rattle.sp_lex.specs.declared.token.LineKind.{LineKind}
use Rattle.sp_lex.specs.declared.token.LineKind.TheVariants as line
use Rattle.sp_lex.specs.declared.token.SourceLine.{SourceLine}
use Rattle.sp_lex.specs.declared.token.Token.{Token}
use Rattle.sp_stmt.specs.declared.operand.Operand.{Operand}
use Rattle.sp_stmt.specs.declared.statement.Code.{Code}
use Rattle.sp_stmt.specs.declared.statement.Code.TheVariants as codes
use Rattle.sp_stmt.specs.declared.statement.Statement.{Statement}
use Rattle.sp_stmt.specs.Source.{Gives, AreStatementsFrom}
use Rattle.sp_stmt.specs.Statements.{IsInTable, IsStatement}
use Rattle.sp_stmt.proofs.SourceLemmas.{ok_from}
use Rattle.sp_stmt.proofs.StatementLaws.{statements_are}
use Rattle.sp_asm.specs.declared.listing.Item.{Item}
use Rattle.sp_asm.specs.declared.listing.ItemKind.{ItemKind}
use Rattle.sp_asm.specs.declared.listing.ItemKind.TheVariants as kind
use Rattle.sp_asm.specs.declared.listing.Listing.{Listing}
use Rattle.sp_asm.specs.Assembly.{Place, Row, places_of, with_value, bytes_by, kind_by, item_of, row_data, row_bytes}
use Rattle.sp_asm.specs.Items.{number_of, statement_numbers, HasBytes, IsDataOf, HoldsItems, StandAt}
use Rattle.sp_asm.specs.Listing.{IsListing}
use Rattle.sp_asm.proofs.SplitLaws.{head_is, tail_is}

-- ---- Numbers of lines

numbers_given : (kind : LineKind) (source : List ℕ) (number : ℕ) (tokens : List Token) (given : List Statement) → Gives kind source number tokens given → map (λ (s : Statement). s.line.0) given ≡ number_of kind number
numbers_given line.Empty source number tokens given h = ap (map (λ (s : Statement). s.line.0)) h
numbers_given line.Annotation source number tokens given h = ap (map (λ (s : Statement). s.line.0)) h
numbers_given line.Statement source number tokens given h = ap (map (λ (s : Statement). s.line.0)) h.2 ∙ ap (λ n. n ∷ []) h.1.line.line

numbers_from : (source : List ℕ) (number : ℕ) (lines : List SourceLine) (statements : List Statement) → AreStatementsFrom source number lines statements
    → map (λ (s : Statement). s.line.0) statements ≡ statement_numbers number lines
numbers_from source number [] statements h = ap (map (λ (s : Statement). s.line.0)) h
numbers_from source number (first ∷ lines) statements h =
    ap (map (λ (s : Statement). s.line.0)) h.2 ∙ map-append (λ (s : Statement). s.line.0) h.0 h.1
    ∙ (λ i. numbers_given first.kind source number first.tokens h.0 h.3 i ++ numbers_from source (number + 1) lines h.1 h.4 i)

item_lines : (rows : List Row) → map (λ (i : Item). i.line.0) (map item_of rows) ≡ map (λ (s : Statement). s.line.0) (map (λ (p : Place). p.statement) (places_of rows))
item_lines [] = refl
item_lines (r ∷ rows) = ap (λ l. r.place.statement.line.0 ∷ l) (item_lines rows)

pub numbers_of : (source : List ℕ) (lines : List SourceLine) (l : Listing) → IsListing source lines l → map (λ (i : Item). i.line.0) l.items ≡ statement_numbers 1 lines
numbers_of source lines l h =
    ap (map (λ (i : Item). i.line.0)) h.2.items ∙ item_lines h.0
    ∙ ap (map (λ (s : Statement). s.line.0)) h.1.2.whole ∙ numbers_from source 1 lines h.1.0 h.1.1

-- the numbers from a line on
at_least : (kind : LineKind) (number k : ℕ) (rest : List ℕ) → ((m : ℕ) → m < length rest → number + 1 ≤ slice_index rest m) → k < length (number_of kind number ++ rest) → number ≤ slice_index (number_of kind number ++ rest) k
at_least line.Empty number k rest h lt = omega (arith, h k lt)
at_least line.Annotation number k rest h lt = omega (arith, h k lt)
at_least line.Statement number zero rest h lt = omega arith
at_least line.Statement number (suc k) rest h lt = let below : number + 1 ≤ slice_index rest k = h k (omega arith) in omega arith

from_number : (number : ℕ) (lines : List SourceLine) (k : ℕ) → k < length (statement_numbers number lines) → number ≤ slice_index (statement_numbers number lines) k
from_number number [] k lt = absurd (omega arith)
from_number number (first ∷ lines) k lt = at_least first.kind number k (statement_numbers (number + 1) lines) (from_number (number + 1) lines) lt

rising_cons : (x : ℕ) (xs : List ℕ) (k : ℕ) → ((m : ℕ) → m < length xs → x < slice_index xs m) → IsStrictlyIncreasing xs → k + 1 < length (x ∷ xs) → slice_index (x ∷ xs) k < slice_index (x ∷ xs) (k + 1)
rising_cons x xs zero first rest lt = first 0 (omega arith)
rising_cons x xs (suc k) first rest lt = rw add-one (let below : slice_index xs k < slice_index xs (k + 1) = rest k (omega arith) in rw add-one at below)

rising_by : (kind : LineKind) (number : ℕ) (rest : List ℕ) → ((m : ℕ) → m < length rest → number + 1 ≤ slice_index rest m) → IsStrictlyIncreasing rest → IsStrictlyIncreasing (number_of kind number ++ rest)
rising_by line.Empty number rest h rising = rising
rising_by line.Annotation number rest h rising = rising
rising_by line.Statement number rest h rising = λ k lt. rising_cons number rest k (λ m below. let above : number + 1 ≤ slice_index rest m = h m below in omega arith) rising lt

rising_from : (number : ℕ) (lines : List SourceLine) → IsStrictlyIncreasing (statement_numbers number lines)
rising_from number [] = λ k lt. absurd (omega arith)
rising_from number (first ∷ lines) = rising_by first.kind number (statement_numbers (number + 1) lines) (from_number (number + 1) lines) (rising_from (number + 1) lines)

pub rising_lines : (source : List ℕ) (lines : List SourceLine) (l : Listing) → IsListing source lines l → IsStrictlyIncreasing (map (λ (i : Item). i.line.0) l.items)
rising_lines source lines l h = subst IsStrictlyIncreasing (sym (numbers_of source lines l h)) (rising_from 1 lines)

-- ---- Bytes of items

restart_valid : (x : ℕ) → IsTrue (nat_lt (x % 8) 8)
restart_valid x = grind (arith, nat_tests)

valid-with_value : (x : ℕ) (i : Instr) → IsTrue (valid i) → IsTrue (valid (with_value x i))
valid-with_value x (instr.Rst n) h = restart_valid x
valid-with_value x i h = h

bytes_are : (c : Code) (operands : List Operand) (values : List ℕ) → IsInTable c → HasBytes (kind_by c values) (bytes_by c operands values)
bytes_are (codes.Instr i) operands values h = (valid-with_value (slice_index values 0) i h, refl)
bytes_are codes.Data operands values h = tt
bytes_are codes.Space operands values h = refl
bytes_are codes.Org operands values h = refl
bytes_are (codes.Equ name) operands values h = refl
bytes_are (codes.Set name) operands values h = refl
bytes_are codes.Nothing operands values h = refl
bytes_are codes.End operands values h = refl

each_row : (rows : List Row) → All IsStatement (map (λ (p : Place). p.statement) (places_of rows)) → AllZip IsDataOf (map item_of rows) (map row_data rows)
each_row [] h = tt
each_row (r ∷ rows) h =
    let below = map (λ (p : Place). p.statement) (places_of rows) in
    let first = All-head IsStatement r.place.statement (map (λ (p : Place). p.statement) (places_of rows)) h in (
      record { address = refl; bytes = bytes_are r.place.statement.code r.place.statement.operands r.values first.valid },
      each_row rows (All-tail IsStatement r.place.statement (map (λ (p : Place). p.statement) (places_of rows)) h),
    )

pub holds_items : (source : List ℕ) (lines : List SourceLine) (l : Listing) → IsListing source lines l → HoldsItems l.image l.items
holds_items source lines l h =
    let rows = h.0 in
    let each = statements_are source lines h.1.0 (ok_from source 1 lines h.1.0 h.1.1) in
    record {
      each_data = map row_data h.0;
      each = subst (λ items. AllZip IsDataOf items (map row_data h.0)) (sym h.2.items) (each_row h.0 (subst (All IsStatement) (sym h.1.2.whole) each));
      whole = h.2.image;
      apart = h.1.2.apart;
    }

-- ---- Images

abbrev addresses : Cells → List ℕ
addresses cells = map (λ c. c.0) cells

module _ (P : ℕ → Type 0) where
  all_middle : (xs : Cells) (c : ℕ × ℕ) (ys : Cells) → AllByRecursion P (addresses (xs ++ c ∷ ys)) → P c.0
  all_middle [] c ys h = h.0
  all_middle (x ∷ xs) c ys h = all_middle xs c ys h.1

find_at : (xs : Cells) (c : ℕ × ℕ) (ys : Cells) → IsDistinct nat_eq (addresses (xs ++ c ∷ ys)) → find nat_cmp c.0 (xs ++ c ∷ ys) ≡ Some c.1
unfolding IsDistinct
find_at [] c ys h = here c ys
find_at (x ∷ xs) c ys h =
    other c.0 x (xs ++ c ∷ ys) (λ e. eqb-false x.0 c.0 (all_middle (λ y. nat_eq x.0 y ≡ false) xs c ys h.0) (sym e)) ∙ find_at xs c ys h.1

two_apart : (xs : Cells) (c : ℕ × ℕ) (ys : Cells) (d : ℕ × ℕ) (zs : Cells) → IsDistinct nat_eq (addresses (xs ++ c ∷ (ys ++ d ∷ zs))) → c.0 ≢ d.0
unfolding IsDistinct
two_apart [] c ys d zs h = eqb-false c.0 d.0 (all_middle (λ y. nat_eq c.0 y ≡ false) ys d zs h.0)
two_apart (x ∷ xs) c ys d zs h = two_apart xs c ys d zs h.1

-- the byte at an index of data
record ByteAt (a : ℕ) (bytes : List ℕ) (k : ℕ) : Type 0 where
  front : Cells
  back : Cells
  whole : cells_at a bytes ≡ front ++ (a + k, slice_index bytes k) ∷ back

byte_at : (a : ℕ) (bytes : List ℕ) (k : ℕ) → k < length bytes → ByteAt a bytes k
byte_at a [] k lt = absurd (omega arith)
byte_at a (byte ∷ bytes) zero lt =
    let same : a ≡ a + 0 = omega arith in
    record { front = []; back = cells_at (a + 1) bytes; whole = ap (λ n. (n, byte) ∷ cells_at (a + 1) bytes) same }
byte_at a (byte ∷ bytes) (suc k) lt =
    let below = byte_at (a + 1) bytes k (omega arith) in
    let same : a + 1 + k ≡ a + suc k = omega arith in
    record { front = (a, byte) ∷ below.front; back = below.back; whole = ap (λ l. (a, byte) ∷ l) (below.whole ∙ ap (λ n. below.front ++ (n, slice_index bytes k) ∷ below.back) same) }

cells-split : (front back : List Data) (d : Data) → cells_of (front ++ d ∷ back) ≡ cells_of front ++ (cells_at d.address d.bytes ++ cells_of back)
cells-split front back d = flat_map-append (λ (e : Data). cells_at e.address e.bytes) front (d ∷ back)

-- the data of an item
record DataAt (front back : List Item) (item : Item) (data_of : List Data) : Type 0 where
  before : List Data
  after : List Data
  here_data : Data
  whole : data_of ≡ before ++ here_data ∷ after
  is : IsDataOf item here_data
  rest : AllZip IsDataOf back after

data_at : (front back : List Item) (item : Item) (all : List Data) → AllZip IsDataOf (front ++ item ∷ back) all → DataAt front back item all
data_at [] back item [] h = absurd h
data_at [] back item (d ∷ all) h = record { before = []; after = all; here_data = d; whole = refl; is = h.0; rest = h.1 }
data_at (x ∷ front) back item [] h = absurd h
data_at (x ∷ front) back item (d ∷ all) h =
    let below = data_at front back item all h.1 in
    record { before = d ∷ below.before; after = below.after; here_data = below.here_data; whole = ap (λ l. d ∷ l) below.whole; is = below.is; rest = below.rest }

module _ (image : ImageMap) (items : List Item) (holds : HoldsItems image items) where
  instr_bytes : (item : Item) (i : Instr) (d : Data) → IsDataOf item d → item.kind ≡ kind.Instr i → IsTrue (valid i) × (d.bytes ≡ code i)
  instr_bytes item i d h e = subst (λ k. HasBytes k d.bytes) e h.bytes

  pub code_stands : (front back : List Item) (item : Item) (i : Instr) → items ≡ front ++ item ∷ back → item.kind ≡ kind.Instr i → IsTrue (valid i) × StandAt image item.addr (code i)
  code_stands front back item i e is =
      let at = data_at front back item holds.each_data (subst (λ l. AllZip IsDataOf l holds.each_data) e holds.each) in
      let d = at.here_data in
      let known = instr_bytes item i at.here_data at.is is in
      let stands : StandAt image at.here_data.address at.here_data.bytes = λ k lt.
      let byte = byte_at at.here_data.address at.here_data.bytes k lt in
      let c : ℕ × ℕ = (at.here_data.address + k, slice_index at.here_data.bytes k) in
      let cells : cells_of holds.each_data ≡ (cells_of at.before ++ byte.front) ++ c ∷ (byte.back ++ cells_of at.after) =
      ap cells_of at.whole ∙ cells-split at.before at.after at.here_data
      ∙ ap (λ l. cells_of at.before ++ (l ++ cells_of at.after)) byte.whole
      ∙ ap (λ l. cells_of at.before ++ l) (append_assoc byte.front (c ∷ byte.back) (cells_of at.after))
      ∙ sym (append_assoc (cells_of at.before) byte.front (c ∷ (byte.back ++ cells_of at.after))) in
      ap (λ m. maps.get m (at.here_data.address + k)) holds.whole
      ∙ maps.get-from_entries nat_cmp_total (cells_of holds.each_data) (at.here_data.address + k)
      ∙ ap (λ l. find nat_cmp (at.here_data.address + k) l) cells
      ∙ find_at (cells_of at.before ++ byte.front) c (byte.back ++ cells_of at.after) (subst (λ l. IsDistinct nat_eq (addresses l)) cells holds.apart) in
      (known.0, subst (λ a. StandAt image a (code i)) at.is.address (subst (StandAt image at.here_data.address) known.1 stands))

  pub codes_apart : (front between back : List Item) (one other : Item) (i j : Instr) → items ≡ front ++ one ∷ (between ++ other ∷ back) → one.kind ≡ kind.Instr i → other.kind ≡ kind.Instr j
      → (k m : ℕ) → k < length (code i) → m < length (code j) → one.addr + k ≢ other.addr + m
  codes_apart front between back one other i j e is js k m lt mt same =
      let at = data_at front (between ++ other ∷ back) one holds.each_data (subst (λ l. AllZip IsDataOf l holds.each_data) e holds.each) in
      let under = data_at between back other at.after at.rest in
      let known = instr_bytes one i at.here_data at.is is in
      let known_other = instr_bytes other j under.here_data under.is js in
      let byte = byte_at at.here_data.address at.here_data.bytes k (subst (λ l. k < length l) (sym known.1) lt) in
      let lower = byte_at under.here_data.address under.here_data.bytes m (subst (λ l. m < length l) (sym known_other.1) mt) in
      let c : ℕ × ℕ = (at.here_data.address + k, slice_index at.here_data.bytes k) in
      let d : ℕ × ℕ = (under.here_data.address + m, slice_index under.here_data.bytes m) in
      let below : cells_of at.after ≡ (cells_of under.before ++ lower.front) ++ d ∷ (lower.back ++ cells_of under.after) =
      ap cells_of under.whole ∙ cells-split under.before under.after under.here_data
      ∙ ap (λ l. cells_of under.before ++ (l ++ cells_of under.after)) lower.whole
      ∙ ap (λ l. cells_of under.before ++ l) (append_assoc lower.front (d ∷ lower.back) (cells_of under.after))
      ∙ sym (append_assoc (cells_of under.before) lower.front (d ∷ (lower.back ++ cells_of under.after))) in
      let middle = byte.back ++ (cells_of under.before ++ lower.front) in
      let cells : cells_of holds.each_data ≡ (cells_of at.before ++ byte.front) ++ c ∷ ((byte.back ++ (cells_of under.before ++ lower.front)) ++ d ∷ (lower.back ++ cells_of under.after)) =
      ap cells_of at.whole ∙ cells-split at.before at.after at.here_data
      ∙ ap (λ l. cells_of at.before ++ (l ++ cells_of at.after)) byte.whole
      ∙ ap (λ l. cells_of at.before ++ l) (append_assoc byte.front (c ∷ byte.back) (cells_of at.after))
      ∙ sym (append_assoc (cells_of at.before) byte.front (c ∷ (byte.back ++ cells_of at.after)))
      ∙ ap (λ l. (cells_of at.before ++ byte.front) ++ c ∷ (byte.back ++ l)) below
      ∙ ap (λ l. (cells_of at.before ++ byte.front) ++ c ∷ l) (sym (append_assoc byte.back (cells_of under.before ++ lower.front) (d ∷ (lower.back ++ cells_of under.after)))) in
      let apart = two_apart (cells_of at.before ++ byte.front) c (byte.back ++ (cells_of under.before ++ lower.front)) d (lower.back ++ cells_of under.after)
      (subst (λ l. IsDistinct nat_eq (addresses l)) cells holds.apart) in
      apart ((λ x. at.is.address x + k) ∙ same ∙ (λ x. sym under.is.address x + m))
