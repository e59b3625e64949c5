-- The text of an image stands for it, and what is cut from its end doesn't.
use Rattle.std.proofs.Common.{◌≡◌, ◌≢◌, ℕ, zero, suc, ◌+◌, ◌-◌, ◌*◌, ◌/◌, ◌%◌, ◌<◌, ◌≤◌, false, T, eqb, ltb, List, [], ◌∷◌, ◌++◌, length, map, take, drop, get_or, sum, refl, sym, ap, subst, ◌∙◌, inl, inr, Some, None, arith, append_assoc, length-append}
use Rattle.std.specs.Prelude.{nat_eq, option_map}
use Rattle.std.specs.List.{AllByRecursion, AllZip, IsDistinct, flat_map}
use Rattle.std.specs.Str.Lines.{strip_carriage_return}
use Rattle.std.specs.Ordering.{nat_cmp, is_lt}
use Rattle.std.specs.Cmp.{nat_cmp_total}
use Rattle.std.specs.FinMap as maps
use Rattle.std.specs.FinMap.{is_sorted, nat_cmp-IsAntisymmetric}
use Rattle.std.specs.FinMap.Entries.{below_all}
use Rattle.std.proofs.Math.Seq.{take-append_seam, take-append-add, take-length}
use Rattle.std.proofs.lemmas.Bool.{cases_lt, le-leb, lt-leb, lt-ltb, le-ltb, ne_eqb, cond-false}
use Rattle.std.proofs.lemmas.List.{take-append-le, length-take-le, length_push, take-append-drop}
use Rattle.std.proofs.lemmas.List.Sums.{sum_by-append}
use Rattle.std.proofs.lemmas.List.Elements.{All-from_recursion, All-head, All-tail}
use Rattle.sp_base.specs.Lines.{line_of, rows_of, lines}
use Rattle.sp_base.proofs.LineLemmas.{rows_of-feed, rows_of-last}
use Rattle.sp_base.specs.Image.{ImageMap, IsInMemory, AreCells}
use Rattle.sp_hex.specs.Hex.{fields, data_type, end_type, digit_value, byte_of, bytes_of, line_bytes, IsDataLine, IsEndLine, StandsFor, digit, two_digits, checksum_of, written_record, records_of, text}
use Rattle.sp_hex.proofs.RecordLaws.{AreBytes, then_some, map_some, chosen, some_is, not_none}
use Rattle.sp_hex.proofs.RowLaws.{written_made}
use Rattle.sp_hex.specs.code.Rows.{data_text}
use Rattle.sp_base.proofs.FindLaws.{order_parts, less}
use Rattle.sp_base.specs.Cells.{Data, cells_at, cells_of}

-- ---- Digits

less_back : (k v : ℕ) → k + v - k ≡ v
less_back k v = omega arith

halves_back : (b : ℕ) → 16 * (b / 16) + b % 16 ≡ b
halves_back b = omega arith

pub digit_back : (v : ℕ) → v < 16 → digit_value (digit v) ≡ Some v
digit_back v lt = elim (cases_lt v 10) [
  | inl low ↦ rw (lt-ltb v 10 low, le-leb 48 (48 + v) (omega arith), le-leb (48 + v) 57 (omega arith)) (ap (λ (n : ℕ). Some n) (less_back 48 v))
  | inr high ↦ rw (le-ltb v 10 high, le-leb 48 (55 + v) (omega arith), lt-leb (55 + v) 57 (omega arith), le-leb 65 (55 + v) (omega arith), le-leb (55 + v) 70 (omega arith)) (ap (λ (n : ℕ). Some n) (less_back 55 v))
]

lower_back : (v : ℕ) → 55 + v + 32 - 87 ≡ v
lower_back v = omega arith

pub digit_lower : (v : ℕ) → 10 ≤ v → v < 16 → digit_value (digit v + 32) ≡ Some v
digit_lower v high lt =
    ap (λ n. digit_value (n + 32)) (cond-false (ltb v 10) (48 + v) (55 + v) (le-ltb v 10 high))
    ∙ rw (
      le-leb 48 (55 + v + 32) (omega arith),
      lt-leb (55 + v + 32) 57 (omega arith),
      le-leb 65 (55 + v + 32) (omega arith),
      lt-leb (55 + v + 32) 70 (omega arith),
      le-leb 97 (55 + v + 32) (omega arith),
      le-leb (55 + v + 32) 102 (omega arith),
    ) (ap (λ (n : ℕ). Some n) (lower_back v))

byte_back : (b : ℕ) → b < 256 → byte_of (digit (b / 16)) (digit (b % 16)) ≡ Some b
byte_back b lt = rw (digit_back (b / 16) (omega arith), digit_back (b % 16) (omega arith)) (ap (λ (n : ℕ). Some n) (halves_back b))

bytes_back : (bytes : List ℕ) → AreBytes bytes → bytes_of (flat_map two_digits bytes) ≡ Some bytes
unfolding bytes_of
bytes_back [] h = refl
bytes_back (b ∷ bytes) h = rw (byte_back b h.0, bytes_back bytes h.1) refl

-- a digit or a colon
abbrev Plain : ℕ → Type 0
Plain c = 48 ≤ c

digit_plain : (v : ℕ) → Plain (digit v)
digit_plain v = elim (cases_lt v 10) [
  | inl low ↦ rw (lt-ltb v 10 low) (omega arith)
  | inr high ↦ rw (le-ltb v 10 high) (omega arith)
]

digits_plain : (bytes : List ℕ) → AllByRecursion Plain (flat_map two_digits bytes)
digits_plain [] = tt
digits_plain (b ∷ bytes) = (digit_plain (b / 16), (digit_plain (b % 16), digits_plain bytes))

length-digits : (bytes : List ℕ) → length (flat_map two_digits bytes) ≡ 2 * length bytes
length-digits [] = refl
length-digits (b ∷ bytes) = omega (arith, length-digits bytes)

-- ---- Lines

-- a record as it is written, without its line feed
abbrev body : ℕ → ℕ → List ℕ → List ℕ
body kind address bytes = 58 ∷ flat_map two_digits (fields kind address bytes ++ checksum_of (fields kind address bytes) ∷ [])

body_plain : (kind address : ℕ) (bytes : List ℕ) → AllByRecursion Plain (body kind address bytes)
body_plain kind address bytes = (omega arith, digits_plain (fields kind address bytes ++ checksum_of (fields kind address bytes) ∷ []))

plain_feed : (line : List ℕ) → AllByRecursion Plain line → AllByRecursion (λ byte. byte ≢ 10) line
plain_feed [] h = tt
plain_feed (c ∷ line) h = (λ e. absurd (omega (arith, e, h.0)), plain_feed line h.1)

strip_plain : (line : List ℕ) → AllByRecursion Plain line → strip_carriage_return line ≡ line
strip_plain [] h = refl
strip_plain (c ∷ line) h =
    let last : ℕ = get_or (c ∷ line) (length (c ∷ line) - 1) 0 in
    let plain : Plain last = All-from_recursion Plain (c ∷ line) h (length (c ∷ line) - 1) 0 (omega arith) in
    cond-false (eqb last 13) (take (length (c ∷ line) - 1) (c ∷ line)) (c ∷ line) (ne_eqb last 13 (λ e. absurd (omega (arith, e, plain))))

line_ended : (line rest : List ℕ) → AllByRecursion Plain line → lines (line ++ 10 ∷ rest) ≡ line ∷ lines rest
line_ended line rest h = ap (map line_of) (rows_of-feed line rest (plain_feed line h)) ∙ ap (λ (x : List ℕ). x ∷ lines rest) (strip_plain line h)

line_last : (line : List ℕ) → 0 < length line → AllByRecursion Plain line → lines line ≡ line ∷ []
line_last line some h = ap (map line_of) (rows_of-last line some (plain_feed line h))

line_first : (line rest : List ℕ) → AllByRecursion Plain line → lines ((line ++ 10 ∷ []) ++ rest) ≡ line ∷ lines rest
line_first line rest h = ap lines (append_assoc line (10 ∷ []) rest) ∙ line_ended line rest h

-- ---- Records

module _ {A : Type 0} (P : A → Type 0) where
  rec_push : (xs : List A) (y : A) → AllByRecursion P xs → P y → AllByRecursion P (xs ++ y ∷ [])
  rec_push [] y h p = (p, tt)
  rec_push (x ∷ xs) y h p = (h.0, rec_push xs y h.1 p)

  rec_split : (xs ys : List A) → AllByRecursion P (xs ++ ys) → AllByRecursion P xs × AllByRecursion P ys
  rec_split [] ys h = (tt, h)
  rec_split (x ∷ xs) ys h = let p = rec_split xs ys h.1 in ((h.0, p.0), p.1)

  rec_take : (n : ℕ) (xs : List A) → AllByRecursion P xs → AllByRecursion P (take n xs)
  rec_take n xs h = (rec_split (take n xs) (drop n xs) (subst (AllByRecursion P) (sym (take-append-drop n xs)) h)).0

  rec_middle : (xs : List A) (y : A) (ys : List A) → AllByRecursion P (xs ++ y ∷ ys) → P y
  rec_middle xs y ys h = (rec_split xs (y ∷ ys) h).1.0

balanced : (total before last : ℕ) → total ≡ before + last → last ≡ (256 - before % 256) % 256 → total % 256 ≡ 0
balanced total before last e is = omega arith

sum_push : (bytes : List ℕ) (b : ℕ) → sum (bytes ++ b ∷ []) ≡ sum bytes + b
sum_push bytes b = omega (arith, sum_by-append (λ (x : ℕ). x) bytes (b ∷ []))

sum_zero : (bytes : List ℕ) → sum (bytes ++ checksum_of bytes ∷ []) % 256 ≡ 0
sum_zero bytes = balanced (sum (bytes ++ checksum_of bytes ∷ [])) (sum bytes) (checksum_of bytes) (sum_push bytes (checksum_of bytes)) refl

below_256 : (n : ℕ) → (256 - n % 256) % 256 < 256
below_256 n = omega arith

-- the bytes that a written record spells
body_bytes : (kind address : ℕ) (bytes : List ℕ) → kind < 256 → address < 65536 → length bytes < 256 → AreBytes bytes
    → line_bytes (body kind address bytes) ≡ Some (fields kind address bytes ++ checksum_of (fields kind address bytes) ∷ [])
body_bytes kind address bytes k a n h =
    bytes_back (fields kind address bytes ++ checksum_of (fields kind address bytes) ∷ [])
    (n, (omega arith, (omega arith, (k, rec_push (λ b. b < 256) bytes (checksum_of (fields kind address bytes)) h (below_256 (sum (fields kind address bytes)))))))

-- what can be written as a data record
record Good (d : Data) : Type 0 where
  some : 0 < length d.bytes
  few : length d.bytes ≤ 16
  bytes_fit : AreBytes d.bytes
  within : d.address + length d.bytes ≤ 65536

data_right : (d : Data) → Good d → IsDataLine (body data_type d.address d.bytes) d
data_right d h =
    let spelled = body_bytes 0 d.address d.bytes (omega arith) (omega (arith, h.some, h.within)) (omega (arith, h.few)) h.bytes_fit in
    (record { checksum = checksum_of (fields data_type d.address d.bytes); spelled = spelled; within = h.within }, (_, spelled, sum_zero (fields data_type d.address d.bytes)))

end_right : IsEndLine (body end_type 0 [])
end_right =
    let spelled = body_bytes 1 0 [] (omega arith) (omega arith) (omega arith) tt in
    (record { address = 0; checksum = checksum_of (fields end_type 0 []); spelled = spelled }, (_, spelled, sum_zero (fields end_type 0 [])))

-- ---- The records of an image

abbrev Cell : ℕ × ℕ → Type 0
Cell c = (c.0 < 65536) × (c.1 < 256)

each_cell : (cells : List (ℕ × ℕ)) → AreCells cells → AllByRecursion Cell cells
each_cell [] h = tt
each_cell (c ∷ cells) h = (
  (All-head (λ a. a < 65536) c.0 (map (λ x. x.0) cells) h.addresses, All-head (λ b. b < 256) c.1 (map (λ x. x.1) cells) h.bytes),
  each_cell cells (record { addresses = All-tail (λ a. a < 65536) c.0 (map (λ x. x.0) cells) h.addresses; bytes = All-tail (λ b. b < 256) c.1 (map (λ x. x.1) cells) h.bytes }),
)

cells_fit : (a : ℕ) (bytes : List ℕ) → AllByRecursion Cell (cells_at a bytes) → AreBytes bytes
cells_fit a [] h = tt
cells_fit a (b ∷ bytes) h = (h.0.1, cells_fit (a + 1) bytes h.1)

cells_within : (a : ℕ) (bytes : List ℕ) → 0 < length bytes → AllByRecursion Cell (cells_at a bytes) → a + length bytes ≤ 65536
cells_within a [] some h = absurd (omega arith)
cells_within a (b ∷ []) some h = omega (arith, h.0.0)
cells_within a (b ∷ c ∷ bytes) some h = omega (arith, cells_within (a + 1) (c ∷ bytes) (omega arith) h.1)

goods : (records : List Data) → AllByRecursion (λ d. (0 < length d.bytes) × (length d.bytes ≤ 16)) records → AllByRecursion Cell (cells_of records) → AllByRecursion Good records
goods [] short h = tt
goods (d ∷ records) short h =
    let p = rec_split Cell (cells_at d.address d.bytes) (cells_of records) h in
    (record { some = short.0.0; few = short.0.1; bytes_fit = cells_fit d.address d.bytes p.0; within = cells_within d.address d.bytes short.0.0 p.0 }, goods records short.1 p.1)

image_goods : (image : ImageMap) → IsInMemory image → AllByRecursion Good (records_of (maps.entries image))
image_goods image h =
    let w = written_made (maps.entries image) in
    goods (records_of (maps.entries image)) w.short (subst (AllByRecursion Cell) (sym w.whole) (each_cell (maps.entries image) h))

abbrev bodies : List Data → List (List ℕ)
bodies = map (λ d. body data_type d.address d.bytes)

lines_data : (records : List Data) (tail : List ℕ) → lines (data_text records ++ tail) ≡ bodies records ++ lines tail
lines_data [] tail = refl
lines_data (d ∷ records) tail =
    ap lines (append_assoc (written_record data_type d.address d.bytes) (data_text records) tail)
    ∙ line_first (body data_type d.address d.bytes) (data_text records ++ tail) (body_plain data_type d.address d.bytes)
    ∙ ap (λ (x : List (List ℕ)). body data_type d.address d.bytes ∷ x) (lines_data records tail)

each_right : (records : List Data) → AllByRecursion Good records → AllZip IsDataLine (bodies records) records
each_right [] h = tt
each_right (d ∷ records) h = (data_right d h.0, each_right records h.1)

all_apart : (a : ℕ) (cells : List (ℕ × ℕ)) → T (below_all nat_cmp a cells) → AllByRecursion (λ y. nat_eq a y ≡ false) (map (λ c. c.0) cells)
all_apart a [] h = tt
all_apart a (c ∷ cells) h =
    let p = order_parts (is_lt (nat_cmp a c.0)) (below_all nat_cmp a cells) h in
    let lt = less a c.0 p.0 in
    (ne_eqb a c.0 (λ e. absurd (omega arith)), all_apart a cells p.1)

sorted_apart : (cells : List (ℕ × ℕ)) → T (is_sorted nat_cmp cells) → IsDistinct nat_eq (map (λ c. c.0) cells)
unfolding IsDistinct
sorted_apart [] h = tt
sorted_apart (c ∷ cells) h =
    let p = order_parts (below_all nat_cmp c.0 cells) (is_sorted nat_cmp cells) h in
    (all_apart c.0 cells p.0, sorted_apart cells p.1)

image_of_cells : (image : ImageMap) → image ≡ maps.from_entries (maps.entries image)
image_of_cells image = maps.same_map nat_cmp_total nat_cmp-IsAntisymmetric _ _ (λ q. maps.get-entries image q ∙ sym (maps.get-from_entries nat_cmp_total (maps.entries image) q))

stands : (image : ImageMap) (tail : List ℕ) → IsInMemory image → lines tail ≡ body end_type 0 [] ∷ [] → StandsFor (data_text (records_of (maps.entries image)) ++ tail) image
stands image tail h one =
    let records = records_of (maps.entries image) in
    let w = written_made (maps.entries image) in
    record {
      before = bodies records;
      last = body end_type 0 [];
      after = [];
      records = records;
      whole = lines_data records tail ∙ ap (λ (x : List (List ℕ)). bodies records ++ x) one;
      each = each_right records (image_goods image h);
      ended = end_right;
      empty = λ k d lt. absurd (omega (arith, lt));
      apart = subst (λ (cells : List (ℕ × ℕ)). IsDistinct nat_eq (map (λ c. c.0) cells)) (sym w.whole) (sorted_apart (maps.entries image) (maps.entries_sorted image));
      exact = image_of_cells image ∙ ap (λ (cells : List (ℕ × ℕ)). maps.from_entries {R = nat_cmp} cells) (sym w.whole);
    }

pub text_stands : (image : ImageMap) → IsInMemory image → StandsFor (text image) image
unfolding text rows_of
text_stands image h = stands image (written_record end_type 0 []) h (line_ended (body end_type 0 []) [] (body_plain end_type 0 []))

front_of : (xs : List ℕ) (y : ℕ) → take (length (xs ++ y ∷ []) - 1) (xs ++ y ∷ []) ≡ xs
front_of xs y =
    let size : length (xs ++ y ∷ []) - 1 ≡ length xs = omega (arith, length_push xs y) in
    ap (λ n. take n (xs ++ y ∷ [])) size ∙ take-append_seam xs (y ∷ [])

pub text_unended : (image : ImageMap) → IsInMemory image → StandsFor (take (length (text image) - 1) (text image)) image
unfolding text
text_unended image h =
    let front_text = data_text (records_of (maps.entries image)) in
    let end = body end_type 0 [] in
    let split : text image ≡ (front_text ++ end) ++ 10 ∷ [] = sym (append_assoc front_text end (10 ∷ [])) in
    let front : take (length (text image) - 1) (text image) ≡ front_text ++ end = ap (λ (t : List ℕ). take (length t - 1) t) split ∙ front_of (front_text ++ end) 10 in
    subst (λ (t : List ℕ). StandsFor t image) (sym front) (stands image end h (line_last end (omega arith) (body_plain end_type 0 [])))

-- ---- What is cut

bytes_length : (digits bytes : List ℕ) → bytes_of digits ≡ Some bytes → length digits ≡ 2 * length bytes
unfolding bytes_of
bytes_length [] bytes h = omega (arith, ap length (some_is [] bytes h))
bytes_length (high ∷ []) bytes h = absurd (not_none bytes None h refl)
bytes_length (high ∷ low ∷ digits) bytes h =
    let p = then_some (byte_of high low) (λ byte. option_map (λ (bs : List ℕ). byte ∷ bs) (bytes_of digits)) bytes h in
    let q = map_some (bytes_of digits) (λ bs. p.0 ∷ bs) bytes p.2 in
    omega (arith, bytes_length digits q.0 q.1, ap length q.2)

line_length : (line bytes : List ℕ) → line_bytes line ≡ Some bytes → length line ≡ 2 * length bytes + 1
line_length [] bytes h = absurd (not_none bytes None h refl)
line_length (c ∷ digits) bytes h = elim (chosen (eqb c 58) (bytes_of digits) None (Some bytes) h) [
  | inl p ↦ omega (arith, bytes_length digits bytes p.1)
  | inr p ↦ absurd (not_none bytes None p.1 refl)
]

end_length : (line : List ℕ) → IsEndLine line → length line ≡ 11
end_length line h = line_length line (fields end_type h.0.address [] ++ h.0.checksum ∷ []) h.0.spelled

-- a line that begins with a byte other than 0 is no end record
first_byte : (high low : ℕ) (digits : List ℕ) (byte : ℕ) → byte_of high low ≡ Some byte → 0 < byte → ¬ (IsEndLine (58 ∷ high ∷ low ∷ digits))
unfolding bytes_of
first_byte high low digits byte is some h =
    let p = then_some (byte_of high low) (λ b. option_map (λ (bs : List ℕ). b ∷ bs) (bytes_of digits)) (fields end_type h.0.address [] ++ h.0.checksum ∷ []) h.0.spelled in
    let q = map_some (bytes_of digits) (λ bs. p.0 ∷ bs) (fields end_type h.0.address [] ++ h.0.checksum ∷ []) p.2 in
    let none : p.0 ≡ 0 = ap (λ (bs : List ℕ). get_or bs 0 0) q.2 in
    let same : byte ≡ p.0 = some_is byte p.0 (sym is ∙ p.1) in
    omega (arith, none, same)

no_end : (d : Data) → Good d → (n : ℕ) → ¬ (IsEndLine (take n (body data_type d.address d.bytes)))
no_end d h zero e = absurd (omega (arith, end_length [] e))
no_end d h (suc zero) e = absurd (omega (arith, end_length (58 ∷ []) e))
no_end d h (suc (suc zero)) e = absurd (omega (arith, end_length (58 ∷ digit (length d.bytes / 16) ∷ []) e))
no_end d h (suc (suc (suc n))) e =
    first_byte (digit (length d.bytes / 16)) (digit (length d.bytes % 16)) _ (length d.bytes) (byte_back (length d.bytes) (omega (arith, h.few))) h.some e

abbrev NoEnds : List (List ℕ) → Type 0
NoEnds = AllByRecursion (λ line. ¬ (IsEndLine line))

one_line : (line : List ℕ) → AllByRecursion Plain line → ¬ (IsEndLine line) → NoEnds (lines line)
unfolding rows_of
one_line [] h not_end = tt
one_line (c ∷ line) h not_end = subst NoEnds (sym (line_last (c ∷ line) (omega arith) h)) (not_end, tt)

abbrev end_text : List ℕ
end_text = written_record end_type 0 []

cut_end : (n : ℕ) → n ≤ 10 → NoEnds (lines (take n end_text))
cut_end n few =
    let end = body end_type 0 [] in
    let front : take n end_text ≡ take n end = take-append-le n end (10 ∷ []) (omega arith) in
    subst (λ (t : List ℕ). NoEnds (lines t)) (sym front) (one_line (take n end) (rec_take Plain n end (body_plain end_type 0 []))
    (λ e. absurd (omega (arith, end_length (take n end) e, length-take-le n end (omega arith)))))

cut_record : (d : Data) (rest : List ℕ) (n : ℕ) → Good d → n ≤ length (body data_type d.address d.bytes) → NoEnds (lines (take n (written_record data_type d.address d.bytes ++ rest)))
cut_record d rest n h few =
    let line = body data_type d.address d.bytes in
    let front : take n (written_record data_type d.address d.bytes ++ rest) ≡ take n line =
    ap (take n) (append_assoc line (10 ∷ []) rest) ∙ take-append-le n line (10 ∷ rest) few in
    subst (λ (t : List ℕ). NoEnds (lines t)) (sym front) (one_line (take n line) (rec_take Plain n line (body_plain data_type d.address d.bytes)) (no_end d h n))

past_record : (d : Data) (rest : List ℕ) (k : ℕ) → Good d → NoEnds (lines (take k rest)) → NoEnds (lines (take (length (written_record data_type d.address d.bytes) + k) (written_record data_type d.address d.bytes ++ rest)))
past_record d rest k h more =
    let line = body data_type d.address d.bytes in
    let split : lines (take (length (written_record data_type d.address d.bytes) + k) (written_record data_type d.address d.bytes ++ rest)) ≡ line ∷ lines (take k rest) =
    ap lines (take-append-add (written_record data_type d.address d.bytes) rest k) ∙ line_first line (take k rest) (body_plain data_type d.address d.bytes) in
    subst NoEnds (sym split) (subst (λ (l : List ℕ). ¬ (IsEndLine l)) (take-length line) (no_end d h (length line)), more)

cut_lines : (records : List Data) (n : ℕ) → AllByRecursion Good records → n ≤ length (data_text records) + 10 → NoEnds (lines (take n (data_text records ++ end_text)))
cut_lines [] n h few = cut_end n (omega arith)
cut_lines (d ∷ records) n h few =
    let record_text = written_record data_type d.address d.bytes in
    let line = body data_type d.address d.bytes in
    let size : length record_text ≡ length line + 1 = length_push line 10 in
    let joined = append_assoc record_text (data_text records) end_text in
    subst (λ (t : List ℕ). NoEnds (lines (take n t))) (sym joined) (elim (cases_lt (length line) n) [
      | inr le ↦ cut_record d (data_text records ++ end_text) n h.0 le
      | inl lt ↦
          let k : ℕ = n - length record_text in
          let is : length record_text + k ≡ n = omega (arith, size) in
          let rest = cut_lines records k h.1 (omega (arith, size, length-append record_text (data_text records))) in
          subst (λ m. NoEnds (lines (take m (record_text ++ (data_text records ++ end_text))))) is (past_record d (data_text records ++ end_text) k h.0 rest)
    ])

pub text_cut : (image other : ImageMap) (n : ℕ) → IsInMemory image → n + 2 ≤ length (text image) → ¬ (StandsFor (take n (text image)) other)
unfolding text
text_cut image other n h few s =
    let records = records_of (maps.entries image) in
    let none = cut_lines records n (image_goods image h) (omega (arith, length-append (data_text records) end_text)) in
    rec_middle (λ line. ¬ (IsEndLine line)) s.before s.last s.after (subst NoEnds s.whole none) s.ended

-- ---- How long a text is

above : (a : ℕ) (cells : List (ℕ × ℕ)) → T (below_all nat_cmp a cells) → AllByRecursion (λ c. a + 1 ≤ c.0) cells
above a [] h = tt
above a (c ∷ cells) h =
    let p = order_parts (is_lt (nat_cmp a c.0)) (below_all nat_cmp a cells) h in
    let lt = less a c.0 p.0 in
    (omega arith, above a cells p.1)

-- cells in order have an address each
few_cells : (a : ℕ) (cells : List (ℕ × ℕ)) → a ≤ 65536 → T (is_sorted nat_cmp cells) → AllByRecursion (λ c. a ≤ c.0) cells → AllByRecursion Cell cells → a + length cells ≤ 65536
few_cells a [] low sorted from h = omega (arith, low)
few_cells a (c ∷ cells) low sorted from h =
    let p = order_parts (below_all nat_cmp c.0 cells) (is_sorted nat_cmp cells) sorted in
    let rest = few_cells (c.0 + 1) cells (omega (arith, h.0.0)) p.1 (above c.0 cells p.0) h.1 in
    omega (arith, from.0, rest)

from_zero : (cells : List (ℕ × ℕ)) → AllByRecursion (λ c. 0 ≤ c.0) cells
from_zero [] = tt
from_zero (c ∷ cells) = (omega arith, from_zero cells)

length-cells_at : (a : ℕ) (bytes : List ℕ) → length (cells_at a bytes) ≡ length bytes
length-cells_at a [] = refl
length-cells_at a (b ∷ bytes) = omega (arith, length-cells_at (a + 1) bytes)

length-record : (bytes : List ℕ) (kind a : ℕ) → length (written_record kind a bytes) ≡ 12 + 2 * length bytes
length-record bytes kind a =
    let all = fields kind a bytes ++ checksum_of (fields kind a bytes) ∷ [] in
    omega (arith, length_push (body kind a bytes) 10, length-digits all, length_push (fields kind a bytes) (checksum_of (fields kind a bytes)))

length-data : (records : List Data) → AllByRecursion Good records → length (data_text records) ≤ 14 * length (cells_of records)
length-data [] h = omega arith
length-data (d ∷ records) h =
    let front = written_record data_type d.address d.bytes in
    omega (
      arith,
      length-data records h.1,
      h.0.some,
      length-record d.bytes data_type d.address,
      length-append front (data_text records),
      length-append (cells_at d.address d.bytes) (cells_of records),
      length-cells_at d.address d.bytes,
    )

pub text_short : (image : ImageMap) → IsInMemory image → length (text image) ≤ 917516
unfolding text
text_short image h =
    let cells = maps.entries image in
    let records = records_of cells in
    omega (
      arith,
      length-append (data_text records) end_text,
      length-record [] end_type 0,
      length-data records (image_goods image h),
      ap length (written_made cells).whole,
      few_cells 0 cells (omega arith) (maps.entries_sorted image) (from_zero cells) (each_cell cells h),
    )
