-- Reading a text line by line, with the first refusal that is met. No public contract cites this.
use Rattle.std.specs.Prelude.{◌≡◌, ℕ, ◌+◌, ◌*◌, ◌%◌, Bool, true, false, nat_le, ◌==◌, ◌&&◌, if◌then◌else◌, List, [], ◌∷◌, length, take, sum, Option, Some, None, option_map, Result, Ok, Err}
use Rattle.sp_base.specs.Image.{ImageMap}
use Rattle.sp_base.specs.Cells.{Data, placed}
use Rattle.sp_base.specs.declared.refused.Refused.TheVariants as refused
use Rattle.sp_hex.specs.declared.refusal.HexKind.TheVariants as hex
use Rattle.sp_hex.specs.Refusals.{HexRefusal}
use Rattle.sp_hex.specs.declared.record.Record.{Record}
use Rattle.sp_hex.specs.declared.record.Record.TheVariants as records
use Rattle.sp_hex.specs.Hex.{byte_of, line_bytes, data_type, end_type}

-- what a line holds
pub data Content : Type 0 where
  data_record : Data → Content
  end_record : Content

abbrev pub content : Record → Content
content (records.Data address bytes) = data_record (record { address = address; bytes = bytes.now })
content records.End = end_record

infixl 10 ◌>>=◌
abbrev pub ◌>>=◌ : {A B : Type 0} → Result A HexRefusal → (A → Result B HexRefusal) → Result B HexRefusal
(Ok x) >>= f = f x
(Err e) >>= f = Err e

-- what a function returned, seen by view, is what reading gives, unless memory ran out
abbrev pub Fails : {Y : Type 0} → HexRefusal → Result Y HexRefusal → Type 0
Fails refused.Memory read = Unit {0}
Fails (refused.At line kind) read = read ≡ Err (refused.At line kind)

abbrev pub Gives : {X Y : Type 0} → (X → Y) → Result X HexRefusal → Result Y HexRefusal → Type 0
Gives view (Ok x) read = read ≡ Ok (view x)
Gives view (Err e) read = Fails e read

-- the byte that the first two digits spell, and the digits behind them
unfoldable pub byte_at : List ℕ → Option (ℕ × List ℕ)
byte_at [] = None
byte_at (high ∷ []) = None
byte_at (high ∷ low ∷ digits) = option_map (λ byte. (byte, digits)) (byte_of high low)

-- what the bytes of a record hold, if they are in one's form
abbrev pub content_with : ℕ → ℕ → ℕ → List ℕ → Option Content
content_with len address kind bytes =
    if len == length bytes then
    (if (kind == data_type) && nat_le (address + length bytes) 65536 then Some (data_record (record { address = address; bytes = bytes })) else
    (if (kind == end_type) && (length bytes == 0) then Some end_record else None))
    else None

unfoldable pub content_of : List ℕ → Option Content
content_of (len ∷ high ∷ low ∷ kind ∷ b ∷ rest) = content_with len (256 * high + low) kind (take (length rest) (b ∷ rest))
content_of _ = None

abbrev pub with_sum : ℕ → List ℕ → Content → Result Content HexRefusal
with_sum number bytes held = if sum bytes % 256 == 0 then Ok held else Err (refused.At (record { 0 = number }) hex.BadSum)

abbrev pub or_bad_record : {A : Type 0} → ℕ → Option A → Result A HexRefusal
or_bad_record number None = Err (refused.At (record { 0 = number }) hex.BadRecord)
or_bad_record number (Some x) = Ok x

-- what these bytes of the line with this number hold
unfoldable pub held_at : ℕ → List ℕ → Result Content HexRefusal
held_at number bytes = do
  held ← or_bad_record number (content_of bytes)
  with_sum number bytes held

-- what the line with this number holds
unfoldable pub record_at : ℕ → List ℕ → Result Content HexRefusal
record_at number line = or_bad_record number (line_bytes line) >>= held_at number

-- whether digits spell bytes, and these bytes
abbrev pub Spells : Bool → List ℕ → Option (List ℕ) → Type 0
Spells true bytes read = read ≡ Some bytes
Spells false bytes read = read ≡ None

-- the lines from this number on are empty
unfoldable pub empty_from : ℕ → List (List ℕ) → Result (Unit {0}) HexRefusal
empty_from number [] = Ok tt
empty_from number (line ∷ more) = if length line == 0 then empty_from (number + 1) more else Err (refused.At (record { 0 = number }) hex.AfterEnd)

abbrev pub or_overlap : ℕ → Option ImageMap → Result ImageMap HexRefusal
or_overlap number None = Err (refused.At (record { 0 = number }) hex.Overlap)
or_overlap number (Some image) = Ok image

-- what comes of a text, from what the line with this number holds, what comes of the lines behind a data record, and whether those are empty
abbrev pub after_record : ℕ → ImageMap → (ImageMap → Result ImageMap HexRefusal) → Result (Unit {0}) HexRefusal → Content → Result ImageMap HexRefusal
after_record number image go_on ended (data_record d) = or_overlap number (placed d.address d.bytes image) >>= go_on
after_record number image go_on ended end_record = ended >>= λ _. Ok image

-- what comes of the lines from this number on, with the image so far
unfoldable pub reading : ℕ → ImageMap → List (List ℕ) → Result ImageMap HexRefusal
reading number image [] = Err (refused.At (record { 0 = 0 }) hex.NoEnd)
reading number image (line ∷ more) =
    record_at number line >>= after_record number image (λ i. reading (number + 1) i more) (empty_from (number + 1) more)
