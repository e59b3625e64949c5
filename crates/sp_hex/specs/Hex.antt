-- Intel HEX: the texts that stand for an image, and the text of an image as it is written.
use Rattle.std.specs.Prelude.{◌≡◌, ◌⊎◌, ℕ, ◌+◌, ◌-◌, ◌*◌, ◌/◌, ◌%◌, ◌<◌, ◌≤◌, nat_le, nat_lt, nat_eq, ◌==◌, ◌&&◌, if◌then◌else◌, List, [], ◌∷◌, ◌++◌, length, map, sum, All, Option, Some, None, option_and_then, option_map, codes}
use Rattle.std.specs.List.{flat_map, AllZip, IsDistinct, AllByRecursion}
use Rattle.sp_base.specs.Lines.{lines}
use Rattle.std.specs.FinMap as maps
use Rattle.sp_base.specs.Image.{ImageMap}
use Rattle.sp_base.specs.Cells.{Data, cells_of}

-- ---- Records: the data of a record are bytes at successive addresses

-- the bytes of a record before its checksum: how many bytes of data it has, its address with the high byte first, its type, and its data
abbrev pub fields : ℕ → ℕ → List ℕ → List ℕ
fields kind address bytes = length bytes ∷ address / 256 ∷ address % 256 ∷ kind ∷ bytes

-- the types of data records and of the end record
abbrev pub data_type : ℕ
data_type = 0

abbrev pub end_type : ℕ
end_type = 1

-- ---- Lines

-- the value of a hexadecimal digit: 0 to 9, A to F or a to f
abbrev pub digit_value : ℕ → Option ℕ
digit_value c =
    if nat_le 48 c && nat_le c 57 then Some (c - 48) else
    (if nat_le 65 c && nat_le c 70 then Some (c - 55) else
    (if nat_le 97 c && nat_le c 102 then Some (c - 87) else None))

-- the byte that two digits spell
abbrev pub byte_of : ℕ → ℕ → Option ℕ
byte_of high low = option_and_then (λ h. option_map (λ l. 16 * h + l) (digit_value low)) (digit_value high)

-- the bytes that digits spell, two for each byte
unfoldable pub bytes_of : List ℕ → Option (List ℕ)
bytes_of [] = Some []
bytes_of (high ∷ []) = None
bytes_of (high ∷ low ∷ digits) = option_and_then (λ byte. option_map (λ bytes. byte ∷ bytes) (bytes_of digits)) (byte_of high low)

-- the bytes that a line spells: a colon, and their digits
abbrev pub line_bytes : List ℕ → Option (List ℕ)
line_bytes [] = None
line_bytes (c ∷ digits) = if c == 58 then bytes_of digits else None

-- the line has the form of a record with this data, which stands in memory
pub record HasDataForm (line : List ℕ) (d : Data) : Type 0 where
  pub checksum : ℕ
  pub spelled : line_bytes line ≡ Some (fields data_type d.address d.bytes ++ checksum ∷ [])
  pub within : d.address + length d.bytes ≤ 65536

-- the line has the form of an end record, which has no data and any address
pub record HasEndForm (line : List ℕ) : Type 0 where
  pub address : ℕ
  pub checksum : ℕ
  pub spelled : line_bytes line ≡ Some (fields end_type address [] ++ checksum ∷ [])

-- the line has the form of a record
abbrev pub HasForm : List ℕ → Type 0
HasForm line = ((d : Data) × HasDataForm line d) ⊎ HasEndForm line

-- all bytes of the line, its checksum with them, sum to 0 modulo 256
abbrev pub HasSum : List ℕ → Type 0
HasSum line = (bytes : List ℕ) × (line_bytes line ≡ Some bytes) × (sum bytes % 256 ≡ 0)

-- the line is a record with this data
abbrev pub IsDataLine : List ℕ → Data → Type 0
IsDataLine line d = HasDataForm line d × HasSum line

-- the line is an end record
abbrev pub IsEndLine : List ℕ → Type 0
IsEndLine line = HasEndForm line × HasSum line

-- ---- Texts

-- no address is given twice
abbrev pub NoneTwice : List Data → Type 0
NoneTwice records = IsDistinct nat_eq (map (λ c. c.0) (cells_of records))

-- the text stands for the image: its lines are data records, then one end record, then nothing but empty lines,
-- no address is given twice, and the image has exactly the records' bytes. LF or CRLF ends a line, and the last may have no end
pub record StandsFor (text : List ℕ) (image : ImageMap) : Type 0 where
  pub before : List (List ℕ)
  pub last : List ℕ
  pub after : List (List ℕ)
  pub records : List Data
  pub whole : lines text ≡ before ++ last ∷ after
  pub each : AllZip IsDataLine before records
  pub ended : IsEndLine last
  pub empty : All (λ line. line ≡ []) after
  pub apart : NoneTwice records
  pub exact : image ≡ maps.from_entries (cells_of records)

-- ---- The written form

-- a hexadecimal digit, in upper case
abbrev pub digit : ℕ → ℕ
digit value = if nat_lt value 10 then 48 + value else 55 + value

-- a byte as two digits
abbrev pub two_digits : ℕ → List ℕ
two_digits byte = digit (byte / 16) ∷ digit (byte % 16) ∷ []

-- the byte that makes the sum 0 modulo 256
abbrev pub checksum_of : List ℕ → ℕ
checksum_of bytes = (256 - sum bytes % 256) % 256

-- a record as it is written, with its line feed
abbrev pub written_record : ℕ → ℕ → List ℕ → List ℕ
written_record kind address bytes =
    58 ∷ flat_map two_digits (fields kind address bytes ++ checksum_of (fields kind address bytes) ∷ []) ++ 10 ∷ []

-- cells in rising order as data records, the first of them begun: a cell joins the record if it stands right behind it,
-- and the record has fewer than 16 bytes. `AreWritten`, below, says what these records are
unfoldable pub records_from : Data → List (ℕ × ℕ) → List Data
records_from d [] = d ∷ []
records_from d (c ∷ cells) =
    if (c.0 == d.address + length d.bytes) && nat_lt (length d.bytes) 16
    then records_from (record { address = d.address; bytes = d.bytes ++ c.1 ∷ [] }) cells
    else d ∷ records_from (record { address = c.0; bytes = c.1 ∷ [] }) cells

abbrev pub records_of : List (ℕ × ℕ) → List Data
records_of [] = []
records_of (c ∷ cells) = records_from (record { address = c.0; bytes = c.1 ∷ [] }) cells

-- a record that another goes on from, at the next address, has 16 bytes
abbrev pub AreFull : List Data → Type 0
AreFull [] = Unit {0}
AreFull (d ∷ []) = Unit {0}
AreFull (d ∷ e ∷ records) = (e.address ≡ d.address + length d.bytes → length d.bytes ≡ 16) × AreFull (e ∷ records)

-- the records that cells in rising order are written in: they give these cells, in this order, each has 1 to 16 bytes,
-- and each but the last of a run has 16
pub record AreWritten (cells : List (ℕ × ℕ)) (records : List Data) : Type 0 where
  pub whole : cells_of records ≡ cells
  pub short : AllByRecursion (λ d. (0 < length d.bytes) × (length d.bytes ≤ 16)) records
  pub full : AreFull records

-- the end record as it is written, with its line feed
abbrev pub end_line : List ℕ
end_line = codes ":00000001FF" ++ 10 ∷ []

-- the text of an image: its data records by rising address, and the end record
unfoldable pub text : ImageMap → List ℕ
text image =
    flat_map (λ d. written_record data_type d.address d.bytes) (records_of (maps.entries image))
    ++ end_line
