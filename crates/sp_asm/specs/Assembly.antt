-- The assembly of a source, as equations over all its statements at once (8080 Assembly Language Programming Manual, chapters
-- "Assembler instructions" and "Pseudo-instructions"; ranges and the address after the last statement are this project's own).
use Rattle.std.specs.Prelude.{◌≡◌, ℕ, ◌+◌, ◌%◌, ◌<◌, ◌≤◌, Bool, true, false, ◌&&◌, not, nat_eq, List, [], ◌∷◌, ◌++◌, length, map, fold, slice_index, Option, Some, None, IsSome}
use Rattle.std.specs.List.{flat_map, list_any, IsDistinct}
use Rattle.std.specs.Cmp.Lexicographic.{pointwise}
use Rattle.std.specs.FinMap as maps
use Rattle.sp_base.specs.Image.{ImageMap}
use Rattle.sp_base.specs.Cells.{Data, cells_of}
use Rattle.sp_isa.specs.declared.instr.Instr.{Instr}
use Rattle.sp_isa.specs.declared.instr.Instr.TheVariants as instr
use Rattle.sp_isa.specs.Code as isa
use Rattle.sp_isa.specs.Decode.{with_operand}
use Rattle.sp_stmt.specs.declared.operand.Operand.{Operand}
use Rattle.sp_stmt.specs.declared.operand.Operand.TheVariants as operand
use Rattle.sp_stmt.specs.declared.statement.Code.{Code}
use Rattle.sp_stmt.specs.declared.statement.Code.TheVariants as code
use Rattle.sp_stmt.specs.declared.statement.Statement.{Statement}
use Rattle.sp_asm.specs.declared.listing.Item.{Item}
use Rattle.sp_asm.specs.declared.listing.ItemKind.{ItemKind}
use Rattle.sp_asm.specs.declared.listing.ItemKind.TheVariants as kind
use Rattle.sp_asm.specs.Names.{Definition, definition, Entries, symbols, value_in, fixed, by_set, name_of, is_set}
use Rattle.sp_asm.specs.Values.{AreValues, AreInRange}

-- ---- Places

-- EQU, SET, ORG and DS use the names above alone
abbrev pub uses_names_above : Code → Bool
uses_names_above code.Space = true
uses_names_above code.Org = true
uses_names_above (code.Equ name) = true
uses_names_above (code.Set name) = true
uses_names_above code.Nothing = false
uses_names_above (code.Instr i) = false
uses_names_above code.Data = false
uses_names_above code.End = false

-- a statement with its address, and the value of EQU, SET, ORG and DS, 0 for others
pub record Place : Type 0 where
  pub statement : Statement
  pub address : ℕ
  pub value : ℕ

-- how many bytes an operand of DB or DW has
abbrev pub size_of_item : Operand → ℕ
size_of_item (operand.Text characters) = length characters
size_of_item (operand.Byte ws) = 1
size_of_item (operand.Word ws) = 2
size_of_item (operand.Restart ws) = 1

abbrev pub size_of_items : List Operand → ℕ
size_of_items [] = 0
size_of_items (o ∷ operands) = size_of_item o + size_of_items operands

-- the address behind a code with these operands that stands at an address
abbrev pub address_behind : Code → List Operand → ℕ → ℕ → ℕ
address_behind (code.Instr i) operands address value = address + length (isa.code i)
address_behind code.Data operands address value = address + size_of_items operands
address_behind code.Space operands address value = address + value
address_behind code.Org operands address value = value
address_behind (code.Equ name) operands address value = address
address_behind (code.Set name) operands address value = address
address_behind code.Nothing operands address value = address
address_behind code.End operands address value = address

abbrev pub next_address : Place → ℕ
next_address p = address_behind p.statement.code p.statement.operands p.address p.value

-- the address behind all these statements; the first stands at 0
abbrev pub address_after : List Place → ℕ
address_after places = fold (λ address p. next_address p) 0 places

-- the value of the name that a code defines: that of EQU and SET, or the address
abbrev pub defined_value : Code → ℕ → ℕ → ℕ
defined_value (code.Equ name) address value = value
defined_value (code.Set name) address value = value
defined_value code.Nothing address value = address
defined_value (code.Instr i) address value = address
defined_value code.Data address value = address
defined_value code.Space address value = address
defined_value code.Org address value = address
defined_value code.End address value = address

abbrev pub definition_by : Option (List ℕ) → ℕ → Bool → List Definition
definition_by None value by_set = []
definition_by (Some name) value by_set = definition name value by_set ∷ []

abbrev pub definition_of : Place → List Definition
definition_of p = definition_by (name_of p.statement) (defined_value p.statement.code p.address p.value) (is_set p.statement.code)

abbrev pub definitions : List Place → List Definition
definitions = flat_map definition_of

-- the names that stand above
abbrev pub names_above : List Place → List ℕ → Option ℕ
names_above above = value_in (symbols (definitions above))

-- the names that a statement uses otherwise: a name stands for its one definition or, for a name of SET, for the last one above
abbrev pub names_at : List Place → List Place → List ℕ → Option ℕ
names_at all above = value_in (symbols (fixed (definitions all) ++ by_set (definitions above)))

-- whether a definition above has the name of a new one, where not both are by SET
abbrev pub is_taken : List Definition → Option (List ℕ) → Bool → Bool
is_taken above None by_set = false
is_taken above (Some name) by_set = list_any (λ d. pointwise nat_eq name d.name && not (d.by_set && by_set)) above

abbrev pub is_duplicate : List Place → Statement → Bool
is_duplicate above s = is_taken (definitions above) (name_of s) (is_set s.code)

-- the value of EQU, SET, ORG and DS, by the names above
abbrev pub HasPlaceValue : Bool → (List ℕ → Option ℕ) → ℕ → List Operand → ℕ → Type 0
HasPlaceValue true names here operands value = (values : List ℕ) × AreValues names here operands values × (value ≡ slice_index values 0)
HasPlaceValue false names here operands value = value ≡ 0

-- a label stands at an address of memory, and no byte and no space past it
pub record HasRoom (p : Place) : Type 0 where
  pub label : IsSome p.statement.label → p.address < 65536
  pub behind : next_address p ≤ 65536

-- the equations of a place, by the places above it. `$` is the address modulo 65,536
pub record IsPlaced (above : List Place) (p : Place) : Type 0 where
  pub address : p.address ≡ address_after above
  pub apart : is_duplicate above p.statement ≡ false
  pub value : HasPlaceValue (uses_names_above p.statement.code) (names_above above) (p.address % 65536) p.statement.operands p.value
  pub room : HasRoom p

-- so is each of these places
abbrev pub ArePlaced : List Place → Type 0
ArePlaced places = (above below : List Place) (p : Place) → places ≡ above ++ p ∷ below → IsPlaced above p

-- ---- Bytes

-- an instruction with this operand; the number of RST is 0 to 7
abbrev pub with_value : ℕ → Instr → Instr
with_value value (instr.Rst n) = instr.Rst (value % 8)
with_value value i = (with_operand (value % 256) value i).0

-- the bytes of an item of DB or DW with this value
abbrev pub item_bytes : Operand → ℕ → List ℕ
item_bytes (operand.Text characters) value = characters
item_bytes (operand.Byte ws) value = value % 256 ∷ []
item_bytes (operand.Word ws) value = isa.bytes_of value
item_bytes (operand.Restart ws) value = value % 256 ∷ []

abbrev pub items_bytes : List Operand → List ℕ → List ℕ
items_bytes [] values = []
items_bytes (o ∷ operands) [] = []
items_bytes (o ∷ operands) (value ∷ values) = item_bytes o value ++ items_bytes operands values

-- the bytes of a code whose operands have these values
abbrev pub bytes_by : Code → List Operand → List ℕ → List ℕ
bytes_by (code.Instr i) operands values = isa.code (with_value (slice_index values 0) i)
bytes_by code.Data operands values = items_bytes operands values
bytes_by code.Space operands values = []
bytes_by code.Org operands values = []
bytes_by (code.Equ name) operands values = []
bytes_by (code.Set name) operands values = []
bytes_by code.Nothing operands values = []
bytes_by code.End operands values = []

-- what a listing says of a code
abbrev pub kind_by : Code → List ℕ → ItemKind
kind_by (code.Instr i) values = kind.Instr (with_value (slice_index values 0) i)
kind_by code.Data values = kind.Bytes
kind_by code.Space values = kind.Space
kind_by code.Org values = kind.Org
kind_by (code.Equ name) values = kind.Other
kind_by (code.Set name) values = kind.Other
kind_by code.Nothing values = kind.Label
kind_by code.End values = kind.Other

-- a place with the values of its operands where it uses all names, as instructions, DB, DW and END do; [] for others
pub record Row : Type 0 where
  pub place : Place
  pub values : List ℕ

abbrev pub places_of : List Row → List Place
places_of = map (λ r. r.place)

abbrev pub row_bytes : Row → List ℕ
row_bytes r = bytes_by r.place.statement.code r.place.statement.operands r.values

abbrev pub row_data : Row → Data
row_data r = record { address = r.place.address; bytes = row_bytes r }

abbrev pub item_of : Row → Item
item_of r = record {
  line = r.place.statement.line;
  addr = r.place.address;
  label = r.place.statement.label;
  kind = kind_by r.place.statement.code r.values;
}

-- the addresses of all bytes
abbrev pub addresses_of : List Row → List ℕ
addresses_of rows = map (λ c. c.0) (cells_of (map row_data rows))

-- the values of the operands, by all names, in their ranges
abbrev pub HasRowValues : Bool → (List ℕ → Option ℕ) → ℕ → List Operand → List ℕ → Type 0
HasRowValues true names here operands values = values ≡ []
HasRowValues false names here operands values = AreValues names here operands values × AreInRange operands values

-- the equations of a row, by all places and those above it
abbrev pub IsRow : List Place → List Place → Row → Type 0
IsRow all above r = HasRowValues (uses_names_above r.place.statement.code) (names_at all above) (r.place.address % 65536) r.place.statement.operands r.values

-- the assembly of these statements: each has its place, and its values in their ranges, and no address has two bytes
pub record IsAssembly (statements : List Statement) (rows : List Row) : Type 0 where
  pub whole : map (λ (p : Place). p.statement) (places_of rows) ≡ statements
  pub places : ArePlaced (places_of rows)
  pub each : (above below : List Row) (r : Row) → rows ≡ above ++ r ∷ below → IsRow (places_of rows) (places_of above) r
  pub apart : IsDistinct nat_eq (addresses_of rows)

-- ---- Listings

-- the image has exactly the bytes of the rows
abbrev pub image_of : List Row → ImageMap
image_of rows = maps.from_entries (cells_of (map row_data rows))

-- the names of a source, in order of definition; a name of SET has its last value
abbrev pub names_of : List Row → Entries
names_of rows = symbols (definitions (places_of rows))
