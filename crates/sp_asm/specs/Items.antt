-- What the items of a listing stand for, for crates that read listings.
use Rattle.std.specs.Prelude.{◌≡◌, ◌≢◌, ℕ, ◌+◌, ◌<◌, nat_eq, List, [], ◌∷◌, ◌++◌, length, map, slice_index, Some, IsTrue, ⊤}
use Rattle.std.specs.List.{AllZip, IsDistinct}
use Rattle.std.specs.List.Sorted.{IsStrictlyIncreasing}
use Rattle.std.specs.FinMap as maps
use Rattle.sp_base.specs.Cells.{Data, cells_of}
use Rattle.sp_base.specs.Image.{ImageMap}
use Rattle.sp_isa.specs.declared.instr.Instr.{Instr}
use Rattle.sp_isa.specs.Code.{code, valid}
use Rattle.sp_lex.specs.declared.token.LineKind.{LineKind}
use Rattle.sp_lex.specs.declared.token.LineKind.TheVariants as line
use Rattle.sp_lex.specs.declared.token.SourceLine.{SourceLine}
use Rattle.sp_asm.specs.declared.listing.Item.{Item}
use Rattle.sp_asm.specs.declared.listing.ItemKind.{ItemKind}
use Rattle.sp_asm.specs.declared.listing.ItemKind.TheVariants as kind
use Rattle.sp_asm.specs.declared.listing.Listing.{Listing}
use Rattle.sp_asm.specs.Listing.{IsListing}

-- the number of a line, where it is a statement
abbrev pub number_of : LineKind → ℕ → List ℕ
number_of line.Statement number = number ∷ []
number_of line.Empty number = []
number_of line.Annotation number = []

-- the numbers of lines that are statements, the first line having this number
abbrev pub statement_numbers : ℕ → List SourceLine → List ℕ
statement_numbers number [] = []
statement_numbers number (first ∷ lines) = number_of first.kind number ++ statement_numbers (number + 1) lines

-- the bytes of an item: the code of its instruction, any of DB and DW, none of others
abbrev pub HasBytes : ItemKind → List ℕ → Type 0
HasBytes (kind.Instr i) bytes = IsTrue (valid i) × (bytes ≡ code i)
HasBytes kind.Bytes bytes = ⊤
HasBytes kind.Label bytes = bytes ≡ []
HasBytes kind.Space bytes = bytes ≡ []
HasBytes kind.Org bytes = bytes ≡ []
HasBytes kind.Other bytes = bytes ≡ []

-- the bytes that an item has from its address on
pub record IsDataOf (item : Item) (d : Data) : Type 0 where
  pub address : d.address ≡ item.addr
  pub bytes : HasBytes item.kind d.bytes

-- an image has the bytes of items and no others, each of one item alone
pub record HoldsItems (image : ImageMap) (items : List Item) : Type 0 where
  pub each_data : List Data
  pub each : AllZip IsDataOf items each_data
  pub whole : image ≡ maps.from_entries (cells_of each_data)
  pub apart : IsDistinct nat_eq (map (λ c. c.0) (cells_of each_data))

-- these bytes stand in an image from an address on
abbrev pub StandAt : ImageMap → ℕ → List ℕ → Type 0
StandAt image a bytes = (k : ℕ) → k < length bytes → maps.get image (a + k) ≡ Some (slice_index bytes k)

-- what holds of each listing of a source with these lines
pub record ListingsHoldTheirItems : Type 0 where
  -- an item for each line that is a statement, in their order
  pub lines : (source : List ℕ) (lines : List SourceLine) (l : Listing) → IsListing source lines l → map (λ i. i.line.0) l.items ≡ statement_numbers 1 lines
  pub rising : (source : List ℕ) (lines : List SourceLine) (l : Listing) → IsListing source lines l → IsStrictlyIncreasing (map (λ i. i.line.0) l.items)
  pub bytes : (source : List ℕ) (lines : List SourceLine) (l : Listing) → IsListing source lines l → HoldsItems l.image l.items

-- what holds of each image that holds items
pub record ImagesHoldTheirItems : Type 0 where
  -- an instruction is valid, and its code stands at its address
  pub codes : (image : ImageMap) (items front back : List Item) (item : Item) (i : Instr) → HoldsItems image items
      → items ≡ front ++ item ∷ back → item.kind ≡ kind.Instr i → IsTrue (valid i) × StandAt image item.addr (code i)
  -- no two instructions have a byte at one address
  pub apart : (image : ImageMap) (items front between back : List Item) (one other : Item) (i j : Instr) → HoldsItems image items
      → items ≡ front ++ one ∷ (between ++ other ∷ back) → one.kind ≡ kind.Instr i → other.kind ≡ kind.Instr j
      → (k m : ℕ) → k < length (code i) → m < length (code j) → one.addr + k ≢ other.addr + m
