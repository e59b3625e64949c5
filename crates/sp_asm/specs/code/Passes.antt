-- What the parts of the two passes keep.
use Rattle.std.specs.Prelude.{◌≡◌, ℕ, ◌≤◌, ◌<◌, Bool, true, false, ◌&&◌, not, nat_eq, List, [], ◌∷◌, ◌++◌, map, Option, Some, None, is_some, if◌then◌else◌, ⊤}
use Rattle.std.specs.List.{list_any, IsDistinct}
use Rattle.sp_base.specs.declared.line.Line.{Line}
use Rattle.sp_base.specs.declared.refused.Refused.{Refused}
use Rattle.sp_base.specs.declared.refused.Refused.TheVariants as refused
use Rattle.sp_expr.specs.declared.word.Word.{Word}
use Rattle.sp_expr.specs.declared.word.Word.TheVariants as words
use Rattle.sp_stmt.specs.declared.operand.Operand.{Operand}
use Rattle.sp_stmt.specs.declared.statement.Statement.{Statement}
use Rattle.sp_asm.specs.declared.listing.Listing.{Listing}
use Rattle.sp_asm.specs.declared.places.Places.{Places}
use Rattle.sp_asm.specs.declared.places.Spot.{Spot}
use Rattle.sp_asm.specs.declared.rows.Rows.{Rows}
use Rattle.sp_asm.specs.declared.refusal.AsmKind.{AsmKind}
use Rattle.sp_asm.specs.declared.refusal.AsmKind.TheVariants.{Later, Undefined, ZeroDivisor}
use Rattle.sp_asm.specs.Names.{symbols, fixed, by_set, defines}
use Rattle.sp_asm.specs.Values.{operand_words, AreValues, OneIsWithoutValue}
use Rattle.sp_asm.specs.Assembly.{Place, address_after, definitions, ArePlaced, Row, IsRow, places_of, item_of, addresses_of, image_of, IsAssembly}
use Rattle.sp_asm.specs.Listing.{Lists}

-- ---- Values

-- what an attempt to value operands found
abbrev pub Evaluated : Bool → (List ℕ → Option ℕ) → ℕ → List Operand → List ℕ → Type 0
Evaluated true names here operands values = AreValues names here operands values
Evaluated false names here operands values = OneIsWithoutValue names here operands

-- an address, where it is 65,536 at most
abbrev pub Reaches : Option ℕ → ℕ → Type 0
Reaches (Some next) address = (next ≡ address) × (next ≤ 65536)
Reaches None address = 65536 < address

-- ---- Faults

-- a word is a name without a value, which is declared
abbrev pub is_later : (List ℕ → Option ℕ) → (List ℕ → Option ℕ) → Word → Bool
is_later names declared (words.Name name) = not (is_some (names name)) && is_some (declared name)
is_later names declared (words.Number n) = false
is_later names declared words.Here = false
is_later names declared (words.Operator operator) = false
is_later names declared words.Not = false
is_later names declared words.Open = false
is_later names declared words.Close = false

-- a word is a name without a value
abbrev pub is_undefined : (List ℕ → Option ℕ) → Word → Bool
is_undefined names (words.Name name) = not (is_some (names name))
is_undefined names (words.Number n) = false
is_undefined names words.Here = false
is_undefined names (words.Operator operator) = false
is_undefined names words.Not = false
is_undefined names words.Open = false
is_undefined names words.Close = false

abbrev pub has_later : (List ℕ → Option ℕ) → (List ℕ → Option ℕ) → List Operand → Bool
has_later names declared operands = list_any (λ o. list_any (is_later names declared) (operand_words o)) operands

abbrev pub has_undefined : (List ℕ → Option ℕ) → List Operand → Bool
has_undefined names operands = list_any (λ o. list_any (is_undefined names) (operand_words o)) operands

-- why an operand has no value
abbrev pub fault_of : (List ℕ → Option ℕ) → (List ℕ → Option ℕ) → List Operand → AsmKind
fault_of names declared operands = if has_later names declared operands then Later else (if has_undefined names operands then Undefined else ZeroDivisor)

-- the names that are declared are those that statements define
abbrev pub Declares : (List ℕ → Option ℕ) → List Statement → Type 0
Declares declared statements = (name : List ℕ) → is_some (declared name) ≡ defines statements name

-- ---- Refusals

-- a refusal of this line, for a kind that stands
abbrev pub RefusesLine : Line → (AsmKind → Type 0) → Refused AsmKind → Type 0
RefusesLine line Stands (refused.At at kind) = (at ≡ line) × Stands kind
RefusesLine line Stands refused.Memory = ⊤

-- ---- Places

abbrev pub spot_of : Place → Spot
spot_of p = record { address = p.address; value = p.value }

-- the code has these places
pub record IsPlaces (p : Places) (places : List Place) : Type 0 where
  pub spots : map spot_of places ≡ p.spots.items
  pub address : p.address ≡ address_after places
  pub names : p.names.entries ≡ symbols (definitions places)
  pub fixed_names : p.fixed.entries ≡ symbols (fixed (definitions places))
  pub placed : ArePlaced places

-- it has one more, that of the statement
abbrev pub HasPlaced : Places → List Place → Statement → Type 0
HasPlaced new places s = (p : Place) × (p.statement ≡ s) × IsPlaces new (places ++ p ∷ [])

-- these statements have these places
abbrev pub ArePlaces : List Statement → Places → Type 0
ArePlaces statements p = (places : List Place) × (map (λ (q : Place). q.statement) places ≡ statements) × IsPlaces p places

-- ---- Rows

-- the code has these rows
pub record IsRows (r : Rows) (all : List Place) (rows : List Row) : Type 0 where
  pub items : map item_of rows ≡ r.items.items
  pub image : r.image ≡ image_of rows
  pub names : r.names.entries ≡ symbols (fixed (definitions all) ++ by_set (definitions (places_of rows)))
  pub each : (above below : List Row) (row : Row) → rows ≡ above ++ row ∷ below → IsRow all (places_of above) row
  pub apart : IsDistinct nat_eq (addresses_of rows)

-- it has one more, that of the place
abbrev pub HasRow : Rows → List Place → List Row → Place → Type 0
HasRow new all rows p = (r : Row) × (r.place ≡ p) × IsRows new all (rows ++ r ∷ [])

-- statements have an assembly, of which this is the listing
abbrev pub ListsAssembly : List Statement → Listing → Type 0
ListsAssembly statements l = (rows : List Row) × IsAssembly statements rows × Lists l rows
