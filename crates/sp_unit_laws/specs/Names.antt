-- What the names of annotations stand for, by example.
use Rattle.std.specs.Prelude.{◌≡◌, ℕ, true, List, [], ◌∷◌, find, bytes_eq, codes, if◌then◌else◌, Some, None}
use Rattle.sp_base.specs.declared.location.Loc.TheVariants as loc
use Rattle.sp_model.specs.Note as model
use Rattle.sp_model.specs.Note.{Now, AtEntry, Quantity}
use Rattle.sp_note.specs.RawNotes.{RawNote, Literal, Constant, Location, Pair, Cell, StackWord, Total, Named, Element, Address, Length, Negative, Parity, Operate, Compare, Not, Connect, Quantify}
use Rattle.sp_prog.specs.declared.area.Area.{Area}
use Rattle.sp_prog.specs.declared.area.AreaKind.TheVariants as kind
use Rattle.sp_unit.specs.Faults.{area}
use Rattle.sp_unit.specs.Resolution.{Meanings, number, condition}

abbrev pub flag : List ℕ
flag = codes "FLAG"

abbrev pub count : List ℕ
count = codes "COUNT"

abbrev pub buffer : List ℕ
buffer = codes "BUF"

abbrev pub limit : List ℕ
limit = codes "LIMIT"

abbrev pub areas : List Area
areas = area flag kind.Byte 0x2400 1 ∷ area count kind.Word 0x2300 2 ∷ area buffer kind.Bytes 0x2500 4 ∷ []

-- FLAG is a byte, COUNT a word and BUF four bytes; in the assembler LIMIT is 40, and COUNT is 7
abbrev pub m : Meanings
m = record {
  areas = λ name. find (λ (a : Area). bytes_eq a.name name) areas;
  names = λ name. if bytes_eq name limit then Some 40 else (if bytes_eq name count then Some 7 else None);
}

abbrev pub cell : ℕ → Quantity
cell a = model.Cell Now (model.Literal a)

pub record NamesByExample : Type 0 where
  pub byte : number m [] (Named Now flag) ≡ Some (cell 0x2400)
  pub byte_at_entry : number m [] (Named AtEntry flag) ≡ Some (model.Cell AtEntry (model.Literal 0x2400))
  -- an area comes before a name of the assembler
  pub word : number m [] (Named Now count) ≡ Some (model.Operate model.Add (cell 0x2300) (model.Operate model.Multiply (model.Literal 256) (cell 0x2301)))
  pub bytes_alone : number m [] (Named Now buffer) ≡ None
  pub element : number m [] (Element Now buffer (Literal 3)) ≡ Some (model.Cell Now (model.Operate model.Add (model.Literal 0x2500) (model.Literal 3)))
  pub element_at_entry : number m [] (Element AtEntry buffer (Literal 3)) ≡ Some (model.Cell AtEntry (model.Operate model.Add (model.Literal 0x2500) (model.Literal 3)))
  pub element_of_byte : number m [] (Element Now flag (Literal 0)) ≡ None
  pub element_of_word : number m [] (Element Now count (Literal 0)) ≡ None
  pub assembler : number m [] (Named Now limit) ≡ Some (model.Literal 40)
  pub assembler_at_entry : number m [] (Named AtEntry limit) ≡ None
  pub unknown : number m [] (Named Now (codes "X")) ≡ None
  pub address : number m [] (Address buffer) ≡ Some (model.Literal 0x2500)
  pub length : number m [] (Length buffer) ≡ Some (model.Literal 4)
  pub address_of_number : number m [] (Address limit) ≡ None
  pub length_of_number : number m [] (Length limit) ≡ None
  pub literal : number m [] (Literal 3) ≡ Some (model.Literal 3)
  pub register : number m [] (Location AtEntry loc.B) ≡ Some (model.Location AtEntry loc.B)
  pub pair : number m [] (Pair Now model.BC) ≡ Some (model.Pair Now model.BC)
  pub any_cell : number m [] (Cell AtEntry (Literal 3)) ≡ Some (model.Cell AtEntry (model.Literal 3))
  pub stack_word : number m [] (StackWord 2) ≡ Some (model.StackWord 2)
  pub total : number m [] (Total AtEntry (Literal 3) (Literal 4)) ≡ Some (model.Total AtEntry (model.Literal 3) (model.Literal 4))
  pub negative : number m [] (Negative (Literal 3)) ≡ Some (model.Negative (model.Literal 3))
  pub parity : number m [] (Parity (Literal 3)) ≡ Some (model.Parity (model.Literal 3))
  pub difference : number m [] (Operate model.Subtract (Literal 3) (Literal 4)) ≡ Some (model.Operate model.Subtract (model.Literal 3) (model.Literal 4))
  pub of_part : number m [] (Operate model.Add (Literal 1) (Named Now (codes "X"))) ≡ None
  pub truth : number m [] (Constant true) ≡ None

-- a bound name hides an area and a name of the assembler
pub record BoundNamesByExample : Type 0 where
  pub area_hidden : number m (flag ∷ []) (Named Now flag) ≡ Some (model.Bound flag)
  pub number_hidden : number m (limit ∷ []) (Named Now limit) ≡ Some (model.Bound limit)
  pub other : number m (limit ∷ []) (Named Now flag) ≡ Some (cell 0x2400)
  pub at_entry : number m (flag ∷ []) (Named AtEntry flag) ≡ None
  pub element : number m (buffer ∷ []) (Element Now buffer (Literal 3)) ≡ None
  pub address : number m (buffer ∷ []) (Address buffer) ≡ None
  pub length : number m (buffer ∷ []) (Length buffer) ≡ None

-- FLAG = 0
abbrev pub flag_is_0 : RawNote
flag_is_0 = Compare model.Equal (Named Now flag) (Literal 0)

-- for all FLAG in FLAG..9: FLAG = 0
abbrev pub over_flag : RawNote
over_flag = Quantify model.ForAll flag (Named Now flag) (Literal 9) flag_is_0

abbrev pub over_flag_means : model.Note
over_flag_means = model.Quantify model.ForAll flag (cell 0x2400) (model.Literal 9) (model.Compare model.Equal (model.Bound flag) (model.Literal 0))

pub record ConditionsByExample : Type 0 where
  -- in its note a quantifier binds its name, in its ends it doesn't
  pub quantifier : condition m [] over_flag ≡ Some over_flag_means
  -- nor after it
  pub after_quantifier : condition m [] (Connect model.And over_flag flag_is_0) ≡ Some (model.Connect model.And over_flag_means (model.Compare model.Equal (cell 0x2400) (model.Literal 0)))
  pub inner_quantifier : condition m (flag ∷ []) over_flag
      ≡ Some (model.Quantify model.ForAll flag (model.Bound flag) (model.Literal 9) (model.Compare model.Equal (model.Bound flag) (model.Literal 0)))
  pub unknown_end : condition m [] (Quantify model.ForAll flag (Named Now (codes "X")) (Literal 9) flag_is_0) ≡ None
  pub unknown_side : condition m [] (Connect model.And flag_is_0 (Compare model.Equal (Named Now (codes "X")) (Literal 0))) ≡ None
  pub truth : condition m [] (Constant true) ≡ Some (model.Constant true)
  pub inverted : condition m [] (Not flag_is_0) ≡ Some (model.Not (model.Compare model.Equal (cell 0x2400) (model.Literal 0)))
  pub inverted_unknown : condition m [] (Not (Compare model.Equal (Literal 0) (Named Now (codes "X")))) ≡ None
  pub number : condition m [] (Literal 1) ≡ None
