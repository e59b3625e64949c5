-- Statements that differ little, with their addresses, bytes, names and ranges.
use Rattle.std.specs.Prelude.{◌≡◌, ℕ, true, false, List, [], ◌∷◌, map, Option, Some, None, codes}
use Rattle.sp_base.specs.Cells.{cells_of}
use Rattle.sp_base.specs.declared.location.Reg.TheVariants as reg
use Rattle.sp_base.specs.declared.pair.Pair.TheVariants as pair
use Rattle.sp_expr.specs.declared.word.Word.TheVariants as words
use Rattle.sp_isa.specs.declared.instr.Arg.TheVariants as arg
use Rattle.sp_isa.specs.declared.instr.Instr.TheVariants as instr
use Rattle.sp_stmt.specs.declared.operand.Operand.{Operand}
use Rattle.sp_stmt.specs.declared.operand.Operand.TheVariants as operand
use Rattle.sp_stmt.specs.declared.statement.Code.{Code}
use Rattle.sp_stmt.specs.declared.statement.Code.TheVariants as code
use Rattle.sp_stmt.specs.declared.statement.Statement.{Statement}
use Rattle.sp_asm.specs.declared.listing.ItemKind.TheVariants as kind
use Rattle.sp_asm.specs.declared.refusal.AsmKind.TheVariants.{Duplicate, Later, Undefined, Range, PastEnd, Overlap}
use Rattle.sp_asm.specs.Assembly.{Place, uses_names_above, size_of_items, address_behind, address_after, defined_value, is_taken, HasRoom, item_bytes, bytes_by, kind_by, Row, row_data, names_of, IsAssembly}
use Rattle.sp_asm.specs.Names.{definition, symbols, value_in, fixed, by_set}
use Rattle.sp_asm.specs.Refusals.{FirstRound, SecondRound}
use Rattle.sp_asm.specs.Values.{is_in_range, are_in_range}

abbrev pub byte : Operand
byte = operand.Byte (words.Here ∷ [])

abbrev pub word : Operand
word = operand.Word (words.Here ∷ [])

abbrev pub restart : Operand
restart = operand.Restart (words.Here ∷ [])

abbrev pub text : Operand
text = operand.Text (65 ∷ 66 ∷ 67 ∷ [])

abbrev pub mvi : Code
mvi = code.Instr (instr.Mvi (arg.Reg reg.B) 0)

abbrev pub lxi : Code
lxi = code.Instr (instr.Lxi pair.H 0)

-- a statement of line 1 with this label, if any, that stands at an address with a value
abbrev pub place : Option (List ℕ) → Code → List Operand → ℕ → ℕ → Place
place label what operands address value = record {
  statement = record { line = record { 0 = 1 }; label = label; code = what; operands = operands };
  address = address;
  value = value;
}

abbrev pub x : Option (List ℕ)
x = Some (codes "X")

-- the address after a statement; the first stands at 0
pub record AddressesByExample : Type 0 where
  pub first : address_after [] ≡ 0
  pub second : address_after (place None mvi (byte ∷ []) 0 0 ∷ []) ≡ 2
  pub third : address_after (place None mvi (byte ∷ []) 0 0 ∷ place None lxi (word ∷ []) 2 0 ∷ []) ≡ 5
  pub bare : address_behind (code.Instr instr.Nop) [] 256 0 ≡ 257
  pub items : address_behind code.Data (text ∷ byte ∷ word ∷ []) 256 0 ≡ 262
  pub space : address_behind code.Space (word ∷ []) 256 3 ≡ 259
  pub org : address_behind code.Org (word ∷ []) 256 3 ≡ 3
  pub equ : address_behind (code.Equ (codes "X")) (word ∷ []) 256 3 ≡ 256
  pub set : address_behind (code.Set (codes "X")) (word ∷ []) 256 3 ≡ 256
  pub label : address_behind code.Nothing [] 256 3 ≡ 256
  pub end : address_behind code.End (word ∷ []) 256 3 ≡ 256

-- a label stands at 65,535 at most, and bytes and spaces end at 65,536 at most
pub record RoomByExample : Type 0 where
  pub last : HasRoom (place x (code.Instr instr.Nop) [] 65535 0)
  pub past : ¬ HasRoom (place None mvi (byte ∷ []) 65535 0)
  pub label : HasRoom (place x code.Nothing [] 65535 0)
  pub label_past : ¬ HasRoom (place x code.Nothing [] 65536 0)
  pub space : HasRoom (place None code.Space (word ∷ []) 65535 1)
  pub space_past : ¬ HasRoom (place None code.Space (word ∷ []) 65535 2)
  pub at_the_end : HasRoom (place None (code.Set (codes "X")) (word ∷ []) 65536 0)

-- which statements use the names above alone, and the value of the name that each defines
pub record UsesByExample : Type 0 where
  pub equ : uses_names_above (code.Equ (codes "X")) ≡ true
  pub set : uses_names_above (code.Set (codes "X")) ≡ true
  pub org : uses_names_above code.Org ≡ true
  pub space : uses_names_above code.Space ≡ true
  pub instruction : uses_names_above lxi ≡ false
  pub items : uses_names_above code.Data ≡ false
  pub end : uses_names_above code.End ≡ false
  pub label_value : defined_value lxi 256 3 ≡ 256
  pub space_value : defined_value code.Space 256 3 ≡ 256
  pub equ_value : defined_value (code.Equ (codes "X")) 256 3 ≡ 3
  pub set_value : defined_value (code.Set (codes "X")) 256 3 ≡ 3

-- a name may be defined again by SET alone, and then has its last value
pub record DefinitionsByExample : Type 0 where
  pub again : is_taken (definition (codes "X") 1 false ∷ []) x false ≡ true
  pub set_after : is_taken (definition (codes "X") 1 false ∷ []) x true ≡ true
  pub after_set : is_taken (definition (codes "X") 1 true ∷ []) x false ≡ true
  pub both_set : is_taken (definition (codes "X") 1 true ∷ []) x true ≡ false
  pub another : is_taken (definition (codes "Y") 1 false ∷ []) x false ≡ false
  pub unnamed : is_taken (definition (codes "X") 1 false ∷ []) None false ≡ false
  pub last : value_in (symbols (definition (codes "X") 1 true ∷ definition (codes "Y") 2 false ∷ definition (codes "X") 3 true ∷ [])) (codes "X") ≡ Some 3
  pub none : value_in (symbols (definition (codes "Y") 2 false ∷ [])) (codes "X") ≡ None
  pub order : symbols (definition (codes "X") 1 true ∷ definition (codes "Y") 2 false ∷ definition (codes "X") 3 true ∷ []) ≡ (codes "X", 3) ∷ (codes "Y", 2) ∷ []
  pub by_others : fixed (definition (codes "X") 1 true ∷ definition (codes "Y") 2 false ∷ []) ≡ definition (codes "Y") 2 false ∷ []
  pub by_set_alone : by_set (definition (codes "X") 1 true ∷ definition (codes "Y") 2 false ∷ []) ≡ definition (codes "X") 1 true ∷ []

-- a byte is 0 to 255 or FF00H to FFFFH, the number of RST 0 to 7, a word any value
pub record RangesByExample : Type 0 where
  pub byte_255 : is_in_range byte 255 ≡ true
  pub byte_256 : is_in_range byte 256 ≡ false
  pub byte_feff : is_in_range byte 65279 ≡ false
  pub byte_ff00 : is_in_range byte 65280 ≡ true
  pub byte_ffff : is_in_range byte 65535 ≡ true
  pub restart_7 : is_in_range restart 7 ≡ true
  pub restart_8 : is_in_range restart 8 ≡ false
  pub restart_ffff : is_in_range restart 65535 ≡ false
  pub word_256 : is_in_range word 256 ≡ true
  pub each : are_in_range (byte ∷ byte ∷ []) (255 ∷ 256 ∷ []) ≡ false
  pub all : are_in_range (byte ∷ word ∷ byte ∷ []) (255 ∷ 256 ∷ 65280 ∷ []) ≡ true

-- words have their low byte first, bytes of FF00H to FFFFH their low byte
pub record BytesByExample : Type 0 where
  pub word_bytes : item_bytes word 0x1234 ≡ 0x34 ∷ 0x12 ∷ []
  pub byte_bytes : item_bytes byte 0xFF41 ≡ 0x41 ∷ []
  pub text_bytes : item_bytes text 0 ≡ 65 ∷ 66 ∷ 67 ∷ []
  pub items : bytes_by code.Data (text ∷ byte ∷ word ∷ []) (0 ∷ 0xFFFE ∷ 0x1234 ∷ []) ≡ 65 ∷ 66 ∷ 67 ∷ 0xFE ∷ 0x34 ∷ 0x12 ∷ []
  pub immediate_byte : bytes_by mvi (byte ∷ []) (0xFFFE ∷ []) ≡ 0x06 ∷ 0xFE ∷ []
  pub immediate_word : bytes_by lxi (word ∷ []) (0x1234 ∷ []) ≡ 0x21 ∷ 0x34 ∷ 0x12 ∷ []
  pub restart_byte : bytes_by (code.Instr (instr.Rst 0)) (restart ∷ []) (5 ∷ []) ≡ 0xEF ∷ []
  pub space : bytes_by code.Space (word ∷ []) [] ≡ []
  pub item : kind_by lxi (0x1234 ∷ []) ≡ kind.Instr (instr.Lxi pair.H 0x1234)
  pub label : kind_by code.Nothing [] ≡ kind.Label
  pub bytes : kind_by code.Data (0 ∷ []) ≡ kind.Bytes
  pub spaces : kind_by code.Space [] ≡ kind.Space
  pub orgs : kind_by code.Org [] ≡ kind.Org
  pub others : kind_by code.End [] ≡ kind.Other
  pub equs : kind_by (code.Equ (codes "X")) [] ≡ kind.Other

-- a statement of this line
abbrev pub statement : ℕ → Option (List ℕ) → Code → List Operand → Statement
statement number label what operands = record { line = record { 0 = number }; label = label; code = what; operands = operands }

-- a place with the values of its operands
abbrev pub row : Statement → ℕ → ℕ → List ℕ → Row
row s address value values = record { place = record { statement = s; address = address; value = value }; values = values }

abbrev pub nop : Code
nop = code.Instr instr.Nop

abbrev pub number : ℕ → Operand
number n = operand.Word (words.Number n ∷ [])

abbrev pub named : Operand
named = operand.Word (words.Name (codes "X") ∷ [])

-- ORG 16 and X: DW X,$: a label and `$` are addresses, and bytes stand in the image from there on
abbrev pub org : Statement
org = statement 1 None code.Org (number 16 ∷ [])

abbrev pub words_of : Statement
words_of = statement 2 x code.Data (named ∷ word ∷ [])

abbrev pub rows : List Row
rows = row org 0 16 [] ∷ row words_of 16 0 (16 ∷ 16 ∷ []) ∷ []

pub record AssembliesByExample : Type 0 where
  pub assembly : IsAssembly (org ∷ words_of ∷ []) rows
  pub bytes : cells_of (map row_data rows) ≡ (16, 16) ∷ (17, 0) ∷ (18, 16) ∷ (19, 0) ∷ []
  pub names : names_of rows ≡ (codes "X", 16) ∷ []

-- statements that are refused, with the line and the kind
pub record CausesByExample : Type 0 where
  -- X: and X:
  pub twice : FirstRound (statement 1 x code.Nothing [] ∷ statement 2 x code.Nothing [] ∷ []) 2 Duplicate
  -- ORG X and X:
  pub later : FirstRound (statement 1 None code.Org (named ∷ []) ∷ statement 2 x code.Nothing [] ∷ []) 1 Later
  -- ORG X
  pub undefined : FirstRound (statement 1 None code.Org (named ∷ []) ∷ []) 1 Undefined
  -- ORG 65535 and MVI B,$
  pub past_end : FirstRound (statement 1 None code.Org (number 65535 ∷ []) ∷ statement 2 None mvi (byte ∷ []) ∷ []) 2 PastEnd
  -- DW X
  pub undefined_item : SecondRound (statement 1 None code.Data (named ∷ []) ∷ []) 1 Undefined
  -- DB 256
  pub range : SecondRound (statement 1 None code.Data (operand.Byte (words.Number 256 ∷ []) ∷ []) ∷ []) 1 Range
  -- NOP, ORG 0 and NOP
  pub overlap : SecondRound (statement 1 None nop [] ∷ statement 2 None code.Org (number 0 ∷ []) ∷ statement 3 None nop [] ∷ []) 3 Overlap
