-- A program that keeps the rules of units, and twins that break one each.
use Rattle.std.specs.Prelude.{ℕ, true, false, List, [], ◌∷◌, map, codes, Box}
use Rattle.std.specs.declared.alloc.Global.{Global}
use Rattle.std.specs.List.{range_with_len}
use Rattle.std.specs.FinMap as maps
use Rattle.sp_base.specs.declared.line.Line.{Line}
use Rattle.sp_base.specs.declared.location.Loc.TheVariants as loc
use Rattle.sp_base.specs.declared.location.Reg.TheVariants as reg
use Rattle.sp_base.specs.declared.pair.Pair.TheVariants as pair
use Rattle.sp_base.specs.Cells.{cells_at}
use Rattle.sp_base.specs.Locs.{none}
use Rattle.sp_isa.specs.declared.instr.Arg.TheVariants as arg
use Rattle.sp_isa.specs.declared.instr.Instr.{Instr}
use Rattle.sp_isa.specs.declared.instr.Instr.TheVariants.{Mvi, Lxi, Ret, Hlt, Dcr, Rst}
use Rattle.sp_logic.specs.declared.note.Comparison.TheVariants as comparison
use Rattle.sp_logic.specs.declared.note.Moment.TheVariants as moment
use Rattle.sp_logic.specs.declared.note.Operator.TheVariants as operator
use Rattle.sp_logic.specs.declared.note.Note.TheVariants as note
use Rattle.sp_logic.specs.declared.note.Quantity.{Quantity}
use Rattle.sp_logic.specs.declared.note.Quantity.TheVariants as quantity
use Rattle.sp_prog.specs.declared.area.Area.{Area}
use Rattle.sp_prog.specs.declared.area.AreaKind.{AreaKind}
use Rattle.sp_prog.specs.declared.area.AreaKind.TheVariants as kind
use Rattle.sp_prog.specs.declared.routine.Lists.{Lists}
use Rattle.sp_prog.specs.declared.routine.Noted.{Noted}
use Rattle.sp_prog.specs.declared.routine.Routine.{Routine}
use Rattle.sp_prog.specs.declared.routine.Stmt.{Stmt}
use Rattle.sp_prog.specs.Program.{Program}
use Rattle.sp_prog.specs.Rules.{IsUnit}

abbrev pub at : ℕ → Line
at line = record { 0 = line }

-- x = 5
abbrev pub is_five : ℕ → Quantity → Noted
is_five line x = record { line = at line; note = note.Compare comparison.Equal x (quantity.Literal 5) }

abbrev pub a : Quantity
a = quantity.Location moment.Now loc.A

abbrev pub first_word : Quantity
first_word = quantity.StackWord 1

-- an unbound name, and a product of which neither factor is too large, wherever the factors are kept
abbrev pub unbound : Quantity
unbound = quantity.Bound (codes "I")

abbrev pub huge : Box (Unit {0}) Global → Box (Unit {0}) Global → Quantity
huge one other = quantity.Operate' operator.Multiply one (quantity.Literal 1152921504606846976) other (quantity.Literal 1152921504606846976)

abbrev pub stmt : ℕ → ℕ → Instr → List Noted → Stmt
stmt line addr i asserts = record { line = at line; addr = addr; instr = i; asserts = asserts }

abbrev pub listing : List ℕ → Lists
listing places = record { locs = none; areas = places }

-- LXI SP,2400H and HLT at 0, a start routine
abbrev pub start : Routine
start = record {
  name = codes "START";
  line = at 5;
  start = true;
  pre = is_five 6 a ∷ [];
  post = [];
  reads = listing [];
  changes = listing [];
  ins = [];
  outs = [];
  depth = 0;
  code = stmt 8 0 (Lxi pair.Sp 0x2400) [] ∷ stmt 10 3 Hlt (is_five 9 a ∷ []) ∷ [];
}

-- MVI A,5 and RET at 4
abbrev pub five : Routine
five = record {
  name = codes "FIVE";
  line = at 12;
  start = false;
  pre = is_five 13 a ∷ is_five 14 a ∷ [];
  post = is_five 15 a ∷ [];
  reads = listing (1 ∷ 0 ∷ []);
  changes = listing (0 ∷ []);
  ins = 1 ∷ 1 ∷ [];
  outs = 255 ∷ [];
  depth = 2;
  code = stmt 20 4 (Mvi (arg.Reg reg.A) 5) [] ∷ stmt 21 6 Ret (is_five 19 first_word ∷ []) ∷ [];
}

-- DCR B at 5, inside the code of the MVI
abbrev pub inside : Routine
inside = record five { name = codes "INSIDE"; code = stmt 30 5 (Dcr (arg.Reg reg.B)) [] ∷ [] }

abbrev pub area : List ℕ → AreaKind → ℕ → ℕ → Area
area name kind addr len = record { name = name; kind = kind; addr = addr; len = len }

abbrev pub cells : List (ℕ × ℕ)
cells = cells_at 0 (0x31 ∷ 0x00 ∷ 0x24 ∷ 0x76 ∷ 0x3E ∷ 0x05 ∷ 0xC9 ∷ [])

-- a word outside the image, and bytes in it
abbrev pub counter : Area
counter = area (codes "COUNTER") kind.Word 0x22FE 2

abbrev pub table : Area
table = area (codes "TABLE") kind.Bytes 4 3

-- stack from 2300H to 23FFH, these areas and routines
abbrev pub with : List Area → List Routine → Program
with areas routines = record { image = maps.from_sorted cells; first = 0x2300; last = 0x23FF; areas = areas; routines = routines }

abbrev pub example : Program
example = with (counter ∷ table ∷ []) (start ∷ five ∷ [])

-- the example with another area in place of the word, or with another routine in place of one of its routines
abbrev pub with_area : Area → Program
with_area x = with (x ∷ table ∷ []) (start ∷ five ∷ [])

abbrev pub with_start : Routine → Program
with_start r = with (counter ∷ table ∷ []) (r ∷ five ∷ [])

abbrev pub with_five : Routine → Program
with_five r = with (counter ∷ table ∷ []) (start ∷ r ∷ [])

-- so many annotations on lines of their own
abbrev pub notes : ℕ → List Noted
notes n = map (λ line. is_five line a) (range_with_len 100 n)

-- the stack region, and areas
pub record KeepsRegionsApart : Type 0 where
  pub whole : IsUnit example
  pub stack_backwards : ¬ IsUnit (record example { first = 0x2400 })
  pub stack_to_the_end : ¬ IsUnit (record example { last = 65535 })
  pub stack_in_image : ¬ IsUnit (record example { first = 6 })
  pub empty_area : ¬ IsUnit (with_area (area (codes "COUNTER") kind.Bytes 0x2200 0))
  pub word_of_one : ¬ IsUnit (with_area (area (codes "COUNTER") kind.Word 0x2200 1))
  pub byte_of_two : ¬ IsUnit (with_area (area (codes "COUNTER") kind.Byte 0x2200 2))
  pub last_cell : IsUnit (with_area (area (codes "COUNTER") kind.Bytes 65535 1))
  pub area_past_the_end : ¬ IsUnit (with_area (area (codes "COUNTER") kind.Bytes 65535 2))
  pub area_in_stack : ¬ IsUnit (with_area (area (codes "COUNTER") kind.Word 0x22FF 2))
  pub one_name : ¬ IsUnit (with_area (area (codes "TABLE") kind.Word 0x22FE 2))
  pub changed_in_image : ¬ IsUnit (with_five (record five { changes = listing (1 ∷ []) }))
  pub no_area : ¬ IsUnit (with_five (record five { reads = listing (2 ∷ []) }))
  pub area_twice : ¬ IsUnit (with_five (record five { changes = listing (0 ∷ 0 ∷ []) }))

-- instructions
pub record KeepsCode : Type 0 where
  pub without_code : ¬ IsUnit (with_five (record five { code = [] }))
  pub gap : ¬ IsUnit (with (counter ∷ table ∷ []) (record start { code = stmt 8 0 (Lxi pair.Sp 0x2400) [] ∷ stmt 20 4 (Mvi (arg.Reg reg.A) 5) [] ∷ [] } ∷ []))
  pub other_code : ¬ IsUnit (with_five (record five { code = stmt 20 4 (Mvi (arg.Reg reg.A) 6) [] ∷ [] }))
  pub no_instruction : ¬ IsUnit (with_five (record five { code = stmt 20 4 (Rst 8) [] ∷ [] }))
  pub shared_byte : ¬ IsUnit (with (counter ∷ table ∷ []) (start ∷ five ∷ inside ∷ []))
  pub not_rising : ¬ IsUnit (with (counter ∷ table ∷ []) (five ∷ start ∷ []))
  pub one_label : ¬ IsUnit (with_five (record five { name = codes "START" }))
  pub one_line : ¬ IsUnit (with_five (record five { code = stmt 8 4 (Mvi (arg.Reg reg.A) 5) [] ∷ [] }))

-- annotations
pub record KeepsNotes : Type 0 where
  pub word_in_pre : ¬ IsUnit (with_five (record five { pre = is_five 13 first_word ∷ [] }))
  pub word_in_post : ¬ IsUnit (with_five (record five { post = is_five 13 first_word ∷ [] }))
  pub not_closed : ¬ IsUnit (with_five (record five { pre = is_five 13 unbound ∷ [] }))
  pub too_wide : (one other : Box (Unit {0}) Global) → ¬ IsUnit (with_five (record five { post = is_five 13 (huge one other) ∷ [] }))
  pub lines_fall : ¬ IsUnit (with_five (record five { pre = is_five 14 a ∷ is_five 13 a ∷ [] }))
  pub many : IsUnit (with_five (record five { pre = notes 64; post = notes 64; code = stmt 20 4 (Mvi (arg.Reg reg.A) 5) (notes 64) ∷ [] }))
  pub pre_65 : ¬ IsUnit (with_five (record five { pre = notes 65 }))
  pub post_65 : ¬ IsUnit (with_five (record five { post = notes 65 }))
  pub asserts_65 : ¬ IsUnit (with_five (record five { code = stmt 20 4 (Mvi (arg.Reg reg.A) 5) (notes 65) ∷ [] }))
  pub start_with_post : ¬ IsUnit (with_start (record start { post = is_five 7 a ∷ [] }))
  pub start_with_first_assert : ¬ IsUnit (with_start (record start { code = stmt 8 0 (Lxi pair.Sp 0x2400) (is_five 7 a ∷ []) ∷ [] }))
