-- The program of a source of the first form: its instructions, image and unit, and whether it meets its annotations.
use Rattle.std.specs.Prelude.{◌≡◌, ℕ, ◌+◌, Bool, false, List, [], ◌∷◌, ◌++◌, map, reverse, length, flat_map, Contains, Option, Some, None, if◌then◌else◌, ◌==◌}
use Rattle.std.specs.List.{enumerate_from, AllByRecursion}
use Rattle.std.specs.FinMap as maps
use Rattle.sp_base.specs.declared.location.Reg.{Reg}
use Rattle.sp_base.specs.Location.{loc_of}
use Rattle.sp_base.specs.Image.{ImageMap}
use Rattle.sp_isa.specs.declared.instr.Arg.TheVariants as arg
use Rattle.sp_isa.specs.declared.instr.Instr.{Instr}
use Rattle.sp_isa.specs.declared.instr.Instr.TheVariants as instr
use Rattle.sp_first.specs.declared.transfer.Transfer.{Transfer}
use Rattle.sp_first.specs.declared.transfer.Transfer.TheVariants.{Mvi, Mov}
use Rattle.sp_isa.specs.Code.{code, reg_code}
use Rattle.sp_model.specs.Note.{Equal, Now, Literal, Location, Compare}
use Rattle.sp_model.specs.Unit.{Stmt, Routine, Unit}
use Rattle.sp_first.specs.Form.{Form, Move, Load, Copy, number_of}

-- what a source says, with its numbers read, and its instructions before RET
pub record Reading : Type 0 where
  pub name : List ℕ
  pub post : Reg
  pub value : ℕ
  pub changes : List Reg
  pub program : List Transfer

abbrev pub transfer_of : Move → Transfer
transfer_of (Load to digits) = Mvi to (number_of digits)
transfer_of (Copy to from) = Mov to from

abbrev pub reading_of : Form → Reading
reading_of f = record { name = f.name; post = f.post; value = number_of f.digits; changes = f.changes; program = map transfer_of f.moves }

abbrev pub instr_of : Transfer → Instr
instr_of (Mvi to byte) = instr.Mvi (arg.Reg to) byte
instr_of (Mov to from) = instr.Mov (arg.Reg to) (arg.Reg from)

-- all instructions, RET the last
abbrev pub instrs_of : List Transfer → List Instr
instrs_of transfers = map instr_of transfers ++ instr.Ret ∷ []

abbrev pub instrs : Reading → List Instr
instrs r = instrs_of r.program

-- the instructions' codes, from address 0 on
abbrev pub image_of : Reading → ImageMap
image_of r = maps.from_entries (enumerate_from 0 (flat_map code (instrs r)))

-- each instruction at its address, the first at this one
abbrev pub stmts_from : ℕ → List Instr → List Stmt
stmts_from address [] = []
stmts_from address (i ∷ is) = record { address = address; instr = i; asserts = [] } ∷ stmts_from (address + length (code i)) is

abbrev pub routine_of : Reading → Routine
routine_of r = record {
  name = r.name;
  address = 0;
  start = false;
  pre = [];
  post = Compare Equal (Location Now (loc_of r.post)) (Literal r.value) ∷ [];
  reads = record { locs = []; areas = [] };
  changes = record { locs = map loc_of r.changes; areas = [] };
  ins = [];
  outs = [];
  depth = 0;
  code = stmts_from 0 (instrs r);
}

-- the stack region is 2300H to 23FFH
abbrev pub unit_of : Reading → Unit
unit_of r = record { image = image_of r; first = 0x2300; last = 0x23FF; areas = []; routines = routine_of r ∷ [] }

abbrev pub same_reg : Reg → Reg → Bool
same_reg x y = reg_code x == reg_code y

-- what a register has after instructions, the last of them first: the byte of the last MVI to it, or what the register
-- had that the last MOV copied to it; None where no instruction sets it
abbrev pub last_value : List Transfer → Reg → Option ℕ
last_value [] r = None
last_value (Mvi to byte ∷ earlier) r = if same_reg to r then Some byte else last_value earlier r
last_value (Mov to from ∷ earlier) r = if same_reg to r then last_value earlier from else last_value earlier r

-- an instruction sets only a register of the list
abbrev pub SetsListed : List Reg → Transfer → Type 0
SetsListed listed (Mvi to byte) = Contains listed to
SetsListed listed (Mov to from) = Contains listed to

-- the register of the postcondition has its value at last, and each register that is set is listed
pub record Meets (r : Reading) : Type 0 where
  pub post : last_value (reverse r.program) r.post ≡ Some r.value
  pub listed : AllByRecursion (SetsListed r.changes) r.program
