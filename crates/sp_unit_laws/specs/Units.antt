-- The unit of a source: its instructions are the source's, and an example with twins.
use Rattle.std.specs.Prelude.{◌≡◌, ℕ, true, List, [], ◌∷◌, ◌++◌, Some, None, Contains, codes}
use Rattle.std.specs.List.{filter_map}
use Rattle.sp_isa.specs.declared.instr.Instr.{Instr}
use Rattle.sp_isa.specs.declared.instr.Instr.TheVariants as instr
use Rattle.sp_asm.specs.declared.listing.Item.{Item}
use Rattle.sp_asm.specs.declared.listing.ItemKind.TheVariants as kind
use Rattle.sp_note.specs.Parts.{Stack, Byte, Bytes, Routine, Start, End}
use Rattle.sp_prog.specs.declared.routine.Routine as declared
use Rattle.sp_prog.specs.declared.routine.Stmt.{Stmt}
use Rattle.sp_prog.specs.Program.{Program, program}
use Rattle.sp_prog.specs.Rules.{instructions}
use Rattle.sp_unit.specs.Faults.{Source}
use Rattle.sp_unit.specs.Lines.{Entry, Statement, item_in}
use Rattle.sp_unit.specs.SourceUnits.{IsUnitOf}
use Rattle.sp_unit_laws.specs.Breaks.{num, source, flag, table, main}
use Rattle.sp_unit_laws.specs.Routines.{at, says, begun, areas, nothing, stmt, routine}

-- ---- Instructions

-- an instruction of a unit is that of a statement
pub record IsOfItem (item : Item) (stmt : Stmt) : Type 0 where
  pub line : stmt.line ≡ item.line
  pub address : stmt.addr ≡ item.addr
  pub instr : item.kind ≡ kind.Instr stmt.instr

-- each statement that is an instruction is one of the unit's, and each of the unit's is a statement
pub record HasInstructionsOf (items : List Item) (stmts : List Stmt) : Type 0 where
  pub each : (item : Item) (i : Instr) → Contains items item → item.kind ≡ kind.Instr i → (s : Stmt) × Contains stmts s × IsOfItem item s
  pub only : (s : Stmt) → Contains stmts s → (item : Item) × Contains items item × IsOfItem item s

abbrev pub UnitsHaveTheirInstructions : Type 0
UnitsHaveTheirInstructions = (s : Source) (entries : List Entry) (p : Program) → IsUnitOf s entries p → HasInstructionsOf (filter_map item_in entries) (instructions p)

-- ---- An example

abbrev pub first : List ℕ
first = codes "FIRST"

-- stack, FLAG and TABLE; the routine MAIN at 5; then FIRST at 2, a start routine of HLT without an annotation
abbrev pub entries : List Entry
entries =
    says 0 (Stack (num 100) (num 200)) ∷ says 1 (Byte flag (num 300)) ∷ says 2 (Bytes table (num 0) (num 2))
    ∷ says 3 (Routine main) ∷ (begun.below ++ says 18 (Routine first) ∷ says 19 Start
    ∷ Statement (record { line = at 20; addr = 2; label = Some first; kind = kind.Instr instr.Hlt }) ∷ says 21 End ∷ [])

abbrev pub halts : declared.Routine
halts = record {
  name = first;
  line = at 18;
  start = true;
  pre = [];
  post = [];
  reads = nothing;
  changes = nothing;
  ins = [];
  outs = [];
  depth = 0;
  code = stmt 20 2 instr.Hlt [] ∷ [];
}

-- a program with the source's image and this stack region
abbrev pub with : ℕ → ℕ → List declared.Routine → Program
with from to routines = program source.image from to areas routines

abbrev pub IsOurs : Program → Type 0
IsOurs p = IsUnitOf source entries p

pub record UnitsByExample : Type 0 where
  pub whole : IsOurs (with 100 200 (halts ∷ routine ∷ []))
  pub source_order : ¬ IsOurs (with 100 200 (routine ∷ halts ∷ []))
  pub one_routine : ¬ IsOurs (with 100 200 (halts ∷ []))
  pub twice : ¬ IsOurs (with 100 200 (halts ∷ routine ∷ routine ∷ []))
  pub other_first : ¬ IsOurs (with 99 200 (halts ∷ routine ∷ []))
  pub other_last : ¬ IsOurs (with 100 201 (halts ∷ routine ∷ []))
  pub no_area : ¬ IsOurs (record (with 100 200 (halts ∷ routine ∷ [])) { areas = [] })
  -- an instruction after the last `end` breaks a rule
  pub instruction_outside : (p : Program) → ¬ IsUnitOf source (entries ++ Statement (record { line = at 22; addr = 3; label = None; kind = kind.Instr instr.Hlt }) ∷ []) p
