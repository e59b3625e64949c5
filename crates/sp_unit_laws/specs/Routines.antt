-- The routine of a `routine` line, and twins that aren't its.
use Rattle.std.specs.Prelude.{ℕ, true, false, List, [], ◌∷◌, Option, Some, None}
use Rattle.sp_base.specs.declared.line.Line.{Line}
use Rattle.sp_base.specs.declared.location.Loc.TheVariants as loc
use Rattle.sp_base.specs.Locs.{none, only}
use Rattle.sp_isa.specs.declared.instr.Instr.{Instr}
use Rattle.sp_isa.specs.declared.instr.Instr.TheVariants as instr
use Rattle.sp_asm.specs.declared.listing.ItemKind.{ItemKind}
use Rattle.sp_asm.specs.declared.listing.ItemKind.TheVariants as kind
use Rattle.sp_logic.specs.declared.note.Comparison.TheVariants as comparison
use Rattle.sp_logic.specs.declared.note.Moment.TheVariants as moment
use Rattle.sp_logic.specs.declared.note.Note.TheVariants as note
use Rattle.sp_logic.specs.declared.note.Quantity.TheVariants as quantity
use Rattle.sp_model.specs.Note.{Now, Equal}
use Rattle.sp_note.specs.declared.part.Listed.{Listed}
use Rattle.sp_note.specs.declared.part.Listed.TheVariants as listed
use Rattle.sp_note.specs.Parts.{Part, Pre, Post, Reads, Changes, Ins, Outs, Depth, Assert, End}
use Rattle.sp_note.specs.RawNotes.{RawNote, Literal, Location, Compare}
use Rattle.sp_prog.specs.declared.area.Area.{Area}
use Rattle.sp_prog.specs.declared.routine.Lists.{Lists}
use Rattle.sp_prog.specs.declared.routine.Noted.{Noted}
use Rattle.sp_prog.specs.declared.routine.Routine.{Routine}
use Rattle.sp_prog.specs.declared.routine.Stmt.{Stmt}
use Rattle.sp_unit.specs.Faults.{areas_by}
use Rattle.sp_unit.specs.Lines.{Entry, Statement, Annotation}
use Rattle.sp_unit.specs.SourceUnits.{Begun, IsRoutineOf}
use Rattle.sp_unit_laws.specs.Breaks.{num, source, flag, table, main}

abbrev pub at : ℕ → Line
at line = record { 0 = line }

-- A = n, as its line has it and as a unit has it
abbrev pub raw : ℕ → RawNote
raw n = Compare Equal (Location Now loc.A) (Literal n)

abbrev pub noted : ℕ → ℕ → Noted
noted line n = record { line = at line; note = note.Compare comparison.Equal (quantity.Location moment.Now loc.A) (quantity.Literal n) }

abbrev pub says : ℕ → Part → Entry
says line part = Annotation (record { line = line; part = part })

abbrev pub statement : ℕ → ℕ → Option (List ℕ) → ItemKind → Entry
statement line a label what = Statement (record { line = at line; addr = a; label = label; kind = what })

-- FLAG, then TABLE
abbrev pub areas : List Area
areas = areas_by source.value source.notes

abbrev pub items : List Listed
items = listed.Locs (only loc.A) ∷ listed.Area table ∷ listed.Area flag ∷ listed.Area table ∷ []

-- pre A = 1; post A = 3; reads A, TABLE, FLAG, TABLE; changes FLAG; ins 7, 8; outs 9; depth 2; MAIN: NOP; two assertions with a
-- label between them; RET; NOP; end
abbrev pub begun : Begun
begun = record {
  name = main;
  line = 3;
  below = says 4 (Pre (raw 1)) ∷ says 5 (Post (raw 3)) ∷ says 6 (Reads items) ∷ says 7 (Changes (listed.Area flag ∷ []))
      ∷ says 8 (Ins (num 7 ∷ num 8 ∷ [])) ∷ says 9 (Outs (num 9 ∷ [])) ∷ says 10 (Depth (num 2))
      ∷ statement 11 5 (Some main) (kind.Instr instr.Nop) ∷ says 12 (Assert (raw 2)) ∷ statement 13 6 None kind.Label ∷ says 14 (Assert (raw 4))
      ∷ statement 15 6 None (kind.Instr instr.Ret) ∷ statement 16 7 None (kind.Instr instr.Nop) ∷ says 17 End ∷ [];
}

abbrev pub lists : List ℕ → Lists
lists places = record { locs = only loc.A; areas = places }

abbrev pub nothing : Lists
nothing = record { locs = none; areas = [] }

abbrev pub stmt : ℕ → ℕ → Instr → List Noted → Stmt
stmt line addr i asserts = record { line = at line; addr = addr; instr = i; asserts = asserts }

-- its instructions, with these assertions at the first and at the second
abbrev pub code : List Noted → List Noted → List Stmt
code one other = stmt 11 5 instr.Nop one ∷ stmt 15 6 instr.Ret other ∷ stmt 16 7 instr.Nop [] ∷ []

abbrev pub routine : Routine
routine = record {
  name = main;
  line = at 3;
  start = false;
  pre = noted 4 1 ∷ [];
  post = noted 5 3 ∷ [];
  reads = lists (1 ∷ 0 ∷ []);
  changes = record { locs = none; areas = 0 ∷ [] };
  ins = 7 ∷ 8 ∷ [];
  outs = 9 ∷ [];
  depth = 2;
  code = code [] (noted 12 2 ∷ noted 14 4 ∷ []);
}

abbrev pub Is : Routine → Type 0
Is r = IsRoutineOf source areas begun r

pub record RoutinesByExample : Type 0 where
  pub whole : Is routine
  pub other_line : ¬ Is (record routine { line = at 4 })
  pub started : ¬ Is (record routine { start = true })
  pub without_pre : ¬ Is (record routine { pre = [] })
  pub other_pre : ¬ Is (record routine { pre = noted 4 2 ∷ [] })
  pub other_pre_line : ¬ Is (record routine { pre = noted 5 1 ∷ [] })
  pub without_post : ¬ Is (record routine { post = [] })
  pub pre_and_post : ¬ Is (record routine { pre = noted 5 3 ∷ []; post = noted 4 1 ∷ [] })
  pub other_order : ¬ Is (record routine { reads = lists (0 ∷ 1 ∷ []) })
  pub area_twice : ¬ Is (record routine { reads = lists (1 ∷ 0 ∷ 1 ∷ []) })
  pub reads_as_changes : ¬ Is (record routine { changes = lists (1 ∷ 0 ∷ []) })
  pub without_change : ¬ Is (record routine { changes = nothing })
  pub ports_as_outs : ¬ Is (record routine { outs = 7 ∷ 8 ∷ [] })
  pub one_port : ¬ Is (record routine { ins = 7 ∷ [] })
  pub other_depth : ¬ Is (record routine { depth = 0 })
  -- an assertion is of the instruction below it, and of that one alone
  pub assertion_above : ¬ Is (record routine { code = code (noted 12 2 ∷ []) (noted 14 4 ∷ []) })
  pub assertions_above : ¬ Is (record routine { code = code (noted 12 2 ∷ noted 14 4 ∷ []) [] })
  pub one_assertion : ¬ Is (record routine { code = code [] (noted 14 4 ∷ []) })
  pub two_instructions : ¬ Is (record routine { code = stmt 11 5 instr.Nop [] ∷ stmt 15 6 instr.Ret (noted 12 2 ∷ noted 14 4 ∷ []) ∷ [] })
  pub other_instruction : ¬ Is (record routine { code = stmt 11 5 instr.Ret [] ∷ stmt 15 6 instr.Ret (noted 12 2 ∷ noted 14 4 ∷ []) ∷ stmt 16 7 instr.Nop [] ∷ [] })
  pub other_address : ¬ Is (record routine { code = stmt 11 4 instr.Nop [] ∷ stmt 15 6 instr.Ret (noted 12 2 ∷ noted 14 4 ∷ []) ∷ stmt 16 7 instr.Nop [] ∷ [] })
  pub other_code_line : ¬ Is (record routine { code = stmt 12 5 instr.Nop [] ∷ stmt 15 6 instr.Ret (noted 12 2 ∷ noted 14 4 ∷ []) ∷ stmt 16 7 instr.Nop [] ∷ [] })
