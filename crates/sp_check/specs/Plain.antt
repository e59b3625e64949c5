-- A unit without the places in memory at which its annotations lie (this project's own).
use Rattle.std.specs.Prelude.{ℕ, Bool, List, map}
use Rattle.sp_base.specs.declared.line.Line.{Line}
use Rattle.sp_base.specs.Image.{ImageMap}
use Rattle.sp_isa.specs.declared.instr.Instr.{Instr}
use Rattle.sp_logic.specs.View.{note_of}
use Rattle.sp_model.specs.Note.{Note}
use Rattle.sp_prog.specs.declared.area.Area.{Area}
use Rattle.sp_prog.specs.declared.routine.Lists.{Lists}
use Rattle.sp_prog.specs.declared.routine.Noted.{Noted}
use Rattle.sp_prog.specs.declared.routine.Routine.{Routine}
use Rattle.sp_prog.specs.declared.routine.Stmt.{Stmt}
use Rattle.sp_prog.specs.Program.{Program}

-- an annotation, as a tree
pub record PlainNote : Type 0 where
  pub line : Line
  pub note : Note

pub record PlainStmt : Type 0 where
  pub line : Line
  pub addr : ℕ
  pub instr : Instr
  pub asserts : List PlainNote

pub record PlainRoutine : Type 0 where
  pub name : List ℕ
  pub line : Line
  pub start : Bool
  pub pre : List PlainNote
  pub post : List PlainNote
  pub reads : Lists
  pub changes : Lists
  pub ins : List ℕ
  pub outs : List ℕ
  pub depth : ℕ
  pub code : List PlainStmt

pub record PlainUnit : Type 0 where
  pub image : ImageMap
  pub first : ℕ
  pub last : ℕ
  pub areas : List Area
  pub routines : List PlainRoutine

abbrev pub plain_note : Noted → PlainNote
plain_note n = record { line = n.line; note = note_of n.note }

abbrev pub plain_stmt : Stmt → PlainStmt
plain_stmt s = record { line = s.line; addr = s.addr; instr = s.instr; asserts = map plain_note s.asserts }

abbrev pub plain_routine : Routine → PlainRoutine
plain_routine r = record {
  name = r.name;
  line = r.line;
  start = r.start;
  pre = map plain_note r.pre;
  post = map plain_note r.post;
  reads = r.reads;
  changes = r.changes;
  ins = r.ins;
  outs = r.outs;
  depth = r.depth;
  code = map plain_stmt r.code;
}

-- all that a unit holds, its annotations as trees
abbrev pub plain : Program → PlainUnit
plain p = record {
  image = p.image;
  first = p.first;
  last = p.last;
  areas = p.areas;
  routines = map plain_routine p.routines;
}
