-- What a trial is of (this project's own).
use Rattle.std.specs.Prelude.{ℕ, List, [], ◌∷◌, ◌==◌, if◌then◌else◌}
use Rattle.sp_isa.specs.Core.{Core}
use Rattle.sp_model.specs.Good as good
use Rattle.sp_model.specs.Note.{Frame}
use Rattle.sp_model.specs.State.{State}
use Rattle.sp_model.specs.Unit as runs
use Rattle.sp_prog.specs.declared.routine.Noted.{Noted}
use Rattle.sp_prog.specs.declared.routine.Routine.{Routine}
use Rattle.sp_prog.specs.declared.routine.Stmt.{Stmt}
use Rattle.sp_prog.specs.Program.{Program}
use Rattle.sp_prog.specs.View.{routine_of, unit_of}
use Rattle.sp_trial.specs.Judged.{Evaluation}

-- a routine of a program, the state from which it is run, and how many nodes each evaluation of an annotation may have
pub record Setup : Type 0 where
  pub program : Program
  pub routine : Routine
  pub start : State
  pub budget : ℕ

-- the run from a machine with these inputs to come, with nothing put out yet
abbrev pub setup : Program → Routine → Core → List ℕ → ℕ → Setup
setup p r core inputs budget = record {
  program = p;
  routine = r;
  start = record { core = core; inputs = inputs; outputs = [] };
  budget = budget;
}

-- the program and the routine in the words of the definitions of runs
abbrev pub unit : Setup → runs.Unit
unit y = unit_of y.program

abbrev pub routine : Setup → runs.Routine
routine y = routine_of y.program.areas y.routine

-- what the routine's annotations are read in
abbrev pub frame : Setup → Frame
frame y = good.frame_of (unit y) (routine y) y.start

-- the evaluation of annotations at a state of the run
abbrev pub at : Setup → State → Evaluation
at y t = record { frame = frame y; budget = y.budget; entry = y.start.core; now = t.core }

-- what is asserted at the instruction with this address, nothing where none has it
abbrev pub asserted_at : List Stmt → ℕ → List Noted
asserted_at [] address = []
asserted_at (stmt ∷ stmts) address = if stmt.addr == address then stmt.asserts else asserted_at stmts address

-- what is asserted at a state's program counter
abbrev pub asserted : Setup → State → List Noted
asserted y t = asserted_at y.routine.code t.core.pc
