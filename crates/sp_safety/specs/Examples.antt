-- A unit that is settled, so that what is asked can be met, and one that isn't (this project's own).
use Rattle.std.specs.Prelude.{◌≡◌, ℕ, ◌<◌, false, All, List, [], ◌∷◌, length, slice_index, codes}
use Rattle.std.specs.FinMap as maps
use Rattle.sp_base.specs.Locs.{none}
use Rattle.sp_graph.specs.declared.sound.Sound.{Sound}
use Rattle.sp_base.specs.declared.location.Reg.TheVariants as reg
use Rattle.sp_isa.specs.declared.instr.Arg.TheVariants as arg
use Rattle.sp_isa.specs.declared.instr.Instr.TheVariants.{Mvi, Ret}
use Rattle.sp_model.specs.Good.{IsEntry}
use Rattle.sp_model.specs.State.{State}
use Rattle.sp_prog.specs.Program.{Program, program}
use Rattle.sp_prog.specs.View.{routine_of, unit_of}
use Rattle.sp_prog.specs.declared.routine.Lists.{Lists}
use Rattle.sp_prog.specs.declared.routine.Routine.{Routine}
use Rattle.sp_prog.specs.declared.routine.Stmt.{Stmt}
use Rattle.sp_safety.specs.Settled.{IsSettled}

abbrev pub lists : Lists
lists = record { locs = none; areas = [] }

abbrev pub ret : Stmt
ret = record { line = record { 0 = 6 }; addr = 0; instr = Ret; asserts = [] }

-- a routine that is a RET at address 0
abbrev pub returning : Routine
returning = record {
  name = codes "R";
  line = record { 0 = 2 };
  start = false;
  pre = [];
  post = [];
  reads = lists;
  changes = lists;
  ins = [];
  outs = [];
  depth = 0;
  code = ret ∷ [];
}

abbrev pub cells : List (ℕ × ℕ)
cells = (0, 0xC9) ∷ []

-- the stack lies from 2300H to 23FFH
abbrev pub unit : Program
unit = program (maps.from_sorted cells) 0x2300 0x23FF [] (returning ∷ [])

abbrev pub depths : Sound
depths = record { depths = (0 ∷ []) ∷ [] }

-- a state at its entry, with this memory
abbrev pub begins : List ℕ → State
begins memory = record {
  core = record {
    b = 0;
    c = 0;
    d = 0;
    e = 0;
    h = 0;
    l = 0;
    a = 0;
    s = 0;
    z = 0;
    ac = 0;
    p = 0;
    cy = 0;
    sp = 0x23FE;
    pc = 0;
    halted = false;
    cells = memory;
  };
  inputs = [];
  outputs = [];
}

-- The unit is settled, and its routine has entries.
pub record PremisesCanBeMet : Type 0 where
  pub settled : IsSettled unit depths
  pub entered :
      (memory : List ℕ) → length memory ≡ 65536 → All (λ byte. byte < 256) memory → slice_index memory 0 ≡ 0xC9
      → IsEntry (unit_of unit) (routine_of [] returning) (begins memory)

-- ---- A twin

abbrev pub five : Stmt
five = record { line = record { 0 = 5 }; addr = 0; instr = Mvi (arg.Reg reg.A) 5; asserts = [] }

-- a routine that puts 5 in A, which it doesn't list in `changes`
abbrev pub changing : Routine
changing = record returning { code = five ∷ record ret { addr = 2 } ∷ [] }

abbrev pub other_cells : List (ℕ × ℕ)
other_cells = (0, 0x3E) ∷ (1, 0x05) ∷ (2, 0xC9) ∷ []

abbrev pub other_unit : Program
other_unit = program (maps.from_sorted other_cells) 0x2300 0x23FF [] (changing ∷ [])

-- No depths make it settled: the condition of its walk is not true in each admissible environment.
abbrev pub TwinsAreNotSettled : Type 0
TwinsAreNotSettled = (sound : Sound) → ¬ IsSettled other_unit sound
