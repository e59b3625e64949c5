-- Where runs start and end, and their texts.
use Rattle.std.specs.Prelude.{◌≡◌, ◌↔◌, ℕ, ◌+◌, ◌<◌, Bool, true, false, List, [], ◌∷◌, ◌++◌, length, Option, Some, None, option_to_list, codes, decimal}
use Rattle.std.specs.FinMap as maps
use Rattle.sp_base.specs.Image.{ImageMap}
use Rattle.sp_base.specs.declared.location.Loc.{Loc}
use Rattle.sp_base.specs.declared.location.Loc.TheVariants as loc
use Rattle.sp_base.specs.declared.location.Reg.{Reg}
use Rattle.sp_base.specs.declared.pair.Pair.{Pair}
use Rattle.sp_isa.specs.Core.{Core, at, cell, reg_of, with_pc}
use Rattle.sp_isa.specs.Operands.{pair_of}
use Rattle.sp_model.specs.State.{State, step}
use Rattle.sp_run.specs.declared.settings.Flag.TheVariants as flag
use Rattle.sp_run.specs.declared.settings.Options.{Options}
use Rattle.sp_run.specs.declared.settings.Setting.{Setting}
use Rattle.sp_run.specs.declared.settings.Setting.TheVariants as setting
use Rattle.sp_run.specs.Run.{EndsAfter, HasStopped}
use Rattle.sp_run.specs.Start.{IsStart, input_of, inputs_of, with_setting}
use Rattle.sp_run.specs.Texts.{run_text}

abbrev pub options : Option ℕ → List Setting → Options
options pc settings = record { pc = pc; steps = 3; settings = settings }

-- a state in which all is 0 but the bytes of an image
pub record HasImageAlone (image : ImageMap) (s : State) : Type 0 where
  pub locations : (x : Loc) → at x s.core ≡ 0
  pub sp : s.core.sp ≡ 0
  pub pc : s.core.pc ≡ 0
  pub running : s.core.halted ≡ false
  pub memory : length s.core.cells ≡ 65536
  pub bytes : (a byte : ℕ) → maps.get image a ≡ Some byte → cell a s.core ≡ byte
  pub zeros : (a : ℕ) → a < 65536 → maps.get image a ≡ None → cell a s.core ≡ 0
  pub inputs : s.inputs ≡ []
  pub outputs : s.outputs ≡ []

-- a run starts with the image alone; a setting after others is made in the state in which they were made, and its input comes
-- after theirs; the counter is set last
pub record StartsWithImage : Type 0 where
  pub image : (image : ImageMap) (s : State) → IsStart image (options None []) s → HasImageAlone image s
  pub some : (s : State) × IsStart maps.empty (options None []) s
  pub setting : (image : ImageMap) (s : State) (settings : List Setting) (one : Setting) → IsStart image (options None settings) s
      → IsStart image (options None (settings ++ one ∷ []))
      (record { core = with_setting one s.core; inputs = s.inputs ++ option_to_list (input_of one); outputs = s.outputs })
  pub counter : (image : ImageMap) (s : State) (settings : List Setting) (pc : ℕ) → IsStart image (options None settings) s
      → IsStart image (options (Some pc) settings) (record s { core = with_pc pc s.core })

-- what a setting sets has its value
pub record SetsItsValue : Type 0 where
  pub register : (r : Reg) (byte : ℕ) (core : Core) → reg_of r (with_setting (setting.Register r byte) core) ≡ byte
  pub pair : (p : Pair) (word : ℕ) (core : Core) → word < 65536 → pair_of p (with_setting (setting.Pair p word) core) ≡ word
  pub sign : (core : Core) → at loc.S (with_setting (setting.Flag flag.S true) core) ≡ 1
  pub zero : (core : Core) → at loc.Z (with_setting (setting.Flag flag.Z true) core) ≡ 1
  pub half_carry : (core : Core) → at loc.Ac (with_setting (setting.Flag flag.Ac true) core) ≡ 1
  pub parity : (core : Core) → at loc.P (with_setting (setting.Flag flag.P true) core) ≡ 1
  pub carry : (core : Core) → at loc.Cy (with_setting (setting.Flag flag.Cy true) core) ≡ 1
  pub no_carry : (core : Core) → at loc.Cy (with_setting (setting.Flag flag.Cy false) core) ≡ 0
  pub cell : (a byte : ℕ) (core : Core) → a < 65536 → length core.cells ≡ 65536 → cell a (with_setting (setting.Cell a byte) core) ≡ byte
  pub input : (byte : ℕ) (core : Core) → with_setting (setting.Input byte) core ≡ core
  pub inputs : inputs_of (setting.Input 5 ∷ setting.Cell 6 7 ∷ setting.Input 8 ∷ []) ≡ 5 ∷ 8 ∷ []

-- a core at 0 with these bytes, in which each register and flag has another number, so that no text is that of another
abbrev pub core_with : Bool → List ℕ → Core
core_with halted cells = record {
  b = 0x11;
  c = 0x22;
  d = 0x33;
  e = 0x44;
  h = 0x55;
  l = 0x66;
  a = 0xA7;
  s = 1;
  z = 2;
  ac = 3;
  p = 4;
  cy = 5;
  sp = 0x23FE;
  pc = 0;
  halted = halted;
  cells = cells;
}

-- a run of no step ends there, and so does one that has stopped; any other goes on with the state after a step
pub record EndsAtStop : Type 0 where
  pub no_step : (s : State) (steps : ℕ) → EndsAfter s 0 steps ↔ (steps ≡ 0)
  pub stopped : (s : State) (limit steps : ℕ) → HasStopped s.core → EndsAfter s limit steps ↔ (steps ≡ 0)
  pub going :
      (s : State) (limit steps : ℕ) → (¬ HasStopped s.core)
      → EndsAfter s (limit + 1) steps ↔ ((more : ℕ) × (steps ≡ more + 1) × EndsAfter (step s) limit more)
  pub halted : HasStopped (core_with true (0 ∷ []))
  pub stuck : HasStopped (core_with false (8 ∷ []))
  pub at_nop : ¬ HasStopped (core_with false (0 ∷ []))
  pub at_halt : ¬ HasStopped (core_with false (0x76 ∷ []))

abbrev pub state : Core → State
state core = record { core = core; inputs = 9 ∷ []; outputs = (5, 0x3E) ∷ (0xF0, 7) ∷ [] }

abbrev pub outputs : List ℕ
outputs = codes "out 05 3E" ++ 10 ∷ codes "out F0 07" ++ 10 ∷ []

abbrev pub registers : List ℕ
registers = codes "A=A7 B=11 C=22 D=33 E=44 H=55 L=66 S=1 Z=2 AC=3 P=4 CY=5 SP=23FE PC=0000 steps="

-- the line of the state, after so many steps
abbrev pub last_line : ℕ → List ℕ → List ℕ
last_line steps ending = registers ++ decimal steps ++ codes " " ++ ending ++ 10 ∷ []

-- the text of a run: its outputs in order, and the last state with the count of its steps and how it ended
pub record HasTexts : Type 0 where
  pub halted : run_text 30 12 (state (core_with true (8 ∷ []))) ≡ outputs ++ last_line 12 (codes "halted")
  pub stuck : run_text 30 12 (state (core_with false (8 ∷ []))) ≡ outputs ++ last_line 12 (codes "stuck 08")
  pub running : run_text 30 30 (state (core_with false (8 ∷ []))) ≡ outputs ++ last_line 30 (codes "running")
  pub without : run_text 30 0 (record { core = core_with true []; inputs = []; outputs = [] }) ≡ last_line 0 (codes "halted")
