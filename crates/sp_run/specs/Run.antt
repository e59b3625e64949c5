-- What the text of a run is (this project's own).
use Rattle.std.specs.Prelude.{◌≡◌, ◌⊎◌, ℕ, ◌<◌, ◌≤◌, true, List, None}
use Rattle.sp_base.specs.Image.{ImageMap}
use Rattle.sp_isa.specs.Core.{Core}
use Rattle.sp_model.specs.State.{State, next_instr, run}
use Rattle.sp_run.specs.declared.settings.Options.{Options}
use Rattle.sp_run.specs.Start.{IsStart}
use Rattle.sp_run.specs.Texts.{run_text}

-- the core is halted, or stuck: nothing decodes at its program counter
abbrev pub HasStopped : Core → Type 0
HasStopped core = (core.halted ≡ true) ⊎ (next_instr core ≡ None)

-- a run of at most `limit` steps ends after so many: no state before it has stopped, and it has, or it is the last
pub record EndsAfter (s : State) (limit steps : ℕ) : Type 0 where
  pub within : steps ≤ limit
  pub going : (k : ℕ) → k < steps → ¬ HasStopped (run s k).core
  pub ended : (steps ≡ limit) ⊎ HasStopped (run s steps).core

-- the text of the run of an image under options
pub record IsRunText (image : ImageMap) (options : Options) (text : List ℕ) : Type 0 where
  pub start : State
  pub steps : ℕ
  pub starts : IsStart image options start
  pub ends : EndsAfter start options.steps steps
  pub exact : text ≡ run_text options.steps steps (run start steps)

-- an image has one such text under any options
abbrev pub OneRunText : Type 0
OneRunText = (image : ImageMap) (options : Options) (one other : List ℕ) → IsRunText image options one → IsRunText image options other → one ≡ other
