-- What a run and the execution of its walk have to do with one another (this project's own).
use Rattle.std.specs.Prelude.{◌≡◌, ℕ, Bool, List, [], ◌∷◌, length, Option, None, Some, ⊤}
use Rattle.std.specs.List.{AllByRecursion}
use Rattle.sp_base.specs.Image.{ImageMap}
use Rattle.sp_isa.specs.declared.instr.Cond.{Cond}
use Rattle.sp_isa.specs.declared.instr.Instr.{Instr}
use Rattle.sp_isa.specs.declared.instr.Instr.TheVariants.{In}
use Rattle.sp_isa.specs.Core.{Core}
use Rattle.sp_isa.specs.Stack.{holds}
use Rattle.sp_model.specs.Note.{Frame}
use Rattle.sp_model.specs.State.{State, next_input}
use Rattle.sp_term.specs.Admissible.{MeetsChange}
use Rattle.sp_term.specs.Value.{Env, IsTrueIn}
use Rattle.sp_trans.specs.ClosedTerms.{IsSymbolic}
use Rattle.sp_trans.specs.Meaning.{IsValueOf}
use Rattle.sp_cond.specs.Execution.{Execution, condition_in}
use Rattle.sp_facts.specs.Histories.{History, Agrees}

-- In each environment that has the run's values the core is the value of the symbolic state, the hypotheses are true, and the
-- memory variables are related as they should be. Calls and bytes are counted.
pub record IsExecutionOf (image : ImageMap) (f : Frame) (h : History) (now : State) (x : Execution) : Type 0 where
  pub counted : x.inputs ≡ length h.taken
  pub called : length x.calls ≡ length h.calls
  pub symbolic : IsSymbolic x.state
  pub value : (e : Env) → Agrees f h e → IsValueOf f e x.state now.core
  pub hypotheses : (e : Env) → Agrees f h e → AllByRecursion (IsTrueIn e) x.hypotheses
  pub changed : (e : Env) → Agrees f h e → AllByRecursion (MeetsChange image e) x.changes

-- the choice that the core's flags make at an instruction, where it has a condition
abbrev pub IsChoiceBy : Option Cond → Bool → Core → Type 0
IsChoiceBy None taken core = ⊤
IsChoiceBy (Some when) taken core = holds when core ≡ taken

abbrev pub IsChoice : Instr → Bool → Core → Type 0
IsChoice i taken core = IsChoiceBy (condition_in i) taken core

-- the bytes that an instruction takes
abbrev pub bytes_of : Instr → State → List ℕ
bytes_of (In port) s = next_input s ∷ []
bytes_of _ s = []
