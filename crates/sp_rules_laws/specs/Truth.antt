-- What is claimed of the steps of scripts (this project's own).
use Rattle.sp_base.specs.Image.{ImageMap}
use Rattle.sp_term.specs.Admissible.{Region}
use Rattle.sp_steps.specs.Subgoals.{State}
use Rattle.sp_steps.specs.Steps.{Step}
use Rattle.sp_steps.specs.Next.{IsNext}
use Rattle.sp_steps.specs.Soundness.{IsValidState, IsProper, IsProperStep}

-- where each subgoal after the step is true in each admissible environment, so was each one before it
abbrev pub KeepsTruth : Step → Type 0
KeepsTruth step = (image : ImageMap) (stack : Region) (old new : State) → IsProper old → IsProperStep image step → IsNext step old new → IsValidState image stack new → IsValidState image stack old

-- after the step the hypotheses and goals are closed formulas, as before it
abbrev pub StaysProper : Step → Type 0
StaysProper step = (image : ImageMap) (old new : State) → IsProper old → IsProperStep image step → IsNext step old new → IsProper new
