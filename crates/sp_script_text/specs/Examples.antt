-- Words for laws by example.
use Rattle.std.specs.Prelude.{ℕ, List, codes}
use Rattle.sp_script_text.specs.declared.script.Title.{Title}
use Rattle.sp_script_text.specs.Steps.{Step}
use Rattle.sp_script_text.specs.StepTexts.{IsStep}
use Rattle.sp_script_text.specs.Files.{IsHead}

abbrev pub IsNoStep : List ℕ → Type 0
IsNoStep line = (step : Step) → ¬ IsStep step line

abbrev pub IsNoHead : List ℕ → Type 0
IsNoHead line = (title : Title) → ¬ IsHead title line

-- A.1
abbrev pub first_of_a : Title
first_of_a = record { name = codes "A"; number = 1 }
