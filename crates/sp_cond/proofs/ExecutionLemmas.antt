-- One step more.
use Rattle.std.proofs.Common.{◌≡◌, ℕ, List, [], ◌∷◌, ◌++◌, Option, ap}
use Rattle.std.specs.Prelude.{reverse}
use Rattle.std.proofs.lemmas.List.{reverse-append}
use Rattle.sp_graph.specs.declared.walk.Step.{Step}
use Rattle.sp_cond.specs.Start.{Setting}
use Rattle.sp_cond.specs.Execution.{executed, stepped}

pub more_steps :
    (u : Setting) (from : Option ℕ) (steps : List Step) (step : Step) →
    executed u from (reverse (steps ++ step ∷ [])) ≡ stepped u step (executed u from (reverse steps))
more_steps u from steps step = ap (executed u from) (reverse-append steps (step ∷ []))
