-- What is true of the execution of walks.
use Rattle.std.specs.Prelude.{◌≡◌, ℕ, List, [], ◌∷◌, ◌++◌, Option, reverse}
use Rattle.sp_graph.specs.declared.walk.Step.{Step}
use Rattle.sp_cond.specs.Start.{Setting}
use Rattle.sp_cond.specs.Execution.{executed, stepped}

-- executing one step more is executing the steps, and then that step
abbrev pub ExecutionsGoOn : Type 0
ExecutionsGoOn =
    (u : Setting) (from : Option ℕ) (steps : List Step) (step : Step) →
    executed u from (reverse (steps ++ step ∷ [])) ≡ stepped u step (executed u from (reverse steps))
