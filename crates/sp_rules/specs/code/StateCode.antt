-- States as trees of numbers, one to one: what the library asks of a type that contracts see a struct as.
use Rattle.std.specs.Prelude.{ℕ, refl, List}
use Rattle.std.specs.Coded.{Coded, code_by, coded×, coded_ℕ, coded_list}
use Rattle.sp_term.specs.declared.var.Var.{Var}
use Rattle.sp_term.specs.declared.var.Var.TheVariants as var
use Rattle.sp_term.specs.Tree.{Tree, Variable}
use Rattle.sp_term.specs.Admissible.{Change}
use Rattle.sp_term.specs.code.TreeCode.{tree_code}
use Rattle.sp_steps.specs.Subgoals.{Subgoal, State}

abbrev variable_of : Tree → Var
variable_of (Variable v) = v
variable_of _ = var.Mem

abbrev pub subgoal_code : Coded Subgoal
subgoal_code =
    code_by (List Tree × Tree) (coded× (coded_list tree_code) tree_code) (λ g. (g.hypotheses, g.goal))
    (λ p. record { hypotheses = p.0; goal = p.1 }) (λ _. refl)

abbrev pub change_code : Coded Change
change_code =
    code_by (Tree × (Tree × List (ℕ × ℕ))) (coded× tree_code (coded× tree_code (coded_list (coded× coded_ℕ coded_ℕ))))
    (λ c. (Variable c.variable, (c.earlier, c.areas))) (λ p. record { variable = variable_of p.0; earlier = p.1.0; areas = p.1.1 }) (λ _. refl)

abbrev pub state_code : Coded State
state_code =
    code_by (List Subgoal × List Change) (coded× (coded_list subgoal_code) (coded_list change_code)) (λ s. (s.subgoals, s.changes))
    (λ p. record { subgoals = p.0; changes = p.1 }) (λ _. refl)
