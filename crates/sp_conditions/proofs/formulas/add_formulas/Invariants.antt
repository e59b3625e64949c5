use Rattle.std.proofs.Common.{◌≡◌, ◌++◌, drop}
use Rattle.sp_term.specs.Conditions.{trees}
use Rattle.sp_trans.specs.View.{symbolic_of}
use Rattle.sp_cond.specs.Execution.{formulas_of}
use Rattle.sp_conditions.proofs.formulas.add_formulas.Given as goal

abbrev pub invariant-notes : goal.invariant-notes
invariant-notes l =
    trees l.out.items ++ formulas_of (symbolic_of l.entry) (symbolic_of l.now) (drop l.noted-index l.notes)
    ≡ trees l.initial.out.items ++ formulas_of (symbolic_of l.entry) (symbolic_of l.now) l.notes
