-- How the states of the code are seen.
use Rattle.sp_expr.specs.declared.evaluation.Evaluation.{Evaluation}
use Rattle.sp_expr.specs.declared.nesting.Nesting.{Nesting}
use Rattle.sp_expr.specs.code.Evaluation.{State, state}
use Rattle.sp_expr.specs.code.Nesting.{Nests, nests}

abbrev pub view : Evaluation → State
view e = state e.level e.outer.items e.operand e.after

abbrev pub nests_of : Nesting → Nests
nests_of n = nests n.here n.outer.items
