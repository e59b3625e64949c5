use Rattle.std.proofs.Common.{refl}
use Rattle.sp_graph.specs.Routines.{nodes_from}
use Rattle.sp_graph_laws.proofs.laws.graphs_by_example.Goals as goal

pub returns : goal.returns
unfolding nodes_from
returns c = record { next = refl; jump = refl; jump_if = refl; call = refl; call_with_condition = refl; call_of_nothing = refl; call_if = refl; call_if_with_condition = refl; restart = refl; restart_of_nothing = refl; return = refl; return_if = refl; computed = refl; halt = refl; access = refl; asserted = refl; callee = refl; no_routine = refl }
