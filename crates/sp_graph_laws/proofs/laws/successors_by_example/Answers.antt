use Rattle.std.proofs.Common.{refl}
use Rattle.sp_graph_laws.proofs.laws.successors_by_example.Goals as goal

pub returns : goal.returns
returns c = record { next = refl; jump = refl; jump_to_itself = refl; jump_out = refl; jump_if = refl; jump_back_if = refl; jump_on_if = refl; jump_out_if = refl; call = refl; call_if = refl; restart = refl; return_if = refl; computed = refl; return = refl; halt = refl; second = refl; last = refl; last_if = refl; past = refl }
