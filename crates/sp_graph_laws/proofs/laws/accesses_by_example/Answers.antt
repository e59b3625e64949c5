use Rattle.std.proofs.Common.{refl}
use Rattle.sp_graph_laws.proofs.laws.accesses_by_example.Goals as goal

pub returns : goal.returns
returns c = record { move_to = refl; move_from = refl; move = refl; load_byte = refl; load_register = refl; increase = refl; increase_register = refl; decrease = refl; decrease_register = refl; operate = refl; operate_on_register = refl; operate_on_byte = refl; store_at_pair = refl; load_at_pair = refl; store = refl; load = refl; store_word = refl; load_word = refl; pushed = refl; popped = refl; exchange = refl }
