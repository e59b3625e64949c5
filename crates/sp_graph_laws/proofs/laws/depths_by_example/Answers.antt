use Rattle.sp_graph_laws.proofs.DepthLemmas.{balanced, pushed, passed, pushed_on_one_way}
use Rattle.sp_graph_laws.proofs.laws.depths_by_example.Goals as goal

pub returns : goal.returns
returns c = record { balanced = balanced; pushed = pushed; passed = passed; pushed_on_one_way = pushed_on_one_way }
