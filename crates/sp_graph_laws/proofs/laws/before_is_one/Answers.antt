use Rattle.std.proofs.Common.{◌<◌, ◌∙◌, sym, arith, [], length}
use Rattle.std.proofs.lemmas.List.{ext_get_or}
use Rattle.sp_graph_laws.proofs.laws.before_is_one.Goals as goal

pub returns : goal.returns
returns c = record {
  one = λ stmts x y a b. ext_get_or [] x y (a.size ∙ sym b.size) (λ i l.
      let within : i < length stmts = omega (arith, l, a.size) in
      a.each i within ∙ sym (b.each i within));
}
