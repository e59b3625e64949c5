use Rattle.std.proofs.Common.{◌≡◌, ◌+◌, ◌<◌, sym, ◌∙◌, ap, subst, arith, take, get_or, length, true}
use Rattle.std.specs.Borrow.{Bor}
use Rattle.std.proofs.lemmas.List.{get_or-map}
use Rattle.sp_term.specs.Tree.{Tree, Truth}
use Rattle.sp_term.specs.Pools.{tree_at}
use Rattle.sp_term.specs.Conditions.{trees}
use Rattle.sp_simp.specs.Memos.{IsSimpleAt}
use Rattle.sp_simp.specs.code.Marks.{AreSimpleAt}
use Rattle.sp_simp.proofs.MarkLemmas.{forms_grown, forms_more, grown_twice, trees_length}
use Rattle.sp_simp.proofs.conditions.simple_places.Goals as goal

pub loop-t-preserved : goal.loop-t-preserved
loop-t-preserved c =
    let i = c.loop-t.t-index in
    let ts = trees c.args.ts.now in
    let pool = c.simple.new.pool in
    let low : i < length ts = omega (arith, c.loop-t-test.true, trees_length c.args.ts.now) in
    let is : tree_at c.take.new.self c.in_ok-n.n.0 ≡ get_or ts i (Truth true) =
    c.in_ok-n.ensures.place.is ∙ ap (λ (b : Bor Tree). b.now) c.t-item.is
    ∙ sym (get_or-map (λ (b : Bor Tree). b.now) c.args.ts.now i c.t-item.result (Truth true) c.loop-t-test.true) in
    let old : AreSimpleAt (take i ts) pool c.loop-t.places.items =
    forms_grown (take i ts) _ pool c.loop-t.places.items (grown_twice _ _ _ c.in_ok-n.ensures.grows c.in_ok-r.ensures.grows) c.loop-t.invariant.forms in
    record {
      grows = grown_twice _ _ _ (grown_twice _ _ _ c.loop-t.invariant.grows c.in_ok-n.ensures.grows) c.in_ok-r.ensures.grows;
      right = c.in_ok-r.ensures.right;
      forms = subst (AreSimpleAt (take (i + 1) ts) pool) (sym c.in_ok-push.ensures.items)
          (forms_more ts pool c.loop-t.places.items i c.in_ok-r.r (Truth true) low old (subst (λ t. IsSimpleAt t pool c.in_ok-r.r.0) is c.in_ok-r.ensures.form));
    }
