use Rattle.std.proofs.Common.{◌≡◌, ◌≢◌, length, sym, ◌∙◌, ap, subst}
use Rattle.sp_term.specs.Pools.{tree_at, shape_tree, Grows, IsPlace}
use Rattle.sp_rules.specs.code.Rewritten.{from_tree, to_tree, with_new_parts}
use Rattle.sp_rules.proofs.ReplacementLemmas.{more_here, more_in_parts}
use Rattle.sp_rules.proofs.replacement.Replacement.go_on.Goals as goal

pub returns-then-same : goal.returns-then-same
returns-then-same c =
    let old = c.args.self.now in
    let at = ap (tree_at old.pool) (c.len.ensures ∙ old.places.ok.0) in
    more_here old c.push.new.self c.requires.replacement c.requires.more (sym at ∙ c.same.ensures.0 c.if-same.true)
    c.push.ensures.pool c.push.ensures.from c.push.ensures.to c.in_ok-push.ensures.places c.in_ok-push.ensures.marks

pub returns : goal.returns
returns c =
    let old = c.args.self.now in
    let new = c.push-2.new.self in
    let t = shape_tree old.pool c.shape-shape.result in
    let at = ap (tree_at old.pool) (c.len.ensures ∙ old.places.ok.0) in
    let other : tree_at old.pool (length old.places.items) ≢ from_tree old = λ e. let is = c.same.ensures.1 (at ∙ e) in let not = c.if-same.false in absurd (cc (is, not)) in
    let pool : new.pool ≡ c.add.new.self = c.push-2.ensures.pool in
    let grows : Grows old.pool new.pool = subst (Grows old.pool) (sym pool) c.add.ensures.grows in
    let place : IsPlace new.pool (with_new_parts (from_tree old) (to_tree old) t) c.in_ok-place.place.0 =
    subst (λ ts. IsPlace ts (with_new_parts (from_tree old) (to_tree old) t) c.in_ok-place.place.0) (sym pool)
    (subst (λ u. IsPlace c.add.new.self u c.in_ok-place.place.0) c.with_parts-shape.ensures.tree c.in_ok-place.ensures.place) in
    more_in_parts old new c.in_ok-place.place c.parts_have-mark.result t c.requires.replacement c.requires.more other grows c.push-2.ensures.from c.push-2.ensures.to
    c.in_ok-push-2.ensures.places c.in_ok-push-2.ensures.marks (c.shape-shape.ensures.tree ∙ at) place c.parts_have-mark.ensures
