use Rattle.std.proofs.Common.{◌≡◌, Some, inl, inr}
use Rattle.sp_struct.specs.code.Breadth.{Saw}
use Rattle.sp_struct.proofs.BreadthLemmas.{pushed, saw_nothing}
use Rattle.sp_struct.proofs.breadth.Reached.see.Goals as goal

pub returns-in_ok-see_place-in-Some : goal.returns-in_ok-see_place-in-Some
returns-in_ok-see_place-in-Some c =
    let g = c.args.graph.now in
    let old = c.args.self.now in
    let new = c.see_place.new.self in
    rw c.in-Some.is (elim c.in_ok-see_place-in-Some.ensures as (λ o. Saw g c.args.head (Some c.in-Some.to) old.seen.items old.order.items old.up.items new.seen.items new.order.items new.up.items) [
      | inl p ↦ rw (p.0, p.1, p.2)
          (saw_nothing g old.seen.items old.order.items old.up.items c.args.head c.requires.grown (Some c.in-Some.to)
          (λ t e. let same : t ≡ c.in-Some.to = cc e in rw same p.3))
      | inr p ↦ rw (p.0, p.1, p.2)
          (pushed g old.seen.items old.order.items old.up.items c.args.head c.in-Some.to c.requires.grown (c.requires.place c.in-Some.to c.in-Some.is) p.3
          (c.requires.successor c.in-Some.to c.in-Some.is) c.requires.head (c.requires.below c.in-Some.to c.in-Some.is))
    ])
