use Rattle.std.proofs.Common.{◌≡◌, ◌<◌, ◌⊎◌, ℕ, Some, get_or, length, sym, inl, inr, arith}
use Rattle.std.proofs.lemmas.List.{get_or_read}
use Rattle.sp_graph.specs.Least.{Successor}
use Rattle.sp_struct.proofs.BreadthLemmas.{below_second, next_level}
use Rattle.sp_struct.proofs.breadth.search.Goals as goal
use Rattle.sp_struct.proofs.breadth.search.Goals.{After-successors-pair, In_ok-see}

at_head : (c : After-successors-pair) → c.levels.head < length c.levels.search.order.items
at_head c = omega (arith, c.levels-test.true, c.len.ensures, c.levels.search.order.ok.0)

is : (c : After-successors-pair) → get_or c.levels.search.order.items c.levels.head 0 ≡ c.index.result.now
is c = sym (get_or_read c.levels.search.order.items c.levels.head c.index.result.now (at_head c) c.index.ensures 0)

here : (c : After-successors-pair) (t : ℕ) → Successor c.args.graph.now (get_or c.levels.search.order.items c.levels.head 0) t →
    (c.successors-pair.result.low ≡ Some t) ⊎ (c.successors-pair.result.high ≡ Some t)
here c t s = let e = is c in (c.successors-pair.ensures.all t).0 (rw e at s)

back : (c : After-successors-pair) (t : ℕ) → (c.successors-pair.result.low ≡ Some t) ⊎ (c.successors-pair.result.high ≡ Some t) →
    Successor c.args.graph.now (get_or c.levels.search.order.items c.levels.head 0) t
back c t o = let e = is c in rw e ((c.successors-pair.ensures.all t).1 o)

pub see-requires-clause-place : goal.see-requires-clause-place
see-requires-clause-place c t e =
    c.requires.whole (get_or c.levels.search.order.items c.levels.head 0) t (back (goal.at.see-requires-clause-place c).After-successors-pair t (inl e))

pub see-requires-clause-successor : goal.see-requires-clause-successor
see-requires-clause-successor c t e = back (goal.at.see-requires-clause-successor c).After-successors-pair t (inl e)

pub see-requires-in-levels-clause-place : goal.see-requires-in-levels-clause-place
see-requires-in-levels-clause-place c t e =
    c.requires.whole (get_or c.levels.search.order.items c.levels.head 0) t (back (goal.at.see-requires-in-levels-clause-place c).After-successors-pair t (inr e))

pub see-requires-in-levels-clause-successor : goal.see-requires-in-levels-clause-successor
see-requires-in-levels-clause-successor c t e =
    let d = (goal.at.see-requires-in-levels-clause-successor c).After-successors-pair in
    let k = c.in_ok-see.ensures.kept c.levels.head (at_head d) in
    rw k.1 (back d t (inr e))

pub see-requires-in-levels-clause-below : goal.see-requires-in-levels-clause-below
see-requires-in-levels-clause-below c =
    let d = (goal.at.see-requires-in-levels-clause-below c).After-successors-pair in
    below_second c.args.graph.now c.levels.head c.successors-pair.result.low c.successors-pair.result.high
    c.levels.search.seen.items c.see.new.self.seen.items c.see.new.self.seen.items
    c.levels.search.order.items c.levels.search.up.items c.see.new.self.order.items c.see.new.self.up.items c.see.new.self.order.items c.see.new.self.up.items
    c.levels.invariant (at_head d) (here d) c.in_ok-see.ensures c.successors-pair.ensures.rising

pub levels-preserved : goal.levels-preserved
levels-preserved c =
    let d = (goal.at.levels-preserved c).After-successors-pair in
    next_level c.args.graph.now c.levels.head c.successors-pair.result.low c.successors-pair.result.high
    c.levels.search.seen.items c.see.new.self.seen.items c.see-in-levels.new.self.seen.items
    c.levels.search.order.items c.levels.search.up.items c.see.new.self.order.items c.see.new.self.up.items c.see-in-levels.new.self.order.items c.see-in-levels.new.self.up.items
    c.levels.invariant (at_head d) (here d) c.in_ok-see.ensures c.successors-pair.ensures.rising c.in_ok-see-2.ensures
