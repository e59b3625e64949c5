use Rattle.std.proofs.Common.{◌≡◌, ◌<◌, ◌≤◌, ◌↔◌, ◌⊎◌, ◌≢◌, ℕ, length, arith, get_or, sym, ◌∙◌}
use Rattle.sp_flow.specs.Unset.{Has}
use Rattle.sp_flow.proofs.SpreadLemmas.{spread_more, settled_more, settled_same, way_within, read_at, computed}
use Rattle.sp_flow.proofs.spread.spread_by.Goals as goal
use Rattle.sp_flow.proofs.spread.spread_by.Goals.{In-Some-to, After-both-more}

inside : (c : In-Some-to) → c.in-Some-to.to < length c.args.sets.now.items
inside c =
    let l : c.in-Some-to.to < length c.args.ways.now =
    c.requires.whole c.in-Some-to.to (c.in-Some.way, sym c.way_at.ensures ∙ c.in-Some.is, c.in-Some-to.is) in
    let size : length c.args.sets.now.items ≡ length c.args.ways.now = c.requires.size in omega arith

set_is : (c : After-both-more) → get_or c.args.sets.now.items c.in-Some-to.to 0 ≡ c.index-set.result.now
set_is c = read_at c.args.sets.now.items c.in-Some-to.to c.index-set.result.now (inside (goal.at.After-both-more c).In-Some-to) c.index-set.ensures

members :
    (c : After-both-more) (x : ℕ) →
    Has x c.both-more.result ↔
    (Has x (get_or c.args.sets.now.items c.in-Some-to.to 0) ⊎ (Has x (get_or c.args.sets.now.items c.args.step.at 0) × (Has x c.in-Some.way.sets → ⊥)))
members c =
    let l = way_within c.args.ways.now c.args.step c.in-Some.way (sym c.way_at.ensures ∙ c.in-Some.is) in
    let size : length c.args.sets.now.items ≡ length c.args.ways.now = c.requires.size in
    computed c.args.sets.now.items c.args.step.at c.in-Some-to.to c.index-set.result.now c.index.result.now c.without.result c.both-more.result c.in-Some.way.sets
    (set_is c) (read_at c.args.sets.now.items c.args.step.at c.index.result.now (omega arith) c.index.ensures)
    c.without.ensures.members c.both-more.ensures.members

pub index-set-requires : goal.index-set-requires
index-set-requires c = rw (← c.args.sets.now.ok.0) at (inside c)

pub index_mut-requires : goal.index_mut-requires
index_mut-requires c = rw (← c.args.sets.now.ok.0) at (inside (goal.at.index_mut-requires c).In-Some-to)

pub returns-in_ok-push-clause-spreads : goal.returns-in_ok-push-clause-spreads
returns-in_ok-push-clause-spreads c =
    let d = (goal.at.returns-in_ok-push-clause-spreads c).After-both-more in
    let e = set_is d in
    let more : c.index-set.result.now ≤ c.both-more.result = c.both-more.ensures.more in
    let other : c.both-more.result ≢ c.index-set.result.now = c.if-more-set.true in
    rw c.in_ok-push.ensures.items
    (spread_more c.args.ways.now c.args.sets.now.items c.args.work.now.items c.args.step c.in-Some.way c.in-Some-to.to c.both-more.result
    (sym c.way_at.ensures ∙ c.in-Some.is) c.in-Some-to.is (inside (goal.at.returns-in_ok-push-clause-spreads c).In-Some-to) (members d)
    (rw e (omega arith)) c.both-more.type_inv)

pub returns-in_ok-push-clause-settled : goal.returns-in_ok-push-clause-settled
returns-in_ok-push-clause-settled c =
    rw c.in_ok-push.ensures.items
    (settled_more c.args.ways.now c.args.sets.now.items c.args.work.now.items c.args.step c.in-Some.way c.in-Some-to.to c.both-more.result
    (sym c.way_at.ensures ∙ c.in-Some.is) c.in-Some-to.is (inside (goal.at.returns-in_ok-push-clause-settled c).In-Some-to)
    (members (goal.at.returns-in_ok-push-clause-settled c).After-both-more))

pub returns-else-more-set-clause-settled : goal.returns-else-more-set-clause-settled
returns-else-more-set-clause-settled c =
    let d = (goal.at.returns-else-more-set-clause-settled c).After-both-more in
    settled_same c.args.ways.now c.args.sets.now.items c.args.work.now.items c.args.step c.in-Some.way c.in-Some-to.to c.both-more.result
    (sym c.way_at.ensures ∙ c.in-Some.is) c.in-Some-to.is (inside (goal.at.returns-else-more-set-clause-settled c).In-Some-to)
    (members d) (c.if-more-set.false ∙ sym (set_is d))
