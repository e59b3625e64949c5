use Rattle.std.proofs.Common.{rules, ◌≡◌, arith}
use Rattle.sp_base.specs.Locs.{place}
use Rattle.sp_flow.proofs.AnswerLemmas.{place_low}
use Rattle.sp_flow.proofs.routine.left_unset.Goals as goal

pub unset-requires-clause-whole : goal.unset-requires-clause-whole
unset-requires-clause-whole c =
    let same : c.deref.result.now ≡ c.in_ok-ways.ways.items = search rules in
    rw same c.in_ok-ways.ensures.whole

pub returns : goal.returns
returns c = λ x at.
    let same : c.deref.result.now ≡ c.in_ok-ways.ways.items = search rules in
    let low = place_low x in
    rw (← c.in_ok-ways.ensures.ways, ← same) (c.in_ok-sets.ensures.members (place x) at (omega (arith, low)))
