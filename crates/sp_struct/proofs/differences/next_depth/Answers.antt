use Rattle.std.proofs.Common.{◌≡◌, ◌∙◌, ℕ, Some, inl, inr, sym, w64}
use Rattle.std.proofs.lemmas.Int.{to_z-of_z}
use Rattle.sp_struct.proofs.GapLemmas.{some_low, some_high, none_next, none_of}
use Rattle.sp_struct.specs.code.Depths.{depth_at}
use Rattle.sp_struct.proofs.differences.next_depth.Goals as goal

pub other_depth-low-requires : goal.other_depth-low-requires
other_depth-low-requires c = λ t e. c.requires t ((c.successors-pair.ensures.all t).1 (inl e))

pub other_depth-requires : goal.other_depth-requires
other_depth-requires c = λ t e. c.requires t ((c.successors-pair.ensures.all t).1 (inr e))

pub returns-then-is_some-clause-some : goal.returns-then-is_some-clause-some
returns-then-is_some-clause-some c =
    some_low c.args.graph.now c.args.levels.now.depths.items c.args.at c.args.after c.successors-pair.result.low c.successors-pair.result.high
    c.successors-pair.ensures.all c.successors-pair.ensures.rising c.other_depth-low.result (rw (to_z-of_z w64 c.args.after (record { sfits = c.ranges.after.sfits })) at c.other_depth-low.ensures.some)

pub returns-clause-some : goal.returns-clause-some
returns-clause-some c =
    some_high c.args.graph.now c.args.levels.now.depths.items c.args.at c.args.after c.successors-pair.result.low c.successors-pair.result.high
    c.successors-pair.ensures.all c.successors-pair.ensures.rising c.other_depth.result
    (none_of c.other_depth-low.result ((t : ℕ) → c.successors-pair.result.low ≡ Some t → depth_at c.args.levels.now.depths.items t ≡ c.args.after)
    (sym c.is_some.ensures ∙ c.if-is_some.false) (rw (to_z-of_z w64 c.args.after (record { sfits = c.ranges.after.sfits })) at c.other_depth-low.ensures.none))
    (rw (to_z-of_z w64 c.args.after (record { sfits = c.ranges.after.sfits })) at c.other_depth.ensures.some)

pub returns-clause-none : goal.returns-clause-none
returns-clause-none c =
    none_next c.args.graph.now c.args.levels.now.depths.items c.args.at c.args.after c.successors-pair.result.low c.successors-pair.result.high
    c.successors-pair.ensures.all c.successors-pair.ensures.rising c.other_depth.result
    (none_of c.other_depth-low.result ((t : ℕ) → c.successors-pair.result.low ≡ Some t → depth_at c.args.levels.now.depths.items t ≡ c.args.after)
    (sym c.is_some.ensures ∙ c.if-is_some.false) (rw (to_z-of_z w64 c.args.after (record { sfits = c.ranges.after.sfits })) at c.other_depth-low.ensures.none))
    (rw (to_z-of_z w64 c.args.after (record { sfits = c.ranges.after.sfits })) at c.other_depth.ensures.none)
