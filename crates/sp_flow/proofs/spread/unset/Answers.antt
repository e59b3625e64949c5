use Rattle.std.proofs.Common.{rules, ◌≡◌, ◌<◌, ℕ, false, true, length, [], arith, ◌∙◌, replicate, length-set}
use Rattle.std.proofs.lemmas.List.{length-replicate}
use Rattle.std.proofs.lemmas.Grind.{common_steps}
use Rattle.sp_flow.proofs.SpreadLemmas.{start_entry, start_sound, start_settled, settled_round, complete, replicate_blank}
use Rattle.sp_flow.proofs.spread.unset.Goals as goal

pub loop-at-init : goal.loop-at-init
loop-at-init c =
    let h = c.in_ok-sets.ensures.items_if_clones_equal in
    let blank : c.in_ok-sets.sets.items ≡ replicate (length c.args.ways.now) 0 = search rules in
    let some : 0 < length (replicate (length c.args.ways.now) 0) = let s : 0 < length c.args.ways.now = c.requires.some in omega (arith, length-replicate {A = ℕ} (length c.args.ways.now) 0) in
    let blanks = replicate_blank (length c.args.ways.now) in
    rw (c.in_ok-push.ensures.items, c.new-work.ensures.items, blank)
    (record {
      size = length-set (replicate (length c.args.ways.now) 0) 0 65535 ∙ length-replicate {A = ℕ} (length c.args.ways.now) 0;
      entry = start_entry c.args.ways.now (replicate (length c.args.ways.now) 0) some blanks;
      sound = start_sound c.args.ways.now (replicate (length c.args.ways.now) 0) some blanks;
      settled = start_settled c.args.ways.now (replicate (length c.args.ways.now) 0) some blanks;
    })

pub spread_by-requires-clause-whole : goal.spread_by-requires-clause-whole
spread_by-requires-clause-whole c = c.requires.whole (record { at = c.in-Some.at; taken = false })

pub spread_by-requires-in-Some-clause-whole : goal.spread_by-requires-in-Some-clause-whole
spread_by-requires-in-Some-clause-whole c = c.requires.whole (record { at = c.in-Some.at; taken = true })

pub loop-at-preserved : goal.loop-at-preserved
loop-at-preserved c =
    let one = c.in_ok-spread_by.ensures.spreads in
    let two = c.in_ok-spread_by-2.ensures.spreads in
    record {
      size = two.size ∙ one.size ∙ c.loop-at.invariant.size;
      entry = λ x l. two.grown x 0 (one.grown x 0 (c.loop-at.invariant.entry x l));
      sound = two.sound (one.sound c.loop-at.invariant.sound);
      settled =
          settled_round c.args.ways.now c.loop-at.sets.items c.pop.new.self.items c.spread_by.new.sets.items c.spread_by.new.work.items
          c.spread_by-in-Some.new.sets.items c.spread_by-in-Some.new.work.items c.in-Some.at
          (rw c.in-Some.ensures.items at c.loop-at.invariant.settled) one c.in_ok-spread_by.ensures.settled two c.in_ok-spread_by-2.ensures.settled;
    }

pub returns-clause-members : goal.returns-clause-members
returns-clause-members c =
    let empty : c.loop-at.work.items ≡ [] = grind (arith, common_steps) in
    let settled = rw empty at c.loop-at.invariant.settled in
    λ x at l. (
      (λ h. c.loop-at.invariant.sound x at h),
      (λ u. complete c.args.ways.now c.loop-at.sets.items x (c.loop-at.invariant.entry x l) settled u.0 at u.1 u.2),
    )

pub returns-clause-size : goal.returns-clause-size
returns-clause-size c = c.loop-at.invariant.size
