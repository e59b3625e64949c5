use Rattle.std.proofs.Common.{w64, to_z, of_z, sym, subst}
use Rattle.std.proofs.lemmas.Int.{to_z-of_z}
use Rattle.sp_linear.specs.Linear.{named, Follows}
use Rattle.sp_rules.proofs.NamedLemmas.{applies_not_linear}
use Rattle.sp_rules.proofs.combination.linear.Goals as goal

pub returns : goal.returns
returns c =
    applies_not_linear c.args.n0 c.args.by.now (named c.in_ok-named.named.items) c.args.goals c.in_ok-work.work c.in_ok-work.goal.now
    (record { subgoals = c.in_ok-work.ensures.entered.0; changes = c.in_ok-work.ensures.entered.1 }) c.in_ok-named.ensures
    (λ f.
    let wanted = c.in_ok-work.goal.now in
    let same = subst (λ z. Follows z (named c.in_ok-named.named.items) wanted) (sym (to_z-of_z w64 c.args.n0 c.ranges.n0)) f in
    let does = c.in_ok-follows.ensures.1 (subst (λ l. Follows (to_z w64 (of_z w64 c.args.n0)) (named l) wanted) (sym c.deref.ensures.value) same) in
    let doesnt = c.if-branch.false in
    absurd (cc (does, doesnt)))
