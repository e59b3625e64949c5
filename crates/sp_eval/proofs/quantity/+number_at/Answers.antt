use Rattle.std.proofs.Common.{◌≡◌, arith, rules, sym, subst}
use Rattle.sp_eval.specs.code.Setting.{IsSmallQuantity}
use Rattle.sp_eval.proofs.SmallLemmas.{small_number, number_counts}
use Rattle.sp_eval.proofs.quantity.+number_at.Goals as goal

pub returns-then-left-eq0 : goal.returns-then-left-eq0
returns-then-left-eq0 t c = let some = number_counts c.args.at.now c.args.scope.now c.args.quantity.now in omega (arith, c.if-left-eq0.true, some)

pub count_between-count-requires-clause-low : goal.count_between-count-requires-clause-low
count_between-count-requires-clause-low t c =
    let small = rw c.in-Total.is at c.requires.small in
    let same : c.deref-in-Total.result.now ≡ c.in-Total.first.value = search rules in
    small_number c.args.at.now c.args.scope.now c.deref-in-Total.result.now c.in_ok-low-in-Total.low
    (subst (IsSmallQuantity c.args.at.now c.args.scope.now) (sym same) small.1) c.in_ok-low-in-Total.ensures.0

pub count_between-count-requires-clause-high : goal.count_between-count-requires-clause-high
count_between-count-requires-clause-high t c =
    let small = rw c.in-Total.is at c.requires.small in
    let same : c.deref-in-Total-2.result.now ≡ c.in-Total.last.value = search rules in
    small_number c.args.at.now c.args.scope.now c.deref-in-Total-2.result.now c.in_ok-high-in-Total.high
    (subst (IsSmallQuantity c.args.at.now c.args.scope.now) (sym same) small.2) (c.in_ok-high-in-Total.ensures {u = tt}).0

pub calculate-requires-clause-left : goal.calculate-requires-clause-left
calculate-requires-clause-left t c =
    let small = rw c.in-Operate.is at c.requires.small in
    let same : c.deref-in-Operate.result.now ≡ c.in-Operate.first.value = search rules in
    small_number c.args.at.now c.args.scope.now c.deref-in-Operate.result.now c.in_ok-x-in-Operate.x
    (subst (IsSmallQuantity c.args.at.now c.args.scope.now) (sym same) small.1) c.in_ok-x-in-Operate.ensures.0

pub calculate-requires-clause-right : goal.calculate-requires-clause-right
calculate-requires-clause-right t c =
    let small = rw c.in-Operate.is at c.requires.small in
    let same : c.deref-in-Operate-2.result.now ≡ c.in-Operate.second.value = search rules in
    small_number c.args.at.now c.args.scope.now c.deref-in-Operate-2.result.now c.in_ok-y-in-Operate.y
    (subst (IsSmallQuantity c.args.at.now c.args.scope.now) (sym same) small.2) (c.in_ok-y-in-Operate.ensures {u = tt}).0
