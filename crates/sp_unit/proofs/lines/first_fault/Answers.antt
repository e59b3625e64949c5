use Rattle.std.proofs.Common.{◌≡◌, ◌<◌, ℕ, suc, ◌+◌, arith, rules, List, [], ◌∷◌, ◌++◌, sym, ap, subst, ◌∙◌, take, drop, length, get_or}
use Rattle.sp_unit.specs.declared.above.Above.{Above}
use Rattle.sp_unit.specs.declared.entry.Entry.{Entry}
use Rattle.sp_unit.specs.Faults.{fault}
use Rattle.sp_unit.specs.code.Aboves.{IsAbove, HasSeen}
use Rattle.sp_unit.specs.code.Entries.{entry_of, entries_of}
use Rattle.sp_unit.specs.code.Scopes.{source_of}
use Rattle.sp_unit.proofs.CheckLemmas.{right_none, drop_next, take_next, right_next, fault_found}
use Rattle.sp_unit.proofs.lines.first_fault.Goals as goal

-- what is known of the line at a place
above_line : (a : Above) (xs below : List Entry) (i : ℕ) (e : Entry) → i < length xs → e ≡ get_or xs i e → below ≡ drop (i + 1) xs
    → IsAbove a (entries_of (take i xs)) (entries_of (drop i xs)) → IsAbove a (entries_of (take i xs)) (entry_of e ∷ entries_of below)
above_line a xs below i e lt is under h =
    let next : i + 1 ≡ suc i = omega arith in
    subst (λ l. IsAbove a (entries_of (take i xs)) (entry_of e ∷ entries_of l)) (sym under)
    (subst (IsAbove a (entries_of (take i xs))) (drop_next entry_of xs i (i + 1) e next lt is) h)

pub loop-i-init : goal.loop-i-init
loop-i-init c = record {
  above = c.nothing-above.ensures (entries_of c.args.entries.now);
  seen = λ name. search rules;
  right = right_none (source_of c.args.scope.now) (entries_of c.args.entries.now);
}

pub returns-in-Some : goal.returns-in-Some
returns-in-Some c =
    let s = source_of c.args.scope.now in
    let xs = c.args.entries.now in
    let i = c.loop-i.i in
    let e = c.index-entries-i.result in
    let below = c.lines_below-below.result.now in
    let next : i + 1 ≡ suc i = omega arith in
    let lt = c.loop-i-test.true in
    let above = above_line c.loop-i.above xs below i e lt c.index-entries-i.is c.lines_below-below.ensures c.loop-i.invariant.above in
    let here = c.in_ok-kind.ensures (entries_of (take i xs)) above (c.repeats-repeated.ensures (entries_of (take i xs)) c.loop-i.invariant.seen) in
    fault_found entry_of xs i (i + 1) e next lt c.index-entries-i.is s c.in-Some.kind c.line.result.0 c.loop-i.invariant.right
    (sym c.in-Some.is ∙ here ∙ ap (λ l. fault s (entries_of (take i xs)) (entry_of e) (entries_of l)) c.lines_below-below.ensures) c.line.ensures

pub loop-i-preserved : goal.loop-i-preserved
loop-i-preserved c =
    let s = source_of c.args.scope.now in
    let xs = c.args.entries.now in
    let i = c.loop-i.i in
    let e = c.index-entries-i.result in
    let below = c.lines_below-below.result.now in
    let next : i + 1 ≡ suc i = omega arith in
    let lt = c.loop-i-test.true in
    let under = c.lines_below-below.ensures in
    let above = above_line c.loop-i.above xs below i e lt c.index-entries-i.is under c.loop-i.invariant.above in
    let here = c.in_ok-kind.ensures (entries_of (take i xs)) above (c.repeats-repeated.ensures (entries_of (take i xs)) c.loop-i.invariant.seen) in
    let more = take_next entry_of xs i (i + 1) e next lt c.index-entries-i.is in
    record {
      above =
          subst (λ l. IsAbove c.after-above.result l (entries_of (drop (i + 1) xs))) (sym more)
          (subst (λ l. IsAbove c.after-above.result (entries_of (take i xs) ++ entry_of e ∷ []) (entries_of l)) under (c.after-above.ensures (entries_of (take i xs)) above));
      seen = subst (HasSeen c.add_line.new.seen.entries s) (sym more) (c.in_ok-add_line.ensures (entries_of (take i xs)) c.loop-i.invariant.seen);
      right = right_next entry_of xs i (i + 1) e next lt c.index-entries-i.is s c.loop-i.invariant.right
          (ap (λ l. fault s (entries_of (take i xs)) (entry_of e) (entries_of l)) (sym under) ∙ sym here ∙ c.in_default.is);
    }
