use Rattle.std.proofs.Common.{◌≡◌, ◌<◌, ◌∙◌, sym, arith, length, slice_get, Some, true}
use Rattle.sp_graph.specs.Graph.{asserted_in}
use Rattle.sp_graph.specs.Walks.{NoLongWalk}
use Rattle.sp_graph.proofs.NextLemmas.{on_err, still_the_same, one_less, ready_back, nothing_more, no_cut, next_cut, ready_cut}
use Rattle.sp_graph.proofs.search.Search.next.Goals as goal
use Rattle.sp_graph.proofs.search.Search.next.Goals.{then-has_assertion, else-has_assertion}

pub returns-in_err-walk-clause-err : goal.returns-in_err-walk-clause-err
returns-in_err-walk-clause-err c =
    on_err c.from_residual.result
    (still_the_same c.cuts.self-inside.graph.items c.cuts.self-inside.from c.cuts.self-inside.steps c.walk_here.new.steps
    c.cuts.self-inside.place c.walk_here.new.place c.cuts.self-inside.rest (rw c.deref.ensures.value at c.in_err-walk.ensures.err)
    ∙ c.cuts.invariant.same ∙ c.self.view_is)

pub returns-in-Some-clause-ok : goal.returns-in-Some-clause-ok
returns-in-Some-clause-ok c =
    sym (c.cuts.invariant.same ∙ c.self.view_is)
    ∙ one_less c.cuts.self-inside.graph.items c.cuts.self-inside.from c.cuts.self-inside.steps c.walk_here.new.steps
    c.cuts.self-inside.place c.walk_here.new.place c.cuts.self-inside.rest c.in-Some.walk (rw (c.in-Some.is, c.deref.ensures.value) at c.in_ok-walk.ensures.ok)

pub invariant_of-self-then-self-len : goal.invariant_of-self-then-self-len
invariant_of-self-then-self-len c =
    let n = rw (c.in-None.is, c.deref.ensures.value) at c.in_ok-walk.ensures.ok in (
      ready_back c.cuts.self-inside.graph.items c.cuts.self-inside.from c.cuts.self-inside.steps c.walk_here.new.steps
          c.cuts.self-inside.place c.walk_here.new.place c.cuts.self-inside.rest c.cuts.invariant.ready.short n.0 n.1 n.2,
      c.cuts.invariant.short,
    )

pub returns-then-self-len-clause-ok : goal.returns-then-self-len-clause-ok
returns-then-self-len-clause-ok c =
    let n = rw (c.in-None.is, c.deref.ensures.value) at c.in_ok-walk.ensures.ok in
    let none = nothing_more c.cuts.self-inside.graph.items c.cuts.self-inside.from c.cuts.self-inside.steps c.walk_here.new.steps
    c.cuts.self-inside.place c.walk_here.new.place c.cuts.self-inside.rest c.cuts.invariant.ready.short n.0 n.1 n.2
    (omega (arith, c.if-self-len.true, c.len.ensures)) in
    (sym (c.cuts.invariant.same ∙ c.self.view_is) ∙ none.0, none.1)

pub cuts-preserved : goal.cuts-preserved
cuts-preserved c =
    let n = rw (c.in-None.is, c.deref.ensures.value) at c.in_ok-walk.ensures.ok in
    let graph = c.cuts.self-inside.graph.items in
    let within : c.cuts.self-inside.rest < length graph = omega (arith, c.if-self-len.false, c.len.ensures) in
    elim c.if-has_assertion.branch [
      | then-has_assertion w ↦
          let a : asserted_in (slice_get graph c.cuts.self-inside.rest) ≡ true = sym (rw c.deref-in-None.ensures.value at c.has_assertion.ensures) ∙ w.if-has_assertion.true in
          let cut : NoLongWalk graph (Some c.cuts.self-inside.rest) = c.cuts.invariant.short (Some c.cuts.self-inside.rest) a in
          rw w.self-inside-is (record {
            ready = ready_cut graph c.cuts.self-inside.from c.cuts.self-inside.steps c.walk_here.new.steps
                c.cuts.self-inside.place c.walk_here.new.place c.cuts.self-inside.rest c.cuts.invariant.ready.short n.0 n.1 cut;
            graph_same = c.cuts.invariant.graph_same;
            short = c.cuts.invariant.short;
            same = next_cut graph c.cuts.self-inside.from c.cuts.self-inside.steps c.walk_here.new.steps
                c.cuts.self-inside.place c.walk_here.new.place c.cuts.self-inside.rest c.cuts.invariant.ready.short n.0 n.1 within a cut ∙ c.cuts.invariant.same;
          })
      | else-has_assertion w ↦
          rw w.self-inside-is (record {
            ready = ready_back graph c.cuts.self-inside.from c.cuts.self-inside.steps c.walk_here.new.steps
                c.cuts.self-inside.place c.walk_here.new.place c.cuts.self-inside.rest c.cuts.invariant.ready.short n.0 n.1 n.2;
            graph_same = c.cuts.invariant.graph_same;
            short = c.cuts.invariant.short;
            same = no_cut graph c.cuts.self-inside.from c.cuts.self-inside.steps c.walk_here.new.steps
                c.cuts.self-inside.place c.walk_here.new.place c.cuts.self-inside.rest c.cuts.invariant.ready.short n.0 n.1 n.2 within (sym (rw c.deref-in-None.ensures.value at c.has_assertion.ensures) ∙ w.if-has_assertion.false) ∙ c.cuts.invariant.same;
          })
    ]
