use Rattle.std.proofs.Common.{◌≡◌, ◌∙◌, ◌++◌, ◌∷◌, ◌+◌, [], sym, ap, arith, slice_get, true, false, append_assoc, map, Some}
use Rattle.std.proofs.lemmas.List.{append-nil}
use Rattle.sp_graph.specs.Graph.{asserted_in}
use Rattle.sp_graph.specs.Walks.{assertions_from, cuts, cut_of}
use Rattle.sp_graph.specs.declared.walk.Cut.TheVariants.{At}
use Rattle.sp_graph.proofs.CutLemmas.{cuts_next, no_cuts_after}
use Rattle.sp_graph.proofs.routine.cuts.Goals as goal
use Rattle.sp_graph.proofs.routine.cuts.Goals.{then-has_assertion+in_ok-push-2, else-has_assertion}

pub places-preserved : goal.places-preserved
places-preserved c =
    let graph = c.in_ok-graph.graph.items in
    let rest = map cut_of (map (λ at. Some at) (assertions_from graph (c.places.at + 1))) in
    elim c.if-has_assertion.branch [
      | then-has_assertion+in_ok-push-2 w ↦
          let a : asserted_in (slice_get graph c.places.at) ≡ true = sym (rw c.deref.ensures.value at c.has_assertion.ensures) ∙ w.if-has_assertion.true in
          let next = cuts_next graph c.places.at true (omega (arith, c.places-test.true, c.len-at-end.ensures)) a in
          rw (w.found-is, w.in_ok-push-2.ensures.items)
          (append_assoc c.places.found.items (At c.places.at ∷ []) rest ∙ ap (λ xs. c.places.found.items ++ xs) (sym next) ∙ c.places.invariant)
      | else-has_assertion w ↦
          let a : asserted_in (slice_get graph c.places.at) ≡ false = sym (rw c.deref.ensures.value at c.has_assertion.ensures) ∙ w.if-has_assertion.false in
          let next = cuts_next graph c.places.at false (omega (arith, c.places-test.true, c.len-at-end.ensures)) a in
          rw w.found-is (ap (λ xs. c.places.found.items ++ xs) (sym next) ∙ c.places.invariant)
    ]

pub returns : goal.returns
returns c =
    let graph = c.in_ok-graph.graph.items in
    let none = no_cuts_after graph c.places.at (omega (arith, c.places-test.false, c.len-at-end.ensures)) in
    sym (append-nil c.places.found.items) ∙ ap (λ xs. c.places.found.items ++ xs) (sym none) ∙ c.places.invariant
    ∙ ap (λ g. map cut_of (cuts g)) c.in_ok-graph.ensures.graph
