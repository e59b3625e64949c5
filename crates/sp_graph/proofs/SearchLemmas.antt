-- Each move of the search is one.
use Rattle.std.proofs.Common.{◌≡◌, ◌<◌, ℕ, zero, suc, ◌+◌, ◌-◌, Bool, true, false, List, [], ◌∷◌, ◌++◌, Option, None, Some, slice_get, length, refl, ap, sym, ◌∙◌, append_assoc, arith, length-append, if◌then◌else◌}
use Rattle.std.proofs.lemmas.List.{append-nil}
use Rattle.sp_graph.specs.Graph.{asserted_in, branch_in, way, access_of}
use Rattle.sp_graph.specs.Walks.{coming, branching, ending, ends, walks_on, walks_from, Inside, NoLongWalk}
use Rattle.sp_graph.specs.Walks.Inside.{entry, assertion, onward}
use Rattle.sp_graph.specs.code.Search.{other, left, at_place, coming_walks, Trail, Reached, Ready, moves, moves_left, moves_at, all_moves, IsMove, turned}
use Rattle.sp_graph.specs.declared.graph.Branch.{Branch}
use Rattle.sp_graph.specs.declared.graph.End.TheVariants.{Assert}
use Rattle.sp_graph.specs.declared.graph.Node.{Node}
use Rattle.sp_graph.specs.declared.walk.Step.{Step}
use Rattle.sp_graph.specs.declared.walk.Walk.{Walk}
use Rattle.sp_graph.specs.declared.search.Place.TheVariants.{Coming, On, By, Past, Back}

less_one : (n k : ℕ) → n - 1 - suc k ≡ n - suc (suc k)
less_one n k = omega arith

less_step : (n : ℕ) (steps : List Step) (step : Step) → n - length (steps ++ step ∷ []) ≡ n - suc (length steps)
less_step n steps step = omega (arith, length-append steps (step ∷ []))

append_nil_is : (xs : List Step) → xs ++ [] ≡ xs
append_nil_is xs = append-nil xs

module _ (graph : List Node) (from : Option ℕ) where
  -- one step more leaves the walks by its other branch, before those left so far
  left_more :
      (room : ℕ) (before steps : List Step) (step : Step) →
      left graph from room before (steps ++ step ∷ []) ≡
      other graph from (room - suc (length steps)) (before ++ steps) step ++ left graph from room before steps
  unfolding left
  left_more room before [] step =
      rw (append_nil_is before, append-nil (other graph from (room - 1) before step))
  left_more room before (s ∷ steps) step =
      rw (
        left_more (room - 1) (before ++ s ∷ []) steps step,
        append_assoc before (s ∷ []) steps,
        less_one room (length steps),
        append_assoc (other graph from (room - suc (suc (length steps))) (before ++ s ∷ steps) step),
      )

  trail_push :
      (before steps : List Step) (step : Step) →
      Trail graph from before steps → Inside graph from (before ++ steps) step.at → Trail graph from before (steps ++ step ∷ [])
  unfolding Trail
  trail_push before [] step t i = (rw (append_nil_is before) at i, tt)
  trail_push before (s ∷ steps) step t i =
      (t.0, trail_push (before ++ s ∷ []) steps step t.1 (rw (append_assoc before (s ∷ []) steps) i))

  trail_pop :
      (before steps : List Step) (step : Step) →
      Trail graph from before (steps ++ step ∷ []) → Trail graph from before steps × Inside graph from (before ++ steps) step.at
  unfolding Trail
  trail_pop before [] step t = (tt, rw (append_nil_is before) t.0)
  trail_pop before (s ∷ steps) step t =
      let r = trail_pop (before ++ s ∷ []) steps step t.1 in
      ((t.0, r.0), rw (append_assoc before (s ∷ []) steps) at r.1)

moves_more :
    (room : ℕ) (steps : List Step) (step : Step) →
    moves_left room (steps ++ step ∷ []) ≡ (if step.taken then 1 else 4 + moves (room - suc (length steps))) + moves_left room steps
unfolding moves_left
moves_more room [] step = refl
moves_more room (s ∷ steps) step =
    rw (moves_more (room - 1) steps step, less_one room (length steps)) (omega arith)

some_moves : (room : ℕ) → 0 < moves room
unfolding moves
some_moves zero = omega arith
some_moves (suc room) = omega arith

more_room : (here room : ℕ) → here ≡ suc room → 7 + moves room + moves room < moves here
unfolding moves
more_room here room e = rw e (omega arith)

turned_moves :
    (taken : Bool) (here room at : ℕ) →
    moves_at here room (turned (record { at = at; taken = taken })) < (if taken then 2 + moves room else 5 + moves room + moves room)
turned_moves false here room at = omega arith
turned_moves true here room at = omega arith

turned_by :
    (taken : Bool) (here room at : ℕ) →
    moves_at here room (turned (record { at = at; taken = taken })) < (if taken then 3 + moves room else 6 + moves room + moves room)
turned_by false here room at = omega arith
turned_by true here room at = omega arith

turned_back :
    (taken : Bool) (here room at : ℕ) →
    moves_at here room (turned (record { at = at; taken = taken })) < (if taken then 1 else 4 + moves room)
turned_back false here room at = omega arith
turned_back true here room at = omega arith

past_moves :
    (taken : Bool) (here room : ℕ) →
    moves room + (if taken then 1 else 4 + moves room) < (if taken then 2 + moves room else 5 + moves room + moves room)
past_moves false here room = omega arith
past_moves true here room = omega arith

by_moves :
    (taken : Bool) (room : ℕ) →
    (if taken then 2 + moves room else 5 + moves room + moves room) < (if taken then 3 + moves room else 6 + moves room + moves room)
by_moves false room = omega arith
by_moves true room = omega arith

module _ (graph : List Node) (from : Option ℕ) where
  turned_is :
      (room : ℕ) (steps : List Step) (at : ℕ) (taken : Bool) →
      at_place graph from room steps (turned (record { at = at; taken = taken })) ≡ other graph from room steps (record { at = at; taken = taken })
  turned_is room steps at false = append-nil (branching graph from (walks_on graph from room) steps (record { at = at; taken = true }) (branch_in (slice_get graph at) true))
  turned_is room steps at true = refl

  turned_reached :
      (steps : List Step) (at : ℕ) (taken : Bool) → Inside graph from steps at →
      Reached graph from steps (turned (record { at = at; taken = taken }))
  turned_reached steps at false i = i
  turned_reached steps at true i = tt

  coming_same :
      (room less : ℕ) (steps : List Step) (at : ℕ) (b : Bool) → (b ≡ false → room ≡ suc less) →
      ◌≡◌ {A = List Walk} (if b then ends from steps Assert at ∷ [] else walks_on graph from room steps at)
      (if b then ends from steps Assert at ∷ [] else walks_on graph from (suc less) steps at)
  coming_same room less steps at true e = refl
  coming_same room less steps at false e = ap (λ n. walks_on graph from n steps at) (e refl)

module _ (graph : List Node) (from : Option ℕ) (short : NoLongWalk graph from) (steps : List Step) (t : Trail graph from [] steps) where
  room_after : (steps : List Step) (step : Step) → length (steps ++ step ∷ []) < length graph →
      length graph - suc (length steps) ≡ suc (length graph - suc (length (steps ++ step ∷ [])))
  room_after steps step l = omega (arith, length-append steps (step ∷ []))

  pub come_asserted :
      (at : ℕ) → asserted_in (slice_get graph at) ≡ true →
      IsMove graph from steps (Coming at) steps Back (ends from steps Assert at ∷ [])
  unfolding coming_walks all_moves
  come_asserted at h = record {
    same = rw h refl;
    trail = t;
    reached = tt;
    fewer = let p = some_moves (length graph - length steps) in omega arith;
  }

  pub come_on :
      (at : ℕ) → asserted_in (slice_get graph at) ≡ false → Reached graph from steps (Coming at) →
      IsMove graph from steps (Coming at) steps (On at) []
  unfolding coming_walks all_moves
  come_on at h r = record {
    same = rw h refl;
    trail = t;
    reached = r h;
    fewer =
        let l = short steps at (r h) in
        let p = more_room (length graph - length steps) (length graph - suc (length steps)) (omega arith) in omega arith;
  }

  pub go_on :
      (at : ℕ) → Inside graph from steps at →
      IsMove graph from steps (On at) steps (By (record { at = at; taken = false })) (ending from steps at (access_of (slice_get graph at)))
  unfolding coming_walks all_moves walks_on
  go_on at i = record {
    same = simp append_assoc refl;
    trail = t;
    reached = i;
    fewer = omega arith;
  }

  pub by_some :
      (step : Step) (branch : Branch) → branch_in (slice_get graph step.at) step.taken ≡ Some branch → Inside graph from steps step.at →
      IsMove graph from steps (By step) steps (Past step) (ending from steps step.at branch.end)
  unfolding coming_walks all_moves
  by_some step branch h i = record {
    same = rw h (simp append_assoc refl);
    trail = t;
    reached = i;
    fewer = let p = by_moves step.taken (length graph - suc (length steps)) in omega arith;
  }

  pub by_none :
      (step : Step) → branch_in (slice_get graph step.at) step.taken ≡ None → Inside graph from steps step.at →
      IsMove graph from steps (By step) steps (turned step) []
  unfolding coming_walks all_moves
  by_none step h i = record {
    same = rw (h, turned_is graph from (length graph - suc (length steps)) steps step.at step.taken) refl;
    trail = t;
    reached = turned_reached graph from steps step.at step.taken i;
    fewer = let p = turned_by step.taken (length graph - length steps) (length graph - suc (length steps)) step.at in omega arith;
  }

  pub past_on :
      (step : Step) (to : ℕ) → way (branch_in (slice_get graph step.at) step.taken) ≡ Some to → Inside graph from steps step.at →
      IsMove graph from steps (Past step) (steps ++ step ∷ []) (Coming to) []
  unfolding coming_walks all_moves
  past_on step to h i =
      let inside : asserted_in (slice_get graph to) ≡ false → Inside graph from (steps ++ step ∷ []) to = λ a. onward steps step to i h a in
      record {
        same =
            let same = coming_same graph from (length graph - suc (length steps)) (length graph - suc (length (steps ++ step ∷ []))) (steps ++ step ∷ []) to
            (asserted_in (slice_get graph to)) (λ a. room_after steps step (short (steps ++ step ∷ []) to (inside a))) in
            rw (h, left_more graph from (length graph) [] steps step, append_assoc)
            (ap (λ x. x ++ (other graph from (length graph - suc (length steps)) steps step ++ left graph from (length graph) [] steps)) same);
        trail = trail_push graph from [] steps step t i;
        reached = inside;
        fewer =
            let p = past_moves step.taken (length graph - length steps) (length graph - suc (length steps)) in
            rw (moves_more (length graph) steps step, less_step (length graph) steps step) (omega arith);
      }

  pub past_none :
      (step : Step) → way (branch_in (slice_get graph step.at) step.taken) ≡ None → Inside graph from steps step.at →
      IsMove graph from steps (Past step) steps (turned step) []
  unfolding coming_walks all_moves
  past_none step h i = record {
    same = rw (h, turned_is graph from (length graph - suc (length steps)) steps step.at step.taken) refl;
    trail = t;
    reached = turned_reached graph from steps step.at step.taken i;
    fewer = let p = turned_moves step.taken (length graph - length steps) (length graph - suc (length steps)) step.at in omega arith;
  }

module _ (graph : List Node) (from : Option ℕ) where
  pub go_back :
      (steps : List Step) (step : Step) → Trail graph from [] (steps ++ step ∷ []) →
      IsMove graph from (steps ++ step ∷ []) Back steps (turned step) []
  unfolding coming_walks all_moves
  go_back steps step t = record {
    same = rw (left_more graph from (length graph) [] steps step, turned_is graph from (length graph - suc (length steps)) steps step.at step.taken) refl;
    trail = (trail_pop graph from [] steps step t).0;
    reached = turned_reached graph from steps step.at step.taken (trail_pop graph from [] steps step t).1;
    fewer =
        let p = turned_back step.taken (length graph - length steps) (length graph - suc (length steps)) step.at in
        rw (moves_more (length graph) steps step) (omega arith);
  }

  pub nothing_left : coming_walks graph from [] Back ≡ []
  unfolding coming_walks left
  nothing_left = refl

module _ (graph : List Node) where
  pub ready_entry : NoLongWalk graph None → Ready graph None [] (Coming 0)
  unfolding Trail
  ready_entry short = record { short = short; trail = tt; reached = λ a. entry refl a }

  pub ready_at : (at : ℕ) → NoLongWalk graph (Some at) → Ready graph (Some at) [] (On at)
  unfolding Trail
  ready_at at short = record { short = short; trail = tt; reached = assertion at refl }

  room_first : (steps : List Step) → length steps ≡ 0 → length steps < length graph → length graph ≡ suc (length graph - suc zero)
  room_first steps e l = omega arith

  pub start_entry : NoLongWalk graph None → coming_walks graph None [] (Coming 0) ≡ walks_from graph None
  unfolding coming_walks left
  start_entry short =
      append-nil (coming graph None (walks_on graph None (suc (length graph - suc zero))) [] 0)
      ∙ sym (coming_same graph None (length graph) (length graph - suc zero) [] 0 (asserted_in (slice_get graph 0))
      (λ a. room_first [] refl (short [] 0 (entry refl a))))

  pub start_at : (at : ℕ) → NoLongWalk graph (Some at) → coming_walks graph (Some at) [] (On at) ≡ walks_from graph (Some at)
  unfolding coming_walks left
  start_at at short =
      append-nil (walks_on graph (Some at) (suc (length graph - suc zero)) [] at)
      ∙ ap (λ n. walks_on graph (Some at) n [] at) (sym (room_first [] refl (short [] at (assertion at refl))))
