-- The list of walks has exactly the walks.
use Rattle.std.proofs.Common.{◌≡◌, ◌<◌, ℕ, zero, suc, ◌-◌, inl, inr, Bool, true, false, List, [], ◌∷◌, ◌++◌, Option, None, Some, slice_get, length, refl, subst, arith, length-append, if◌then◌else◌}
use Rattle.std.proofs.Math.Nat.{sub-zero}
use Rattle.std.specs.List.{Contains}
use Rattle.std.proofs.lemmas.List.Elements.{Contains-append_left, Contains-append_right, Contains-append_cases, Contains-push_cases}
use Rattle.sp_graph.specs.Graph.{asserted_in, branch_in, way, access_of}
use Rattle.sp_graph.specs.Walks.{coming, beyond, branching, ending, ends, walks_on, walks_from, Inside, NoLongWalk, IsWalk}
use Rattle.sp_graph.specs.Walks.Inside.{entry, assertion, onward}
use Rattle.sp_graph.specs.Walks.IsWalk.{at_access, on_branch, to_assertion, entry_asserted}
use Rattle.sp_graph.specs.declared.graph.Branch.{Branch}
use Rattle.sp_graph.specs.declared.graph.End.{End}
use Rattle.sp_graph.specs.declared.graph.End.TheVariants.{Assert}
use Rattle.sp_graph.specs.declared.graph.Node.{Node}
use Rattle.sp_graph.specs.declared.walk.Step.{Step}
use Rattle.sp_graph.specs.declared.walk.Walk.{Walk}

only : (w : Walk) → Contains (w ∷ []) w
only w = (0, omega arith, refl)

module _ (graph : List Node) (from : Option ℕ) (w : Walk) where
  -- a walk by a branch is one of those that go on at the instruction
  by_branch :
      (room : ℕ) (steps : List Step) (at : ℕ) (taken : Bool) →
      Contains (branching graph from (walks_on graph from room) steps (record { at = at; taken = taken }) (branch_in (slice_get graph at) taken)) w →
      Contains (walks_on graph from (suc room) steps at) w
  unfolding walks_on
  by_branch room steps at false c = Contains-append_right (ending from steps at (access_of (slice_get graph at))) _ w (Contains-append_left _ _ w c)
  by_branch room steps at true c =
      Contains-append_right (ending from steps at (access_of (slice_get graph at))) _ w
      (Contains-append_right (branching graph from (walks_on graph from room) steps (record { at = at; taken = false }) (branch_in (slice_get graph at) false)) _ w c)

  by_access :
      (room : ℕ) (steps : List Step) (at : ℕ) → Contains (ending from steps at (access_of (slice_get graph at))) w → Contains (walks_on graph from (suc room) steps at) w
  unfolding walks_on
  by_access room steps at c = Contains-append_left (ending from steps at (access_of (slice_get graph at))) _ w c

  -- a walk that goes on where the branch leads is one by the branch
  by_way :
      (onward_walks : List Step → ℕ → List Walk) (steps : List Step) (step : Step) (branch : Option Branch) (to : ℕ) → way branch ≡ Some to →
      Contains (coming graph from onward_walks (steps ++ step ∷ []) to) w → Contains (branching graph from onward_walks steps step branch) w
  by_way onward_walks steps step None to e c = cc
  by_way onward_walks steps step (Some branch) to e c =
      Contains-append_right (ending from steps step.at branch.end) _ w (rw e c)

  by_end :
      (onward_walks : List Step → ℕ → List Walk) (steps : List Step) (step : Step) (branch : Branch) → Contains (ending from steps step.at branch.end) w →
      Contains (branching graph from onward_walks steps step (Some branch)) w
  by_end onward_walks steps step branch c = Contains-append_left _ (beyond graph from onward_walks (steps ++ step ∷ []) branch.to) w c

module _ (graph : List Node) (from : Option ℕ) (short : NoLongWalk graph from) where
  room_is : (steps : List Step) (at : ℕ) → Inside graph from steps at → length graph - length steps ≡ suc (length graph - suc (length steps))
  room_is steps at i = let l = short steps at i in omega arith

  room_less : (steps : List Step) (step : Step) → length graph - suc (length steps) ≡ length graph - length (steps ++ step ∷ [])
  room_less steps step = omega (arith, length-append steps (step ∷ []))

  -- what goes on where a walk is inside is in the list
  inside_listed :
      (w : Walk) (steps : List Step) (at : ℕ) → Inside graph from steps at →
      Contains (walks_on graph from (length graph - length steps) steps at) w → Contains (walks_from graph from) w
  inside_listed w _ _ (entry e a) c = rw (e, a) (rw (e, sub-zero) at c)
  inside_listed w _ _ (assertion at e) c = rw e (rw (e, sub-zero) at c)
  inside_listed w _ _ (onward steps step to i e a) c =
      inside_listed w steps step.at i
      (rw (room_is steps step.at i)
      (by_branch graph from w (length graph - suc (length steps)) steps step.at step.taken
      (by_way graph from w (walks_on graph from (length graph - suc (length steps))) steps step (branch_in (slice_get graph step.at) step.taken) to e
      (rw (a, room_less steps step) c))))

  pub walk_listed : (w : Walk) → IsWalk graph from w → Contains (walks_from graph from) w
  walk_listed _ (at_access steps at end i e) =
      inside_listed (ends from steps end at) steps at i
      (rw (room_is steps at i) (by_access graph from (ends from steps end at) (length graph - suc (length steps)) steps at (rw e (only (ends from steps end at)))))
  walk_listed _ (on_branch steps step branch end i b e) =
      inside_listed (ends from steps end step.at) steps step.at i
      (rw (room_is steps step.at i)
      (by_branch graph from (ends from steps end step.at) (length graph - suc (length steps)) steps step.at step.taken
      (rw b (by_end graph from (ends from steps end step.at) (walks_on graph from (length graph - suc (length steps))) steps step branch (rw e (only (ends from steps end step.at)))))))
  walk_listed _ (to_assertion steps step to i e a) =
      inside_listed (ends from (steps ++ step ∷ []) Assert to) steps step.at i
      (rw (room_is steps step.at i)
      (by_branch graph from (ends from (steps ++ step ∷ []) Assert to) (length graph - suc (length steps)) steps step.at step.taken
      (by_way graph from (ends from (steps ++ step ∷ []) Assert to) (walks_on graph from (length graph - suc (length steps))) steps step
      (branch_in (slice_get graph step.at) step.taken) to e (rw a (only (ends from (steps ++ step ∷ []) Assert to))))))
  walk_listed _ (entry_asserted e a) = rw (e, a) (only (ends None [] Assert 0))

no_walk : (A : Type 0) (w : Walk) → Contains [] w → A
no_walk A w c = let l : c.0 < 0 = c.1 in absurd (omega arith)

only_is : (v w : Walk) → Contains (v ∷ []) w → v ≡ w
only_is v w c = elim (Contains-push_cases [] v w c) as (λ o. v ≡ w) [ inl n ↦ no_walk (v ≡ w) w n | inr e ↦ e ]

module _ (graph : List Node) (from : Option ℕ) (w : Walk) where
  sound_access : (steps : List Step) (at : ℕ) (end : Option End) → Inside graph from steps at → access_of (slice_get graph at) ≡ end →
      Contains (ending from steps at end) w → IsWalk graph from w
  sound_access steps at None i e c = no_walk (IsWalk graph from w) w c
  sound_access steps at (Some end) i e c = subst (λ (v : Walk). IsWalk graph from v) (only_is (ends from steps end at) w c) (at_access steps at end i e)

  sound_end : (steps : List Step) (step : Step) (branch : Branch) (end : Option End) → Inside graph from steps step.at →
      branch_in (slice_get graph step.at) step.taken ≡ Some branch → branch.end ≡ end →
      Contains (ending from steps step.at end) w → IsWalk graph from w
  sound_end steps step branch None i b e c = no_walk (IsWalk graph from w) w c
  sound_end steps step branch (Some end) i b e c =
      subst (λ (v : Walk). IsWalk graph from v) (only_is (ends from steps end step.at) w c) (on_branch steps step branch end i b e)

  module _ (room : ℕ) (below : (steps : List Step) (at : ℕ) → Inside graph from steps at → Contains (walks_on graph from room steps at) w → IsWalk graph from w)
      (steps : List Step) (step : Step) (i : Inside graph from steps step.at) where
    sound_coming : (to : ℕ) (b : Bool) → way (branch_in (slice_get graph step.at) step.taken) ≡ Some to → asserted_in (slice_get graph to) ≡ b →
        Contains (if b then ends from (steps ++ step ∷ []) Assert to ∷ [] else walks_on graph from room (steps ++ step ∷ []) to) w → IsWalk graph from w
    sound_coming to true e a c =
        subst (λ (v : Walk). IsWalk graph from v) (only_is (ends from (steps ++ step ∷ []) Assert to) w c) (to_assertion steps step to i e a)
    sound_coming to false e a c = below (steps ++ step ∷ []) to (onward steps step to i e a) c

    sound_beyond : (to : Option ℕ) → way (branch_in (slice_get graph step.at) step.taken) ≡ to →
        Contains (beyond graph from (walks_on graph from room) (steps ++ step ∷ []) to) w → IsWalk graph from w
    sound_beyond None e c = no_walk (IsWalk graph from w) w c
    sound_beyond (Some to) e c = sound_coming to (asserted_in (slice_get graph to)) e refl c

    sound_branch : (branch : Option Branch) → branch_in (slice_get graph step.at) step.taken ≡ branch →
        Contains (branching graph from (walks_on graph from room) steps step branch) w → IsWalk graph from w
    sound_branch None e c = no_walk (IsWalk graph from w) w c
    sound_branch (Some branch) e c =
        elim (Contains-append_cases (ending from steps step.at branch.end) (beyond graph from (walks_on graph from room) (steps ++ step ∷ []) branch.to) w c)
        as (λ o. IsWalk graph from w)
        [ inl a ↦ sound_end steps step branch branch.end i e refl a | inr b ↦ sound_beyond branch.to (rw e refl) b ]

  -- what the list has is a walk, whatever the room
  sound_on : (room : ℕ) (steps : List Step) (at : ℕ) → Inside graph from steps at → Contains (walks_on graph from room steps at) w → IsWalk graph from w
  unfolding walks_on
  sound_on zero steps at i c = no_walk (IsWalk graph from w) w c
  sound_on (suc room) steps at i c =
      let fork = λ (taken : Bool). sound_branch room (sound_on room) steps (record { at = at; taken = taken }) i (branch_in (slice_get graph at) taken) refl in
      elim (Contains-append_cases (ending from steps at (access_of (slice_get graph at))) _ w c) as (λ o. IsWalk graph from w) [
        | inl a ↦ sound_access steps at (access_of (slice_get graph at)) i refl a
        | inr b ↦ elim (Contains-append_cases (branching graph from (walks_on graph from room) steps (record { at = at; taken = false }) (branch_in (slice_get graph at) false)) _ w b)
            as (λ o. IsWalk graph from w) [ inl u ↦ fork false u | inr t ↦ fork true t ]
      ]

sound_entry : (graph : List Node) (w : Walk) (b : Bool) → asserted_in (slice_get graph 0) ≡ b →
    Contains (if b then ends None [] Assert 0 ∷ [] else walks_on graph None (length graph) [] 0) w → IsWalk graph None w
sound_entry graph w true a c = subst (λ (v : Walk). IsWalk graph None v) (only_is (ends None [] Assert 0) w c) (entry_asserted refl a)
sound_entry graph w false a c = sound_on graph None w (length graph) [] 0 (entry refl a) c

pub listed_is_walk : (graph : List Node) (from : Option ℕ) (w : Walk) → Contains (walks_from graph from) w → IsWalk graph from w
listed_is_walk graph None w c = sound_entry graph w (asserted_in (slice_get graph 0)) refl c
listed_is_walk graph (Some at) w c = sound_on graph (Some at) w (length graph) [] at (assertion at refl) c
