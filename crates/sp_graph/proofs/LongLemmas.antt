-- Where no cycle is without an assertion, no walk has as many steps as the graph has instructions.
use Rattle.std.proofs.Common.{◌≡◌, ◌<◌, ◌+◌, ℕ, ◌⊎◌, inl, inr, arith, List, [], ◌∷◌, ◌++◌, Option, None, Some, length, length-append, get_or, map, refl, sym, ap}
use Rattle.std.proofs.lemmas.Bool.{cases_order}
use Rattle.std.proofs.lemmas.List.{get_or_append_left, get_or_push, length-map, map-append}
use Rattle.sp_graph.specs.Cycles.{Edge, Reaches, HasNoCycle}
use Rattle.sp_graph.specs.Cycles.Reaches.{one, more}
use Rattle.sp_graph.specs.Graph.{InGraph}
use Rattle.sp_graph.specs.Walks.{Inside, IsCut, NoLongWalk}
use Rattle.sp_graph.specs.Walks.Inside.{entry, assertion, onward}
use Rattle.sp_graph.specs.declared.graph.Node.{Node}
use Rattle.sp_graph.specs.declared.walk.Step.{Step}
use Rattle.sp_graph.proofs.OrderLemmas.{asserted_within}
use Rattle.sp_graph.proofs.PlacesLemmas.{distinct_are_few}

-- the instructions that a walk has passed
abbrev passed : List Step → List ℕ
passed steps = map (λ (s : Step). s.at) steps

last_or_not : (xs : List ℕ) (y k : ℕ) → k < length (xs ++ y ∷ []) → (k < length xs) ⊎ (k ≡ length xs)
last_or_not xs y k l =
    let e : length (xs ++ y ∷ []) ≡ length xs + 1 = length-append xs (y ∷ []) in
    elim (cases_order k (length xs)) as (λ o. (k < length xs) ⊎ (k ≡ length xs))
    [ inl same ↦ inr same | inr o ↦ elim o [ inl less ↦ inl less | inr above ↦ absurd (omega arith) ] ]

module _ (graph : List Node) (from : Option ℕ) (whole : InGraph graph) (some : 0 < length graph) (cut : IsCut graph from) where
  abbrev places : List Step → ℕ → List ℕ
  places steps at = passed steps ++ at ∷ []

  longer : (steps : List Step) (step : Step) (to : ℕ) → places (steps ++ step ∷ []) to ≡ places steps step.at ++ to ∷ []
  longer steps step to = ap (λ xs. xs ++ to ∷ []) (map-append (λ (s : Step). s.at) steps (step ∷ []))

  cut_within : (at : ℕ) (f : Option ℕ) → IsCut graph f → f ≡ Some at → at < length graph
  cut_within at None c e = absurd cc
  cut_within at (Some place) c e = let same : place ≡ at = cc in rw (← same) (asserted_within graph place c)

  all_within : (steps : List Step) (at : ℕ) → Inside graph from steps at → (k : ℕ) → k < length (places steps at) → get_or (places steps at) k 0 < length graph
  all_within _ _ (entry f a) k l = let zero_is : k ≡ 0 = omega arith in rw zero_is some
  all_within _ _ (assertion at f) k l = let zero_is : k ≡ 0 = omega arith in rw zero_is (cut_within at from cut f)
  all_within _ _ (onward steps step to i w a) k l =
      rw (longer steps step to)
      (elim (last_or_not (places steps step.at) to k (rw (longer steps step to) at l)) as (λ o. get_or (places steps step.at ++ to ∷ []) k 0 < length graph) [
        | inl less ↦ rw (get_or_append_left (places steps step.at) (to ∷ []) 0 k less) (all_within steps step.at i k less)
        | inr is ↦ rw (get_or_push (places steps step.at) to 0 k (sym is)) (whole step.at step.taken to w)
      ])

  -- each place of a walk reaches the later ones
  reaches : (steps : List Step) (at : ℕ) → Inside graph from steps at → (i j : ℕ) → i < j → j < length (places steps at) →
      Reaches graph (length graph) (get_or (places steps at) i 0) (get_or (places steps at) j 0)
  reaches _ _ (entry f a) i j low l = absurd (omega arith)
  reaches _ _ (assertion at f) i j low l = absurd (omega arith)
  reaches _ _ (onward steps step to w e a) i j low l =
      let before = places steps step.at in
      let size : length before ≡ length (passed steps) + 1 = length-append (passed steps) (step.at ∷ []) in
      let last : get_or before (length (passed steps)) 0 ≡ step.at = get_or_push (passed steps) step.at 0 (length (passed steps)) refl in
      let edge : Edge graph (length graph) step.at step.taken to = ((e, a), whole step.at step.taken to e) in
      rw (longer steps step to)
      (elim (last_or_not before to j (rw (longer steps step to) at l)) as (λ o. Reaches graph (length graph) (get_or (before ++ to ∷ []) i 0) (get_or (before ++ to ∷ []) j 0)) [
        | inl less ↦ rw (get_or_append_left before (to ∷ []) 0 i (omega arith), get_or_append_left before (to ∷ []) 0 j less) (reaches steps step.at w i j low less)
        | inr is ↦
            rw (get_or_append_left before (to ∷ []) 0 i (omega arith), get_or_push before to 0 j (sym is))
            (elim (cases_order i (length (passed steps))) as (λ o. Reaches graph (length graph) (get_or before i 0) to) [
              | inl same ↦ rw (same, last) (one step.at step.taken to (let l = all_within steps step.at w (length (passed steps)) (omega (arith, size)) in omega (arith, l, last)) edge)
              | inr o ↦ elim o as (λ o. Reaches graph (length graph) (get_or before i 0) to) [
                | inl below ↦ more (get_or before i 0) step.at step.taken to (rw last at (reaches steps step.at w i (length (passed steps)) below (omega (arith, size)))) edge
                | inr above ↦ absurd (omega (arith, size, is))
              ]
            ])
      ])

  pub no_walk_is_long : HasNoCycle graph → NoLongWalk graph from
  no_walk_is_long none steps at i =
      let few = distinct_are_few (places steps at) (length graph)
      (λ j k jk l e. none (get_or (places steps at) k 0) (rw e at (reaches steps at i j k jk l)))
      (all_within steps at i) in
      omega (arith, few, length-append (passed steps) (at ∷ []), length-map steps (λ (s : Step). s.at))
