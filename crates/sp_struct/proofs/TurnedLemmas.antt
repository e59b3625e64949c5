-- A walk of the turned graph is a way among the first instructions of a graph.
use Rattle.std.proofs.Common.{◌≡◌, ◌<◌, ◌≤◌, ◌+◌, ℕ, zero, suc, ◌⊎◌, inl, inr, arith, Bool, true, false, List, [], ◌∷◌, ◌++◌, Option, None, Some, slice_get, length, length-append, get_or, refl, sym, ap, ◌∙◌, if◌then◌else◌}
use Rattle.std.specs.Prelude.{not, ◌&&◌, nat_lt}
use Rattle.std.proofs.lemmas.Bool.{cases_order, lt-ltb, ltb-true}
use Rattle.std.proofs.lemmas.List.{get_or_append_left, get_or_push}
use Rattle.std.proofs.lemmas.Option.{slice_get-get_or, slice_get_past}
use Rattle.sp_graph.specs.Cycles.{Edge, Reaches, IsHighestOfCycle}
use Rattle.sp_graph.specs.Cycles.Reaches.{one, more}
use Rattle.sp_graph.specs.Graph.{LeadsTo, asserted_in, branch_in, way}
use Rattle.sp_graph.specs.Least.{Successor, WalkTo}
use Rattle.sp_graph.specs.Least.WalkTo.{entry, onward}
use Rattle.sp_graph.specs.declared.graph.Node.{Node}
use Rattle.sp_struct.specs.code.Breadth.{Grown, Closed}
use Rattle.sp_struct.specs.code.Turned.{shifted, way_of, turned_node, turned}
use Rattle.sp_struct.proofs.LeastLemmas.{all_reached, least_walk}

falls : (b : Bool) → not b ≡ true → b ≡ false
falls true e = absurd cc
falls false e = refl

module _ (graph : List Node) (highest : ℕ) where
  -- ---- Ways

  by_test : (to v : ℕ) (a b : Bool) → nat_lt to (highest + 1) ≡ a → asserted_in (slice_get graph to) ≡ b →
      (if a && not b then Some (to + 1) else None) ≡ Some v → (to < highest + 1) × (asserted_in (slice_get graph to) ≡ false) × (v ≡ to + 1)
  by_test to v true false e f h = (ltb-true to (highest + 1) e, f, (let same : to + 1 ≡ v = cc h in sym same))
  by_test to v true true e f h = absurd cc
  by_test to v false b e f h = absurd cc

  unshift : (o : Option ℕ) (v : ℕ) → shifted graph highest o ≡ Some v →
      (to : ℕ) × (o ≡ Some to) × (to < highest + 1) × (asserted_in (slice_get graph to) ≡ false) × (v ≡ to + 1)
  unshift None v h = absurd cc
  unshift (Some to) v h =
      let r = by_test to v (nat_lt to (highest + 1)) (asserted_in (slice_get graph to)) refl refl h in (to, refl, r.0, r.1, r.2)

  shift : (o : Option ℕ) (to : ℕ) → o ≡ Some to → to < highest + 1 → asserted_in (slice_get graph to) ≡ false → shifted graph highest o ≡ Some (to + 1)
  shift o to e l f = rw (e, lt-ltb to (highest + 1) l, f) refl

  way_out : (nodes : List Node) (j at : ℕ) → slice_get nodes j ≡ Some (turned_node graph highest at) → (taken : Bool) (v : ℕ) → LeadsTo nodes j taken v →
      way_of graph highest at taken ≡ Some v
  way_out nodes j at e false v h = rw e at h
  way_out nodes j at e true v h = rw e at h

  way_in : (nodes : List Node) (j at : ℕ) → slice_get nodes j ≡ Some (turned_node graph highest at) → (taken : Bool) (v : ℕ) → way_of graph highest at taken ≡ Some v →
      LeadsTo nodes j taken v
  way_in nodes j at e false v h = rw e h
  way_in nodes j at e true v h = rw e h

  -- ---- Nodes

  pub size : (count : ℕ) → length (turned graph highest count) ≡ count + 1
  unfolding turned
  size zero = omega arith
  size (suc count) = let s = size count in omega (arith, s, length-append (turned graph highest count) (turned_node graph highest count ∷ []))

  copy : (count : ℕ) → slice_get (turned graph highest count) 0 ≡ Some (turned_node graph highest highest)
  unfolding turned
  copy zero = refl
  copy (suc count) =
      let n = turned_node graph highest highest in
      let s = size count in
      let l = length-append (turned graph highest count) (turned_node graph highest count ∷ []) in
      slice_get-get_or (turned graph highest count ++ turned_node graph highest count ∷ []) 0 n (omega (arith, s, l))
      ∙ ap (λ x. Some x) (get_or_append_left (turned graph highest count) (turned_node graph highest count ∷ []) n 0 (omega (arith, s)))
      ∙ sym (slice_get-get_or (turned graph highest count) 0 n (omega (arith, s)))
      ∙ copy count

  node : (count i : ℕ) → i < count → slice_get (turned graph highest count) (i + 1) ≡ Some (turned_node graph highest i)
  unfolding turned
  node zero i l = absurd (omega arith)
  node (suc count) i l =
      let n = turned_node graph highest i in
      let s = size count in
      let m = length-append (turned graph highest count) (turned_node graph highest count ∷ []) in
      slice_get-get_or (turned graph highest count ++ turned_node graph highest count ∷ []) (i + 1) n (omega (arith, s, m))
      ∙ elim (cases_order i count) as (λ o. Some (get_or (turned graph highest count ++ turned_node graph highest count ∷ []) (i + 1) n) ≡ Some (turned_node graph highest i)) [
        | inl same ↦
            ap (λ x. Some x) (get_or_push (turned graph highest count) (turned_node graph highest count) n (i + 1) (omega (arith, s, same)) ∙ ap (turned_node graph highest) (sym same))
        | inr o ↦ elim o as (λ o. Some (get_or (turned graph highest count ++ turned_node graph highest count ∷ []) (i + 1) n) ≡ Some (turned_node graph highest i)) [
          | inl less ↦
              ap (λ x. Some x) (get_or_append_left (turned graph highest count) (turned_node graph highest count ∷ []) n (i + 1) (omega (arith, s, less)))
              ∙ sym (slice_get-get_or (turned graph highest count) (i + 1) n (omega (arith, s, less)))
              ∙ node count i less
          | inr above ↦ absurd (omega (arith, l, above))
        ]
      ]

  -- ---- Walks

  abbrev nodes : List Node
  nodes = turned graph highest (highest + 1)

  edge : (at : ℕ) (taken : Bool) (v : ℕ) → way_of graph highest at taken ≡ Some v → (to : ℕ) × (v ≡ to + 1) × Edge graph (highest + 1) at taken to
  edge at taken v h = let u = unshift (way (branch_in (slice_get graph at) taken)) v h in (u.0, u.4, ((u.1, u.3), u.2))

  ends_low : (from to : ℕ) → Reaches graph (highest + 1) from to → to < highest + 1
  ends_low _ _ (one at taken to l e) = e.1
  ends_low _ _ (more from at taken to r e) = e.1

  abbrev Reached : ℕ → Type 0
  Reached v = (v ≡ 0) ⊎ ((w : ℕ) × (v ≡ w + 1) × Reaches graph (highest + 1) highest w)

  step : (a v : ℕ) (taken : Bool) → Reached a → LeadsTo nodes a taken v → Reached v
  step a v taken (inl z) h =
      let e = edge highest taken v (way_out nodes 0 highest (copy (highest + 1)) taken v (rw z at h)) in
      inr (e.0, e.1, one highest taken e.0 (omega arith) e.2)
  step a v taken (inr (w, is, r)) h =
      let e = edge w taken v (way_out nodes (w + 1) w (node (highest + 1) w (ends_low highest w r)) taken v (rw is at h)) in
      inr (e.0, e.1, more highest w taken e.0 r e.2)

  from_walk : (places : List ℕ) (v : ℕ) → WalkTo nodes places v → Reached v
  from_walk _ _ entry = inl refl
  from_walk _ _ (onward places a v w s) = elim s as (λ o. Reached v) [ inl h ↦ step a v false (from_walk places a w) h | inr h ↦ step a v true (from_walk places a w) h ]

  next : (j at : ℕ) (taken : Bool) (to : ℕ) → slice_get nodes j ≡ Some (turned_node graph highest at) → Edge graph (highest + 1) at taken to → Successor nodes j (to + 1)
  next j at false to e d = inl (way_in nodes j at e false (to + 1) (shift (way (branch_in (slice_get graph at) false)) to d.0.0 d.1 d.0.1))
  next j at true to e d = inr (way_in nodes j at e true (to + 1) (shift (way (branch_in (slice_get graph at) true)) to d.0.0 d.1 d.0.1))

  to_walk : (from w : ℕ) → Reaches graph (highest + 1) from w → from ≡ highest → (places : List ℕ) × WalkTo nodes places (w + 1)
  to_walk _ _ (one at taken to l d) e = ([] ++ 0 ∷ [], onward [] 0 (to + 1) entry (next 0 highest taken to (copy (highest + 1)) (rw e at d)))
  to_walk _ _ (more from at taken to r d) e =
      let w = to_walk from at r e in
      (w.0 ++ (at + 1) ∷ [], onward w.0 (at + 1) (to + 1) w.1 (next (at + 1) at taken to (node (highest + 1) at (ends_low from at r)) d))

  way_low : (j at : ℕ) (taken : Bool) (v : ℕ) → slice_get nodes j ≡ Some (turned_node graph highest at) → LeadsTo nodes j taken v → v < length nodes
  way_low j at taken v e h =
      let d = edge at taken v (way_out nodes j at e taken v h) in
      let s = size (highest + 1) in let is = d.1 in let l = d.2.1 in omega (arith, s, is, l)

  lead_low : (j : ℕ) (taken : Bool) (v : ℕ) → LeadsTo nodes j taken v → v < length nodes
  lead_low zero taken v h = way_low 0 highest taken v (copy (highest + 1)) h
  lead_low (suc i) taken v h = elim (cases_order i (highest + 1)) as (λ o. v < length nodes) [
    | inl same ↦ absurd (past (omega (arith, same)))
    | inr o ↦ elim o as (λ o. v < length nodes) [
      | inl less ↦ let is : suc i ≡ i + 1 = omega arith in way_low (i + 1) i taken v (node (highest + 1) i less) (rw is at h)
      | inr above ↦ absurd (past (omega (arith, above)))
    ]
  ]
    where
      past : highest + 1 ≤ i → ⊥
      past l =
          let s = size (highest + 1) in
          let none = slice_get_past nodes (suc i) (omega (arith, s, l)) in
          let q : way (branch_in None taken) ≡ Some v = rw none at h in absurd cc

  pub stays : (j v : ℕ) → Successor nodes j v → v < length nodes
  stays j v s = elim s as (λ o. v < length nodes) [ inl h ↦ lead_low j false v h | inr h ↦ lead_low j true v h ]

  module _ (seen : List Bool) (order up : List ℕ) (g : Grown nodes seen order up (length order)) (closed : Closed nodes order up (length order)) where
    pub is_high : get_or seen (highest + 1) false ≡ true → IsHighestOfCycle graph highest
    is_high e =
        let k = g.listed (highest + 1) e in
        let w = (least_walk nodes seen order up (length order) g closed k.0 k.1).walk in
        elim (from_walk _ (highest + 1) (rw k.2 at w)) as (λ o. IsHighestOfCycle graph highest) [
          | inl z ↦ absurd (omega (arith, z))
          | inr (v, is, r) ↦ let same : v ≡ highest = omega (arith, is) in rw same at r
        ]

    pub isnt_high : get_or seen (highest + 1) false ≡ false → IsHighestOfCycle graph highest → ⊥
    isnt_high e r =
        let w = to_walk highest highest r refl in
        let k = all_reached nodes seen order up (length order) g closed w.0 (highest + 1) w.1 in
        let m = g.marked k.0 k.1 in
        let t : get_or seen (highest + 1) false ≡ true = rw k.2 at m in cc (t, e)

pub first_turned : (graph : List Node) (highest : ℕ) → turned graph highest 0 ≡ turned_node graph highest highest ∷ []
unfolding turned
first_turned graph highest = refl

pub next_turned : (graph : List Node) (highest count : ℕ) → turned graph highest (count + 1) ≡ turned graph highest count ++ turned_node graph highest count ∷ []
unfolding turned
next_turned graph highest count = let is : count + 1 ≡ suc count = omega arith in rw is refl
