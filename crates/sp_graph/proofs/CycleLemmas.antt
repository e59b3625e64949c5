-- Where successors stand first there is no cycle, and the highest of the first cycle.
use Rattle.std.proofs.Common.{◌≡◌, ◌≤◌, ◌<◌, ◌+◌, ℕ, ◌⊎◌, inl, inr, arith, Bool, List, sym, ◌∙◌, subst, length, get_or}
use Rattle.std.proofs.lemmas.Bool.{cases_order}
use Rattle.sp_graph.specs.Cycles.{Edge, Reaches, IsHighestOfCycle, SuccessorsFirst}
use Rattle.sp_graph.specs.Cycles.Reaches.{one, more}
use Rattle.sp_graph.specs.declared.graph.Node.{Node}

same_place : (order : List ℕ) → ((j k : ℕ) → j < k → k < length order → get_or order j 0 ≡ get_or order k 0 → ⊥) →
    (j k : ℕ) → j < length order → k < length order → get_or order j 0 ≡ get_or order k 0 → j ≡ k
same_place order once j k l m e =
    elim (cases_order j k) as (λ o. j ≡ k) [ inl same ↦ same | inr o ↦ elim o [ inl a ↦ absurd (once j k a m e) | inr b ↦ absurd (once k j b l (sym e)) ] ]

module _ (graph : List Node) (limit : ℕ) (order : List ℕ) (sorted : SuccessorsFirst graph limit order) where
  edge_falls : (i j : ℕ) (at : ℕ) (taken : Bool) (to : ℕ) → i < length order → get_or order i 0 ≡ at → j < length order → get_or order j 0 ≡ to → Edge graph limit at taken to → j < i
  edge_falls i j at taken to l e m f edge =
      let first = sorted.first i taken to l (rw e edge) in
      let less : first.0 < i = first.1 in
      let same : first.0 ≡ j = same_place order sorted.once first.0 j (omega arith) m (first.2 ∙ sym f) in omega arith

  reaches_from : (from to : ℕ) → Reaches graph limit from to → (from < limit) × (to < limit)
  reaches_from _ _ (one at taken to l edge) = (l, edge.1)
  reaches_from _ _ (more from at taken to r edge) = ((reaches_from from at r).0, edge.1)

  reaches_falls : (from to : ℕ) → Reaches graph limit from to → (i j : ℕ) → i < length order → get_or order i 0 ≡ from → j < length order → get_or order j 0 ≡ to → j < i
  reaches_falls _ _ (one at taken to l edge) i j li e lj f = edge_falls i j at taken to li e lj f edge
  reaches_falls _ _ (more from at taken to r edge) i j li e lj f =
      let k = sorted.every at (reaches_from from at r).1 in
      let a = reaches_falls from at r i k.0 li e k.1 k.2 in
      let b = edge_falls k.0 j at taken to k.1 k.2 lj f edge in omega arith

  pub no_cycle : (at : ℕ) → Reaches graph limit at at → ⊥
  no_cycle at r =
      let k = sorted.every at (reaches_from at at r).0 in
      let f = reaches_falls at at r k.0 k.0 k.1 k.2 k.1 k.2 in omega arith

pub joined : (graph : List Node) (limit a b c : ℕ) → Reaches graph limit a b → Reaches graph limit b c → Reaches graph limit a c
joined graph limit a _ _ r (one at taken to l edge) = more a at taken to r edge
joined graph limit a _ _ r (more from at taken to s edge) = more a at taken to (joined graph limit a from at r s) edge

abbrev pub Comes : List Node → ℕ → ℕ → ℕ → Type 0
Comes graph limit a b = (a ≡ b) ⊎ Reaches graph limit a b

-- steps below n + 1 are below n, or pass n
module _ (graph : List Node) (n : ℕ) where
  below_or_at : (v : ℕ) → v < n + 1 → (v < n) ⊎ (v ≡ n)
  below_or_at v l = elim (cases_order v n) as (λ o. (v < n) ⊎ (v ≡ n))
      [ inl e ↦ inr e | inr o ↦ elim o as (λ o. (v < n) ⊎ (v ≡ n)) [ inl a ↦ inl a | inr b ↦ absurd (omega arith) ] ]

  passes : (a b : ℕ) → Reaches graph (n + 1) a b → Reaches graph n a b ⊎ (Comes graph (n + 1) a n × Comes graph (n + 1) n b)
  passes _ _ (one at taken to l edge) =
      elim (below_or_at at l) as (λ o. Reaches graph n at to ⊎ (Comes graph (n + 1) at n × Comes graph (n + 1) n to)) [
        | inl la ↦ elim (below_or_at to edge.1) as (λ o. Reaches graph n at to ⊎ (Comes graph (n + 1) at n × Comes graph (n + 1) n to)) [
          | inl lt ↦ inl (one at taken to la (edge.0, lt))
          | inr is ↦ inr (inr (subst (λ (v : ℕ). Reaches graph (n + 1) at v) is (one at taken to l edge)), inl (sym is))
        ]
        | inr is ↦ inr (inl is, inr (subst (λ (v : ℕ). Reaches graph (n + 1) v to) is (one at taken to l edge)))
      ]
  passes _ _ (more from at taken to r edge) =
      elim (passes from at r) as (λ o. Reaches graph n from to ⊎ (Comes graph (n + 1) from n × Comes graph (n + 1) n to)) [
        | inl low ↦ elim (below_or_at to edge.1) as (λ o. Reaches graph n from to ⊎ (Comes graph (n + 1) from n × Comes graph (n + 1) n to)) [
          | inl lt ↦ inl (more from at taken to low (edge.0, lt))
          | inr is ↦ inr (inr (subst (λ (v : ℕ). Reaches graph (n + 1) from v) is (more from at taken to r edge)), inl (sym is))
        ]
        | inr p ↦ inr (
          p.0,
          inr (elim p.1 as (λ o. Reaches graph (n + 1) n to) [
            | inl is ↦ subst (λ (v : ℕ). Reaches graph (n + 1) v to) (sym is) (one at taken to (omega arith) edge)
            | inr s ↦ more n at taken to s edge
          ]),
        )
      ]

  -- where no cycle is below n, one below n + 1 has n as its highest
  pub highest : ((v : ℕ) → Reaches graph n v v → ⊥) → (v : ℕ) → Reaches graph (n + 1) v v → IsHighestOfCycle graph n
  highest none v r = elim (passes v v r) as (λ o. IsHighestOfCycle graph n) [
    | inl low ↦ absurd (none v low)
    | inr p ↦ elim p.0 as (λ o. IsHighestOfCycle graph n) [
      | inl is ↦ subst (λ (u : ℕ). Reaches graph (n + 1) u u) is r
      | inr to ↦ elim p.1 as (λ o. IsHighestOfCycle graph n) [
        | inl is ↦ subst (λ (u : ℕ). Reaches graph (n + 1) u u) (sym is) r
        | inr back ↦ joined graph (n + 1) n v n back to
      ]
    ]
  ]

-- a higher limit leaves the steps
widens : (graph : List Node) (low high a b : ℕ) → low ≤ high → Reaches graph low a b → Reaches graph high a b
widens graph low high _ _ w (one at taken to l edge) = let m : to < low = edge.1 in one at taken to (omega arith) (edge.0, omega arith)
widens graph low high _ _ w (more from at taken to r edge) = let m : to < low = edge.1 in more from at taken to (widens graph low high from at w r) (edge.0, omega arith)

pub no_highest : (graph : List Node) (low : ℕ) → ((v : ℕ) → Reaches graph low v v → ⊥) → (at : ℕ) → at < low → IsHighestOfCycle graph at → ⊥
no_highest graph low none at l r = none at (widens graph (at + 1) low at at (omega arith) r)

below_none : (graph : List Node) (a b : ℕ) → Reaches graph 0 a b → ⊥
below_none graph _ _ (one at taken to l edge) = omega arith
below_none graph _ _ (more from at taken to r edge) = let m : to < 0 = edge.1 in omega arith

pub none_below_zero : (graph : List Node) (v : ℕ) → Reaches graph 0 v v → ⊥
none_below_zero graph v r = below_none graph v v r

-- the least limit with a cycle has its highest instruction
pub found_highest :
    (graph : List Node) (low high : ℕ) → high ≡ low + 1 → ((v : ℕ) → Reaches graph low v v → ⊥) → (v : ℕ) → Reaches graph high v v → IsHighestOfCycle graph low
found_highest graph low high e none v r = highest graph low none v (subst (λ (n : ℕ). Reaches graph n v v) e r)

ends_low : (graph : List Node) (limit a b : ℕ) → Reaches graph limit a b → b < limit
ends_low graph limit _ _ (one at taken to l edge) = edge.1
ends_low graph limit _ _ (more from at taken to r edge) = edge.1

pub has_room : (graph : List Node) (limit v : ℕ) → Reaches graph limit v v → 0 < limit
has_room graph limit v r = let l : v < limit = ends_low graph limit v v r in omega arith
