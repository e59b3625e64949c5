-- The order of a search by levels is that of the least walks.
use Rattle.std.proofs.Common.{◌≡◌, ◌≤◌, ◌<◌, ℕ, zero, suc, ◌⊎◌, inl, inr, arith, Bool, List, [], ◌∷◌, ◌++◌, sym, refl, ap, ◌∙◌, length, length-append, get_or}
use Rattle.std.proofs.lemmas.Bool.{cases_order}
use Rattle.sp_graph.specs.Least.{WalkTo, Before, Lower, IsLeastWalk}
use Rattle.sp_graph.specs.Least.WalkTo.{entry, onward}
use Rattle.std.specs.Prelude.{ℤ}
use Rattle.sp_graph.specs.Depths.{HasDepth, depth_along}
use Rattle.sp_prog.specs.declared.routine.Stmt.{Stmt}
use Rattle.sp_struct.specs.code.Breadth.{Grown, Closed}
use Rattle.sp_graph.specs.declared.graph.Node.{Node}
use Rattle.sp_struct.proofs.OrderLemmas.{before_append, before_last, before_trans}

-- the instructions before the one at a place of the order, back to the entry
pub chain : List ℕ → List ℕ → ℕ → ℕ → List ℕ
chain order up zero k = []
chain order up (suc fuel) zero = []
chain order up (suc fuel) (suc k) = chain order up fuel (get_or up (suc k) 0) ++ get_or order (get_or up (suc k) 0) 0 ∷ []

pub chain_entry : (order up : List ℕ) (fuel : ℕ) → chain order up fuel 0 ≡ []
unfolding chain
chain_entry order up zero = refl
chain_entry order up (suc fuel) = refl

same_place : (order : List ℕ) → ((j k : ℕ) → j < k → k < length order → get_or order j 0 ≡ get_or order k 0 → ⊥) →
    (j k : ℕ) → j < length order → k < length order → get_or order j 0 ≡ get_or order k 0 → j ≡ k
same_place order once j k l m e =
    elim (cases_order j k) as (λ o. j ≡ k) [ inl same ↦ same | inr o ↦ elim o [ inl a ↦ absurd (once j k a m e) | inr b ↦ absurd (once k j b l (sym e)) ] ]

module _ (graph : List Node) (seen : List Bool) (order up : List ℕ) (head : ℕ) (g : Grown graph seen order up head) where
  stable : (f h k : ℕ) → k < length order → k ≤ f → k ≤ h → chain order up f k ≡ chain order up h k
  unfolding chain
  stable zero zero k l a b = refl
  stable zero (suc h) zero l a b = refl
  stable zero (suc h) (suc k) l a b = absurd (omega arith)
  stable (suc f) zero zero l a b = refl
  stable (suc f) zero (suc k) l a b = absurd (omega arith)
  stable (suc f) (suc h) zero l a b = refl
  stable (suc f) (suc h) (suc k) l a b =
      let p : get_or up (suc k) 0 < suc k = (g.parent (suc k) (omega arith) l).0 in
      ap (λ c. c ++ get_or order (get_or up (suc k) 0) 0 ∷ []) (stable f h (get_or up (suc k) 0) (omega arith) (omega arith) (omega arith))

  pub chain_short : (f k : ℕ) → k < length order → k ≤ f → length (chain order up f k) ≤ k
  unfolding chain
  chain_short zero k l a = omega arith
  chain_short (suc f) zero l a = omega arith
  chain_short (suc f) (suc k) l a =
      let p : get_or up (suc k) 0 < suc k = (g.parent (suc k) (omega arith) l).0 in
      let rest = chain_short f (get_or up (suc k) 0) (omega arith) (omega arith) in
      omega (arith, rest, length-append (chain order up f (get_or up (suc k) 0)) (get_or order (get_or up (suc k) 0) 0 ∷ []))

  walk : (f k : ℕ) → k < length order → k ≤ f → WalkTo graph (chain order up f k) (get_or order k 0)
  unfolding chain
  walk zero zero l a = rw g.starts entry
  walk zero (suc k) l a = absurd (omega arith)
  walk (suc f) zero l a = rw g.starts entry
  walk (suc f) (suc k) l a =
      let p = g.parent (suc k) (omega arith) l in
      let b : get_or up (suc k) 0 < suc k = p.0 in
      onward (chain order up f (get_or up (suc k) 0)) (get_or order (get_or up (suc k) 0) 0) (get_or order (suc k) 0)
      (walk f (get_or up (suc k) 0) (omega arith) (omega arith)) p.1

  -- the walks to the places of the order, with their ends, rise
  ordered : (f j k : ℕ) → j < k → k < length order → k ≤ f →
      Before (chain order up f j ++ get_or order j 0 ∷ []) (chain order up f k ++ get_or order k 0 ∷ [])
  unfolding chain
  ordered zero j k l m a = absurd (omega arith)
  ordered (suc f) j zero l m a = absurd (omega arith)
  ordered (suc f) zero (suc k) l m a =
      inl (omega (
        arith,
        length-append (chain order up f (get_or up (suc k) 0) ++ get_or order (get_or up (suc k) 0) 0 ∷ []) (get_or order (suc k) 0 ∷ []),
        length-append (chain order up f (get_or up (suc k) 0)) (get_or order (get_or up (suc k) 0) 0 ∷ []),
      ))
  ordered (suc f) (suc j) (suc k) l m a =
      let p : get_or up (suc k) 0 < suc k = (g.parent (suc k) (omega arith) m).0 in
      elim (g.rising (suc j) (suc k) (omega arith) l m)
      as (λ o. Before ((chain order up f (get_or up (suc j) 0) ++ get_or order (get_or up (suc j) 0) 0 ∷ []) ++ get_or order (suc j) 0 ∷ [])
      ((chain order up f (get_or up (suc k) 0) ++ get_or order (get_or up (suc k) 0) 0 ∷ []) ++ get_or order (suc k) 0 ∷ [])) [
        | inl less ↦ before_append _ _ (get_or order (suc j) 0) (get_or order (suc k) 0)
            (ordered f (get_or up (suc j) 0) (get_or up (suc k) 0) less (omega arith) (omega arith))
        | inr q ↦ rw q.0 (before_last (chain order up f (get_or up (suc k) 0) ++ get_or order (get_or up (suc k) 0) 0 ∷ []) (get_or order (suc j) 0) (get_or order (suc k) 0) q.1)
      ]

  -- the walk to a place of the order by the one that first saw it
  pub chain_up : (f k : ℕ) → 0 < k → k < length order → k ≤ f →
      chain order up f k ≡ chain order up f (get_or up k 0) ++ get_or order (get_or up k 0) 0 ∷ []
  unfolding chain
  chain_up f zero l m a = absurd (omega arith)
  chain_up zero (suc k) l m a = absurd (omega arith)
  chain_up (suc f) (suc k) l m a =
      let p : get_or up (suc k) 0 < suc k = (g.parent (suc k) l m).0 in
      ap (λ c. c ++ get_or order (get_or up (suc k) 0) 0 ∷ []) (stable f (suc f) (get_or up (suc k) 0) (omega arith) (omega arith) (omega arith))

  entry_first : (k : ℕ) (places : List ℕ) (at : ℕ) → k ≡ 0 → Before (chain order up (length order) k) (places ++ at ∷ [])
  entry_first k places at e =
      rw (e, chain_entry order up (length order)) (inl (omega (arith, length-append places (at ∷ []))))

  seen_first :
      (i p : ℕ) (places : List ℕ) (at : ℕ) → i < length order → get_or order i 0 ≡ at → p ≤ i →
      (chain order up (length order) i ≡ places) ⊎ Before (chain order up (length order) i) places →
      (chain order up (length order) p ++ get_or order p 0 ∷ [] ≡ places ++ at ∷ []) ⊎ Before (chain order up (length order) p ++ get_or order p 0 ∷ []) (places ++ at ∷ [])
  seen_first i p places at l e b n =
      let here : (chain order up (length order) i ++ get_or order i 0 ∷ [] ≡ places ++ at ∷ []) ⊎ Before (chain order up (length order) i ++ get_or order i 0 ∷ []) (places ++ at ∷ []) =
      rw e (elim n as (λ o. (chain order up (length order) i ++ at ∷ [] ≡ places ++ at ∷ []) ⊎ Before (chain order up (length order) i ++ at ∷ []) (places ++ at ∷ []))
      [ inl same ↦ inl (ap (λ c. c ++ at ∷ []) same) | inr before ↦ inr (before_append _ _ at at before) ]) in
      elim (cases_order p i) as (λ o. (chain order up (length order) p ++ get_or order p 0 ∷ [] ≡ places ++ at ∷ []) ⊎ Before (chain order up (length order) p ++ get_or order p 0 ∷ []) (places ++ at ∷ [])) [
        | inl same ↦ rw same here
        | inr o ↦ elim o [
          | inl less ↦
              let first = ordered (length order) p i less l (omega arith) in
              inr (elim here as (λ o. Before (chain order up (length order) p ++ get_or order p 0 ∷ []) (places ++ at ∷ []))
              [ inl same ↦ rw same at first | inr before ↦ before_trans _ _ _ first before ])
          | inr more ↦ absurd (omega arith)
        ]
      ]

  extends :
      (i k : ℕ) (places : List ℕ) (at : ℕ) → i < length order → get_or order i 0 ≡ at →
      (chain order up (length order) i ≡ places) ⊎ Before (chain order up (length order) i) places →
      k < length order → (k ≡ 0) ⊎ (get_or up k 0 ≤ i) →
      (chain order up (length order) k ≡ places ++ at ∷ []) ⊎ Before (chain order up (length order) k) (places ++ at ∷ [])
  extends i k places at l e n m o =
      elim (cases_order k 0) as (λ o. (chain order up (length order) k ≡ places ++ at ∷ []) ⊎ Before (chain order up (length order) k) (places ++ at ∷ [])) [
        | inl zero_is ↦ inr (entry_first k places at zero_is)
        | inr c ↦ elim c [
          | inl less ↦ absurd (omega arith)
          | inr more ↦
              let below : get_or up k 0 ≤ i = elim o as (λ o. get_or up k 0 ≤ i) [ inl z ↦ absurd (omega arith) | inr b ↦ b ] in
              rw (chain_up (length order) k more m (omega arith)) (seen_first i (get_or up k 0) places at l e below n)
        ]
      ]

  module _ (closed : Closed graph order up (length order)) where
    no_lower_walk :
        (places : List ℕ) (at : ℕ) → WalkTo graph places at →
        (k : ℕ) × (k < length order) × (get_or order k 0 ≡ at) × ((chain order up (length order) k ≡ places) ⊎ Before (chain order up (length order) k) places)
    no_lower_walk _ _ entry = (0, g.some, g.starts, inl (chain_entry order up (length order)))
    no_lower_walk _ _ (onward places at to w s) =
        let i = no_lower_walk places at w in
        let found = closed i.0 to i.1 (rw i.2 s) in
        (found.0, found.1, found.2, extends i.0 found.0 places at i.1 i.2 i.3 found.1 found.3)

  pub all_reached : Closed graph order up (length order) → (places : List ℕ) (at : ℕ) → WalkTo graph places at → (k : ℕ) × (k < length order) × (get_or order k 0 ≡ at)
  all_reached closed places at w = let r = no_lower_walk closed places at w in (r.0, r.1, r.2)

  pub least_walk : Closed graph order up (length order) → (k : ℕ) → k < length order → IsLeastWalk graph (chain order up (length order) k) (get_or order k 0)
  least_walk closed k l = record {
    walk = walk (length order) k l (omega arith);
    least = λ others w.
        let i = no_lower_walk closed others (get_or order k 0) w in
        let same : i.0 ≡ k = same_place order g.once i.0 k i.1 l i.2 in
        rw same at i.3;
  }

-- a list of addresses isn't lower than itself
not_lower : (xs : List ℕ) → Lower xs xs → ⊥
not_lower [] l = l
not_lower (x ∷ xs) l = elim l as (λ o. ⊥) [ inl low ↦ absurd (omega arith) | inr rest ↦ not_lower xs rest.1 ]

-- two least walks to an instruction are one
one_least : (graph : List Node) (xs ys : List ℕ) (at : ℕ) → IsLeastWalk graph xs at → IsLeastWalk graph ys at → xs ≡ ys
one_least graph xs ys at a b = elim (a.least ys b.walk) as (λ o. xs ≡ ys) [
  | inl same ↦ same
  | inr before ↦ elim (b.least xs a.walk) as (λ o. xs ≡ ys) [
    | inl same ↦ sym same
    | inr back ↦ absurd (elim (before_trans xs ys xs before back) as (λ o. ⊥) [ inl low ↦ absurd (omega arith) | inr same ↦ not_lower xs same.1 ])
  ]
]

-- an instruction has one depth
pub one_depth : (graph : List Node) (code : List Stmt) (at : ℕ) (d e : ℤ) → HasDepth graph code at d → HasDepth graph code at e → d ≡ e
one_depth graph code at d e a b = a.2 ∙ ap (depth_along code) (one_least graph a.0 b.0 at a.1 b.1) ∙ sym b.2
