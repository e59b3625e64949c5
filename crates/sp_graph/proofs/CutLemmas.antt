-- The walks from each cut point in turn.
use Rattle.std.proofs.Common.{◌≡◌, ◌<◌, ◌≤◌, ◌+◌, ◌-◌, ℕ, suc, arith, Bool, true, false, List, [], ◌∷◌, ◌++◌, map, None, Some, slice_get, length, length-append, refl, ap, if◌then◌else◌}
use Rattle.std.specs.List.{filter, flat_map, range_with_len}
use Rattle.std.proofs.lemmas.List.Folds.{flat_map-map}
use Rattle.sp_graph.specs.Graph.{asserted_in}
use Rattle.sp_graph.specs.Walks.{walks_from, walks_after, assertions_from, walks, cut_of}
use Rattle.sp_graph.specs.code.Counts.{at_most}
use Rattle.sp_graph.specs.declared.graph.Node.{Node}
use Rattle.sp_graph.specs.declared.walk.Cut.TheVariants.{At}
use Rattle.sp_graph.specs.declared.walk.Walk.{Walk}

module _ (graph : List Node) where
  pub walks_split : walks graph ≡ walks_from graph None ++ walks_after graph 0
  walks_split = ap (λ ws. walks_from graph None ++ ws) (flat_map-map (walks_from graph) (λ at. Some at) (assertions_from graph 0))

  filtered : (first n : ℕ) (b : Bool) → asserted_in (slice_get graph first) ≡ b →
      flat_map (λ at. walks_from graph (Some at)) (filter (λ at. asserted_in (slice_get graph at)) (range_with_len first (suc n)))
      ≡ (if b then walks_from graph (Some first) else []) ++ flat_map (λ at. walks_from graph (Some at)) (filter (λ at. asserted_in (slice_get graph at)) (range_with_len (first + 1) n))
  filtered first n true e = rw e refl
  filtered first n false e = rw e refl

  asserted_next : (first n : ℕ) (b : Bool) → asserted_in (slice_get graph first) ≡ b →
      filter (λ at. asserted_in (slice_get graph at)) (range_with_len first (suc n))
      ≡ (if b then first ∷ [] else []) ++ filter (λ at. asserted_in (slice_get graph at)) (range_with_len (first + 1) n)
  asserted_next first n true e = rw e refl
  asserted_next first n false e = rw e refl

  one_less : (first : ℕ) → first < length graph → length graph - first ≡ suc (length graph - (first + 1))
  one_less first l = omega arith

  -- the walks from an assertion come before those from the later ones
  pub walks_next : (first : ℕ) (b : Bool) → first < length graph → asserted_in (slice_get graph first) ≡ b →
      walks_after graph first ≡ (if b then walks_from graph (Some first) else []) ++ walks_after graph (first + 1)
  walks_next first b l e = rw (one_less first l) (filtered first (length graph - (first + 1)) b e)

  pub no_walks_after : (first : ℕ) → length graph ≤ first → walks_after graph first ≡ []
  no_walks_after first l = let e : length graph - first ≡ 0 = omega arith in rw e refl

  told_next : (first : ℕ) (b : Bool) (xs ys : List ℕ) → xs ≡ (if b then first ∷ [] else []) ++ ys →
      map cut_of (map (λ at. Some at) xs) ≡ (if b then At first ∷ [] else []) ++ map cut_of (map (λ at. Some at) ys)
  told_next first true xs ys e = rw e refl
  told_next first false xs ys e = rw e refl

  -- the cut points from an instruction on
  pub cuts_next : (first : ℕ) (b : Bool) → first < length graph → asserted_in (slice_get graph first) ≡ b →
      map cut_of (map (λ at. Some at) (assertions_from graph first))
      ≡ (if b then At first ∷ [] else []) ++ map cut_of (map (λ at. Some at) (assertions_from graph (first + 1)))
  cuts_next first b l e =
      told_next first b (assertions_from graph first) (assertions_from graph (first + 1))
      (rw (one_less first l) (asserted_next first (length graph - (first + 1)) b e))

  pub no_cuts_after : (first : ℕ) → length graph ≤ first → map cut_of (map (λ at. Some at) (assertions_from graph first)) ≡ []
  no_cuts_after first l = let e : length graph - first ≡ 0 = omega arith in rw e refl

  -- adding the walks from one cut point to those before
  pub total_next : (first total count : ℕ) → first < length graph → asserted_in (slice_get graph first) ≡ true →
      at_most (length (walks_from graph (Some first))) ≡ count →
      at_most (at_most (total + count) + length (walks_after graph (first + 1))) ≡ at_most (total + length (walks_after graph first))
  total_next first total count l a e =
      let next = ap (length {A = Walk}) (walks_next first true l a) in
      omega (arith, next, e, length-append (walks_from graph (Some first)) (walks_after graph (first + 1)))

  pub total_same : (first total : ℕ) → first < length graph → asserted_in (slice_get graph first) ≡ false →
      at_most (total + length (walks_after graph (first + 1))) ≡ at_most (total + length (walks_after graph first))
  total_same first total l a = rw (walks_next first false l a) refl
