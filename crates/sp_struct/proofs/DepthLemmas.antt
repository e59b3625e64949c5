-- The depth along each least walk, from that along the walk to the instruction before.
use Rattle.std.proofs.Common.{◌≡◌, ◌≢◌, ◌≤◌, ◌<◌, ◌+◌, ◌*◌, ℕ, ◌⊎◌, inl, inr, arith, Bool, true, false, List, [], ◌∷◌, ◌++◌, Option, None, Some, slice_get, sym, ◌∙◌, length, get_or, set, length-set, get_or-set_same, get_or-set_other}
use Rattle.std.specs.Prelude.{ℤ, pos, negsuc, ◌+ℤ◌, ◌≤ℤ◌}
use Rattle.std.specs.Prelude.{replicate}
use Rattle.std.proofs.lemmas.Bool.{cases_order}
use Rattle.std.proofs.lemmas.Int.{ints}
use Rattle.std.proofs.lemmas.List.{get_or_past, get_or-replicate, length-replicate}
use Rattle.sp_isa.specs.declared.instr.Instr.{Instr}
use Rattle.sp_isa.specs.declared.instr.Instr.TheVariants.{Push, Pop}
use Rattle.sp_graph.specs.Depths.{effect, effect_in, depth_along}
use Rattle.sp_graph.specs.declared.graph.Node.{Node}
use Rattle.sp_prog.specs.declared.routine.Stmt.{Stmt}
use Rattle.sp_struct.specs.code.Breadth.{Grown, Closed}
use Rattle.sp_struct.specs.code.Depths.{depth_at, TellsDepths, TellsFirst}
use Rattle.sp_graph.proofs.PlacesLemmas.{distinct_are_few}
use Rattle.sp_struct.proofs.LeastLemmas.{chain, chain_up, chain_entry, chain_short, least_walk, all_reached}

depth_append : (code : List Stmt) (xs : List ℕ) (x : ℕ) → depth_along code (xs ++ x ∷ []) ≡ depth_along code xs +ℤ effect_in (slice_get code x)
depth_append code [] x = omega (arith, ints)
depth_append code (y ∷ xs) x = omega (arith, ints, depth_append code xs x)

pub effect_small : (i : Instr) → (negsuc 1 ≤ℤ effect i) × (effect i ≤ℤ pos 2)
effect_small (Push pair) = (omega (arith, ints), omega (arith, ints))
effect_small (Pop pair) = (omega (arith, ints), omega (arith, ints))
effect_small _ = (omega (arith, ints), omega (arith, ints))

effect_bound : (o : Option Stmt) → (negsuc 1 ≤ℤ effect_in o) × (effect_in o ≤ℤ pos 2)
effect_bound None = (omega (arith, ints), omega (arith, ints))
effect_bound (Some s) = effect_small s.instr

-- a depth is at most two bytes an instruction
pub depth_bound : (code : List Stmt) (places : List ℕ) →
    (pos 0 ≤ℤ (depth_along code places +ℤ pos (2 * length places))) × (depth_along code places ≤ℤ pos (2 * length places))
depth_bound code [] = (omega (arith, ints), omega (arith, ints))
depth_bound code (at ∷ places) =
    let e = effect_bound (slice_get code at) in
    let d = depth_bound code places in
    (omega (arith, ints, e.0, d.0), omega (arith, ints, e.1, d.1))

same_or_not : (a b : ℕ) → (a ≡ b) ⊎ (a ≢ b)
same_or_not a b = elim (cases_order a b) as (λ o. (a ≡ b) ⊎ (a ≢ b))
    [ inl e ↦ inl e | inr o ↦ inr (λ e. elim o [ inl l ↦ omega arith | inr l ↦ omega arith ]) ]

seen_within : (seen : List Bool) (v : ℕ) → get_or seen v false ≡ true → v < length seen
seen_within seen v h = elim (cases_order v (length seen)) as (λ o. v < length seen) [
  | inl e ↦ let past = get_or_past seen v false (omega arith) in cc (past, h)
  | inr o ↦ elim o [ inl l ↦ l | inr l ↦ let past = get_or_past seen v false (omega arith) in cc (past, h) ]
]

module _ (graph : List Node) (seen : List Bool) (order up : List ℕ) (head : ℕ) (g : Grown graph seen order up head) where
  abbrev pub walk_of : ℕ → List ℕ
  walk_of k = chain order up (length order) k

  pub order_within : (k : ℕ) → k < length order → get_or order k 0 < length graph
  order_within k l = let w = seen_within seen (get_or order k 0) (g.marked k l) in let e = g.marks in omega arith

  -- an order has at most as many places as the graph has instructions
  pub order_few : length order ≤ length graph
  order_few = distinct_are_few order (length graph) (λ i j l m e. g.once i j l m e) order_within

  module _ (code : List Stmt) where
    -- the depth of an instruction before this one fits
    pub depth_fits : (k : ℕ) → k < length order →
        (pos 0 ≤ℤ (depth_along code (walk_of k) +ℤ pos (2 * k))) × (depth_along code (walk_of k) ≤ℤ pos (2 * k))
    depth_fits k l =
        let b = depth_bound code (walk_of k) in
        let s = chain_short graph seen order up head g (length order) k l (omega arith) in
        (omega (arith, ints, b.0, s), omega (arith, ints, b.1, s))

    pub tells_entry : (depths : List ℤ) → depths ≡ replicate {A = ℤ} (length graph) (pos 0) → TellsFirst graph code walk_of order depths 1
    tells_entry depths zeros = record {
      size = rw zeros (length-replicate (length graph) (pos 0));
      some = omega arith;
      within = let s = g.some in omega (arith, s);
      placed = λ k l. let zero_is : k ≡ 0 = omega arith in
          rw (zero_is, g.starts, chain_entry order up (length order), zeros) (get_or-replicate (length graph) 0 (pos 0) (pos 0) (let w = order_within 0 g.some in omega (arith, w)));
    }

    module _ (depths : List ℤ) (next : ℕ) (t : TellsFirst graph code walk_of order depths next) (l : next < length order) where
      pub parent_low : get_or up next 0 < next
      parent_low = let s = t.some in (g.parent next (omega (arith, s)) l).0

      pub parent_depth : depth_at depths (get_or order (get_or up next 0) 0) ≡ depth_along code (walk_of (get_or up next 0))
      parent_depth = t.placed (get_or up next 0) parent_low

      depth_next : (s : Stmt) → slice_get code (get_or order (get_or up next 0) 0) ≡ Some s →
          depth_along code (walk_of (get_or up next 0)) +ℤ effect s.instr ≡ depth_along code (walk_of next)
      depth_next s e =
          let some = t.some in
          rw (chain_up graph seen order up head g (length order) next (omega (arith, some)) l (omega arith))
          (rw e at (sym (depth_append code (walk_of (get_or up next 0)) (get_or order (get_or up next 0) 0))))

      pub tells_next : (s : Stmt) → slice_get code (get_or order (get_or up next 0) 0) ≡ Some s →
          TellsFirst graph code walk_of order
          (set depths (get_or order next 0) (depth_at depths (get_or order (get_or up next 0) 0) +ℤ effect s.instr)) (next + 1)
      tells_next s e =
          let at = get_or order next 0 in
          let deep = depth_at depths (get_or order (get_or up next 0) 0) +ℤ effect s.instr in
          let inside : at < length depths = let w = order_within next l in let z = t.size in omega (arith, w, z) in
          let value : deep ≡ depth_along code (walk_of next) = rw parent_depth (depth_next s e) in
          record {
            size = length-set depths at deep ∙ t.size;
            some = omega arith;
            within = omega arith;
            placed = λ k lk. elim (same_or_not k next) as (λ o. depth_at (set depths at deep) (get_or order k 0) ≡ depth_along code (walk_of k)) [
              | inl is ↦ rw is (get_or-set_same depths at deep (pos 0) inside ∙ value)
              | inr ne ↦
                  let low : k < next = omega (arith, ne) in
                  get_or-set_other depths at (get_or order k 0) deep (pos 0) (λ same. g.once k next low l same) ∙ t.placed k low
            ];
          }

      pub tells_by :
          (from to : ℕ) (s : Stmt) (after : List ℤ) → get_or order (get_or up next 0) 0 ≡ from → get_or order next 0 ≡ to → slice_get code from ≡ Some s →
          after ≡ set depths to (depth_at depths from +ℤ effect s.instr) → TellsFirst graph code walk_of order after (next + 1)
      tells_by from to s after f h e n = rw (n, ← f, ← h) (tells_next s (rw f e))

    -- when all places of the order are told
    pub all_told : (depths : List ℤ) (next : ℕ) → TellsFirst graph code walk_of order depths next → length order ≤ next →
        length code ≡ length graph → length code ≤ 65536 → Closed graph order up (length order) → Grown graph seen order up (length order) →
        TellsDepths graph code seen depths
    all_told depths next t past size few closed whole = record {
      size = t.size ∙ sym size;
      marks = g.marks ∙ sym size;
      some = λ at e.
          let k = g.listed at e in
          let lk : k.0 < length order = k.1 in
          let p = t.placed k.0 (omega arith) in
          (walk_of k.0, rw k.2 at (least_walk graph seen order up (length order) whole closed k.0 k.1), rw k.2 at p);
      none = λ at e places w.
          let k = all_reached graph seen order up (length order) whole closed places at w in
          let m = g.marked k.0 k.1 in
          let m_at : get_or seen at false ≡ true = rw k.2 at m in
          cc (m_at, e);
      small = λ at e.
          let k = g.listed at e in
          let lk : k.0 < length order = k.1 in
          let p = t.placed k.0 (omega arith) in
          let fits = depth_fits k.0 lk in
          let many = order_few in
          let low : pos 0 ≤ℤ (depth_along code (walk_of k.0) +ℤ pos 131072) = omega (arith, ints, fits.0, many, size, few, lk) in
          let high : depth_along code (walk_of k.0) ≤ℤ pos 131072 = omega (arith, ints, fits.1, many, size, few, lk) in
          let both : (pos 0 ≤ℤ (depth_along code (walk_of k.0) +ℤ pos 131072)) × (depth_along code (walk_of k.0) ≤ℤ pos 131072) = (low, high) in
          rw k.2 at (rw (← p) at both);
    }
