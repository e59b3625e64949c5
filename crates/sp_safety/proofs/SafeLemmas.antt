-- A settled unit is safe.
use Rattle.std.proofs.Common.{◌≡◌, inl, inr, ℕ, ◌+◌, ◌-◌, ◌<◌, Bool, true, false, cond, List, [], ◌∷◌, map, filter, length, get_or, Option, None, Some, slice_get, refl, sym, ap, subst, ◌∙◌, arith, tests}
use Rattle.std.specs.Prelude.{Contains, unwrap_or, slice_index_or, flat_map}
use Rattle.std.specs.List.{range_with_len}
use Rattle.std.specs.Ordering.{nat_cmp}
use Rattle.std.specs.declared.cmp.Ordering.TheVariants.{Equal}
use Rattle.std.proofs.lemmas.List.Elements.{All-contains, Contains-append_left, Contains-append_right}
use Rattle.std.proofs.lemmas.List.FromFn.{length-range_with_len, get_or-range_with_len}
use Rattle.std.proofs.lemmas.Option.{slice_get-get_or, slice_get_within, get_or_from_slice_get}
use Rattle.sp_isa.specs.declared.instr.Instr.{Instr}
use Rattle.sp_isa.specs.declared.instr.Instr.TheVariants.{Call, Ccc, Rst}
use Rattle.sp_model.specs.Unit as runs
use Rattle.sp_prog.specs.Program.{Program}
use Rattle.sp_prog.specs.Rules.{IsRoutine, address_of}
use Rattle.sp_prog.specs.View.{routine_of, stmt_of, unit_of}
use Rattle.sp_prog.specs.declared.routine.Routine.{Routine}
use Rattle.sp_prog.proofs.MemberLemmas.{first, first_or_later, found, in_map, later, mapped, none}
use Rattle.sp_prog.proofs.UnitLemmas.{has_code}
use Rattle.sp_graph.specs.Control.{control_of}
use Rattle.sp_graph.specs.Cycles.{HasNoCycle}
use Rattle.sp_graph.specs.Graph.{asserted_in}
use Rattle.sp_graph.specs.Routines.{graph_of, graph_of_routine}
use Rattle.sp_graph.specs.Structure.{Calls, call_target}
use Rattle.sp_graph.specs.Successors.{routine_at}
use Rattle.sp_graph.specs.Walks.{IsCut, IsWalk, assertions_from, cuts, walks, walks_from}
use Rattle.sp_graph.specs.declared.graph.Node.{Node}
use Rattle.sp_graph.specs.declared.sound.Sound.{Sound}
use Rattle.sp_graph.specs.declared.walk.Walk.{Walk}
use Rattle.sp_graph.proofs.LayoutLemmas.{routines_rise}
use Rattle.sp_graph.proofs.LongLemmas.{no_walk_is_long}
use Rattle.sp_graph.proofs.NodeLemmas.{in_graph, length_graph}
use Rattle.sp_graph.proofs.PlaceLemmas as places
use Rattle.sp_graph.proofs.WalkLemmas.{walk_listed}
use Rattle.sp_struct.proofs.RankLemmas.{ranked}
use Rattle.sp_struct.proofs.StructuredLemmas.{loops_cut}
use Rattle.sp_term.specs.Admissible.{IsValid}
use Rattle.sp_cond.specs.WalkConditions.{condition_by, condition_in, setting_of}
use Rattle.sp_safety.specs.Calls.{IsRightInOwnCode}
use Rattle.sp_safety.specs.Contained.{CallsTo, called_address}
use Rattle.sp_safety.specs.Settled.{IsSettled, region_of}
use Rattle.sp_safety.specs.Theorems.{HasRanks, SettledUnitsAreSafe}
use Rattle.sp_safety.proofs.GivenLemmas.{Given, graph}
use Rattle.sp_safety.proofs.PhaseLemmas.{runs_are_safe}
use Rattle.sp_safety.proofs.RightLemmas.{all_right}

-- ---- Lists

in_flat : {A B : Type 0} (f : A → List B) (xs : List A) (x : A) (y : B) → Contains xs x → Contains (f x) y → Contains (flat_map f xs) y
in_flat f [] x y h k = absurd (none x h)
in_flat f (z ∷ xs) x y h k =
    elim (first_or_later z x xs h) [
      | inl e ↦ Contains-append_left (f z) (flat_map f xs) y (subst (λ w. Contains (f w) y) (sym e) k)
      | inr below ↦ Contains-append_right (f z) (flat_map f xs) y (in_flat f xs x y below k)
    ]

module _ {A : Type 0} (test : A → Bool) where
  stays_first : (b : Bool) (y : A) (xs : List A) → b ≡ true → Contains (cond b (y ∷ filter test xs) (filter test xs)) y
  stays_first true y xs h = first y (filter test xs)
  stays_first false y xs h = cc

  stays_later : (b : Bool) (y x : A) (xs : List A) → Contains (filter test xs) x → Contains (cond b (y ∷ filter test xs) (filter test xs)) x
  stays_later true y x xs h = later y x (filter test xs) h
  stays_later false y x xs h = h

  -- what passes the test stays
  stays : (xs : List A) (x : A) → Contains xs x → test x ≡ true → Contains (filter test xs) x
  stays [] x h passes = absurd (none x h)
  stays (y ∷ xs) x h passes =
      elim (first_or_later y x xs h) [
        | inl e ↦ subst (λ z. Contains (cond (test y) (y ∷ filter test xs) (filter test xs)) z) e (stays_first (test y) y xs (ap test e ∙ passes))
        | inr below ↦ stays_later (test y) y x xs (stays xs x below passes)
      ]

counted : (n k : ℕ) → k < n → Contains (range_with_len 0 n) k
counted n k less =
    let long = length-range_with_len 0 n in
    let same : 0 + k ≡ k = omega arith in
    (k, omega (arith, less, long), get_or-range_with_len 0 n k k less ∙ same)

asserted_within : (nodes : List Node) (at : ℕ) → asserted_in (slice_get nodes at) ≡ true → at < length nodes
asserted_within nodes at h = by (slice_get nodes at) refl h
  where
    by : (o : Option Node) → slice_get nodes at ≡ o → asserted_in o ≡ true → at < length nodes
    by None is e = cc
    by (Some n) is e = slice_get_within nodes at n is

-- ---- Cut points

cut_listed : (nodes : List Node) (from : Option ℕ) → IsCut nodes from → Contains (cuts nodes) from
cut_listed nodes None h = first None (map (λ at. Some at) (assertions_from nodes 0))
cut_listed nodes (Some at) h =
    let within = asserted_within nodes at h in
    later None (Some at) (map (λ k. Some k) (assertions_from nodes 0))
    (in_map (λ k. Some k) (assertions_from nodes 0) at (stays (λ k. asserted_in (slice_get nodes k)) (range_with_len 0 (length nodes - 0)) at (counted (length nodes - 0) at (omega (arith, within))) h))

call_address : (i : Instr) → called_address i ≡ call_target (control_of i)
call_address (Call w) = refl
call_address (Ccc c w) = refl
call_address (Rst n) = refl
call_address i = refl

same_order : (n : ℕ) → nat_cmp n n ≡ Equal
same_order n = grind (arith, tests)

module _ (p : Program) (sound : Sound) (settled : IsSettled p sound) where
  -- ---- a routine at its place

  depths_at : (k : ℕ) (routine : Routine) → slice_get p.routines k ≡ Some routine → (depths : List ℕ) × (slice_get sound.depths k ≡ Some depths)
  depths_at k routine among =
      let within = slice_get_within p.routines k routine among in
      let size = settled.structure.size in
      (get_or sound.depths k [], slice_get-get_or sound.depths k [] (omega (arith, within, size)))

  valid : (k : ℕ) (routine : Routine) (depths : List ℕ) → slice_get p.routines k ≡ Some routine → slice_get sound.depths k ≡ Some depths → IsRoutine p routine
      → (w : Walk) → IsCut (graph p routine) w.from → IsWalk (graph p routine) w.from w → IsValid p.image (region_of p) (condition_in (setting_of p routine depths) w)
  valid k routine depths among has rules w cut walk =
      let same : graph_of p k ≡ graph p routine = ap (graph_of_routine p.routines) among in
      let some : 0 < length (graph p routine) = let size = length_graph p.routines routine.code in let code = rules.some in omega (arith, size, code) in
      let cycles = subst (λ g. HasNoCycle g) same (loops_cut p k routine settled.structure.structured among) in
      let listed = walk_listed (graph p routine) w.from (no_walk_is_long (graph p routine) w.from (in_graph p.routines routine.code) some cut cycles) w walk in
      let all : Contains (walks (graph p routine)) w = in_flat (walks_from (graph p routine)) (cuts (graph p routine)) w.from w (cut_listed (graph p routine) w.from cut) listed in
      let here = settled.conditions k w (subst (λ g. Contains (walks g) w) (sym same) all) in
      subst (λ d. IsValid p.image (region_of p) (condition_in (setting_of p routine d) w)) (get_or_from_slice_get sound.depths k depths [] has)
      (subst (λ o. IsValid p.image (region_of p) (condition_by p o (slice_index_or sound.depths k []) w)) among here)

  given_at : (k : ℕ) (routine : Routine) → (among : slice_get p.routines k ≡ Some routine) → Given p k routine (depths_at k routine among).0
  given_at k routine among =
      let d = depths_at k routine among in
      record {
        unit = settled.unit;
        among = among;
        structured = settled.structure.structured;
        flow = settled.flow;
        depths_are = settled.structure.each k routine (depths_at k routine among).0 among (depths_at k routine among).1;
        valid = valid k routine (depths_at k routine among).0 among (depths_at k routine among).1
            (All-contains (IsRoutine p) p.routines routine settled.unit.routines (found p.routines k routine among));
      }

  own_code : (k : ℕ) (routine : Routine) → slice_get p.routines k ≡ Some routine → IsRightInOwnCode (unit_of p) (routine_of p.areas routine)
  own_code k routine among s entry n h =
      all_right (record { p = p; r = k; routine = routine; depths = (depths_at k routine among).0; given = given_at k routine among; s = s; entry = entry }) n h

  -- the routine of the program that a routine of the unit is
  from : (r : runs.Routine) → Contains (unit_of p).routines r → (k : ℕ) × (routine : Routine) × (slice_get p.routines k ≡ Some routine) × (routine_of p.areas routine ≡ r)
  from r h =
      let m = mapped (routine_of p.areas) p.routines r h in
      (m.1.0, m.0, slice_get-get_or p.routines m.1.0 m.0 m.1.1 ∙ ap (λ x. Some x) m.1.2, m.2)

  every : (r : runs.Routine) → Contains (unit_of p).routines r → IsRightInOwnCode (unit_of p) r
  every r h = let f = from r h in subst (IsRightInOwnCode (unit_of p)) f.3 (own_code f.0 f.1 f.2)

  -- ---- ranks

  ranks : (rank : ℕ → ℕ) × ((r c : ℕ) → Calls p r c → rank c < rank r)
  ranks = ranked p settled.structure.structured

  rank_of : runs.Routine → ℕ
  rank_of r = ranks.0 (unwrap_or (routine_at p.routines r.address) 0)

  at_place : (k : ℕ) (routine : Routine) → slice_get p.routines k ≡ Some routine → routine_at p.routines (address_of routine) ≡ Some k
  at_place k routine among =
      sym (places.found address_of (address_of routine) p.routines k (slice_get_within p.routines k routine among) (routines_rise p.routines settled.unit.rising)
      (λ d. subst (λ (x : Routine). nat_cmp (address_of x) (address_of routine) ≡ Equal) (sym (get_or_from_slice_get p.routines k routine d among)) (same_order (address_of routine))))

  rank_is : (k : ℕ) (routine : Routine) → slice_get p.routines k ≡ Some routine → rank_of (routine_of p.areas routine) ≡ ranks.0 k
  unfolding rank_of ranks
  rank_is k routine among = ap (λ o. ranks.0 (unwrap_or o 0)) (at_place k routine among)

  falls_by : (k : ℕ) (routine : Routine) → slice_get p.routines k ≡ Some routine → (m : ℕ) (other : Routine) → slice_get p.routines m ≡ Some other
      → CallsTo (unit_of p) (routine_of p.areas routine) (routine_of p.areas other) → ranks.0 m < ranks.0 k
  falls_by k routine among m other there call =
      let i = call.1 in
      let st = mapped stmt_of routine.code i.0 i.1 in
      let place = st.1.0 in
      let here : slice_get routine.code st.1.0 ≡ Some st.0 = slice_get-get_or routine.code st.1.0 st.0 st.1.1 ∙ ap (λ x. Some x) st.1.2 in
      let target : call_target (control_of st.0.instr) ≡ Some (address_of other) = sym (call_address st.0.instr) ∙ ap (λ (j : runs.Stmt). called_address j.instr) st.2 ∙ i.2 in
      ranks.1 k m (st.1.0, routine, st.0, record { among = among; within = here }, (address_of other, target, at_place m other there))

  falls : HasRanks (unit_of p) rank_of
  falls r q r_in call =
      let f = from r r_in in
      let g = from q call.0 in
      let less = falls_by f.0 f.1 f.2 g.0 g.1 g.2 (subst (λ x. CallsTo (unit_of p) x (routine_of p.areas g.1)) (sym f.3) (subst (λ x. CallsTo (unit_of p) r x) (sym g.3) call)) in
      let one = sym (ap rank_of f.3) ∙ rank_is f.0 f.1 f.2 in
      let two = sym (ap rank_of g.3) ∙ rank_is g.0 g.1 g.2 in
      omega (arith, less, one, two)

pub settled_units_are_safe : SettledUnitsAreSafe
settled_units_are_safe p sound settled = runs_are_safe (unit_of p) (rank_of p sound settled) (has_code p settled.unit) (falls p sound settled) (every p sound settled)
