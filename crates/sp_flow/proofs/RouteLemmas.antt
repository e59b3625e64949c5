-- The ways on from the instructions of a routine, one instruction after another.
use Rattle.std.proofs.Common.{◌≡◌, ◌<◌, ◌≤◌, ◌+◌, ℕ, zero, suc, arith, Bool, true, false, List, [], ◌∷◌, ◌++◌, Option, None, Some, slice_get, length, get_or, drop, refl, ap, append_assoc, ◌∙◌}
use Rattle.std.proofs.Math.Seq.{drop-cons}
use Rattle.std.proofs.lemmas.List.{append-nil, drop_all}
use Rattle.std.proofs.lemmas.Option.{slice_get_within, get_or_from_slice_get, slice_get-get_or}
use Rattle.sp_base.specs.declared.locs.Locs.{Locs}
use Rattle.sp_flow.specs.Routes.{ways_at, ways_by, ways_from, ways_of_code, way_on}
use Rattle.sp_flow.specs.Unset.{Leads, way_of}
use Rattle.sp_flow.specs.declared.ways.Way.{Way}
use Rattle.sp_flow.specs.declared.ways.Ways.{Ways}
use Rattle.sp_graph.proofs.NodeLemmas.{in_graph, length_graph, node_in, node_at}
use Rattle.sp_graph.specs.Graph.{branch_in, way}
use Rattle.sp_graph.specs.Routines.{graph_of_code, node_of}
use Rattle.sp_graph.specs.declared.graph.Branch.{Branch}
use Rattle.sp_graph.specs.declared.graph.Node.{Node}
use Rattle.sp_graph.specs.declared.walk.Step.{Step}
use Rattle.sp_prog.specs.declared.routine.Routine.{Routine}
use Rattle.sp_prog.specs.declared.routine.Stmt.{Stmt}

-- a way leads where its branch does
way_leads : (sets : Locs) (branch : Option Branch) (w : Way) (to : ℕ) → way_on sets branch ≡ Some w → w.to ≡ Some to → way branch ≡ Some to
way_leads sets None w to e t = absurd cc
way_leads sets (Some branch) w to e t = cc

module _ (routines : List Routine) (code : List Stmt) where
  -- the ways of one instruction more
  pub ways_added :
      (ways : List Ways) (at : ℕ) (s : Stmt) → slice_get code at ≡ Some s →
      (ways ++ ways_at routines code at s ∷ []) ++ ways_from routines code (at + 1) (drop (at + 1) code)
      ≡ ways ++ ways_from routines code at (drop at code)
  unfolding ways_from
  ways_added ways at s e =
      let next : suc at ≡ at + 1 = omega arith in
      let rest : drop at code ≡ s ∷ drop (at + 1) code =
      rw (← next, ← get_or_from_slice_get code at s s e) (drop-cons code at s (slice_get_within code at s e)) in
      rw (rest, append_assoc ways (ways_at routines code at s ∷ []) (ways_from routines code (at + 1) (drop (at + 1) code))) refl

  pub no_ways_left : (ways : List Ways) (at : ℕ) → length code ≤ at → ways ++ ways_from routines code at (drop at code) ≡ ways
  unfolding ways_from
  no_ways_left ways at l = rw (drop_all at code l) (append-nil ways)

  length_from : (at : ℕ) (xs : List Stmt) → length (ways_from routines code at xs) ≡ length xs
  unfolding ways_from
  length_from at [] = refl
  length_from at (s ∷ xs) = ap suc (length_from (at + 1) xs)

  pub length_ways : length (ways_of_code routines code) ≡ length code
  length_ways = length_from 0 code

  -- the ways at a place
  abbrev ways_in : ℕ → Option Stmt → Option Ways
  ways_in at None = None
  ways_in at (Some s) = Some (ways_at routines code at s)

  ways_found : (first : ℕ) (xs : List Stmt) (k at : ℕ) → first + k ≡ at → slice_get (ways_from routines code first xs) k ≡ ways_in at (slice_get xs k)
  unfolding ways_from
  ways_found first [] k at e = refl
  ways_found first (s ∷ xs) zero at e = let same : first ≡ at = omega (arith, e) in rw same refl
  ways_found first (s ∷ xs) (suc k) at e = ways_found (first + 1) xs k at (omega (arith, e))

  pub ways_there : (at : ℕ) → slice_get (ways_of_code routines code) at ≡ ways_in at (slice_get code at)
  ways_there at = ways_found 0 code at at (omega arith)

  branch_leads :
      (at : ℕ) (taken : Bool) (o : Option Stmt) (w : Way) (to : ℕ) → way_of (ways_in at o) taken ≡ Some w → w.to ≡ Some to →
      way (branch_in (node_in routines code at o) taken) ≡ Some to
  branch_leads at taken None w to e t = absurd cc
  branch_leads at false (Some s) w to e t = way_leads _ _ w to e t
  branch_leads at true (Some s) w to e t = way_leads _ _ w to e t

  pub ways_within : (step : Step) (to : ℕ) → Leads (ways_of_code routines code) step to → to < length (ways_of_code routines code)
  ways_within step to leads =
      let here : way_of (ways_in step.at (slice_get code step.at)) step.taken ≡ Some leads.0 = rw (ways_there step.at) at leads.1 in
      let onward : way (branch_in (slice_get (graph_of_code routines code) step.at) step.taken) ≡ Some to =
      rw (node_at routines code step.at) (branch_leads step.at step.taken (slice_get code step.at) leads.0 to here leads.2) in
      let low = in_graph routines code step.at step.taken to onward in
      omega (arith, low, length_ways, length_graph routines code)

  -- the instruction and the node that are read at a place have the ways of that place
  pub ways_read :
      (ways : List Ways) (graph : List Node) (at : ℕ) (s : Stmt) (node : Node) (w : Ways) → at < length code →
      get_or code at s ≡ s → slice_get graph at ≡ Some node → graph ≡ graph_of_code routines code → w ≡ ways_by routines s node →
      (ways ++ w ∷ []) ++ ways_from routines code (at + 1) (drop (at + 1) code) ≡ ways ++ ways_from routines code at (drop at code)
  ways_read ways graph at s node w l code_is read same is =
      let stmt : slice_get code at ≡ Some s = slice_get-get_or code at s l ∙ ap (λ x. Some x) code_is in
      let there : slice_get graph at ≡ node_in routines code at (slice_get code at) = rw same (node_at routines code at) in
      let known : slice_get graph at ≡ Some (node_of routines code at s) = rw stmt at there in
      let one : node ≡ node_of routines code at s = cc (read, known) in
      let all : w ≡ ways_at routines code at s = is ∙ ap (ways_by routines s) one in
      rw all (ways_added ways at s stmt)
