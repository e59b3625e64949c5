-- The graph of a routine has a node for each instruction, which leads to instructions of the routine.
use Rattle.std.proofs.Common.{◌≡◌, ◌<◌, ◌≤◌, ◌+◌, ℕ, zero, suc, arith, Bool, true, false, List, [], ◌∷◌, ◌++◌, Option, None, Some, slice_get, length, get_or, drop, refl, ap, append_assoc, if◌then◌else◌}
use Rattle.std.specs.Prelude.{nat_eq, nat_lt}
use Rattle.std.proofs.Math.Seq.{drop-cons}
use Rattle.std.proofs.lemmas.Bool.{ltb-true}
use Rattle.std.proofs.lemmas.List.{append-nil, drop_all}
use Rattle.std.proofs.lemmas.List.Quantifiers.{position-Some}
use Rattle.std.proofs.lemmas.Option.{slice_get_within, get_or_from_slice_get, slice_get-get_or}
use Rattle.sp_graph.specs.Control.{control_of}
use Rattle.sp_graph.specs.Graph.{InGraph, branch_in, way}
use Rattle.sp_graph.specs.Routines.{nodes_from, node_of, graph_of_code, untaken_by, taken_by}
use Rattle.sp_graph.specs.Successors.{place_of, next_of}
use Rattle.sp_graph.specs.declared.control.Control.{Control}
use Rattle.sp_graph.specs.declared.control.Control.TheVariants.{Next, Jump, JumpIf, Call, CallIf, Return, ReturnIf, Halt}
use Rattle.sp_graph.specs.declared.graph.Node.{Node}
use Rattle.sp_prog.specs.declared.routine.Routine.{Routine}
use Rattle.sp_prog.specs.declared.routine.Stmt.{Stmt}

module _ (routines : List Routine) (code : List Stmt) where
  -- one node more
  pub node_added :
      (graph : List Node) (at : ℕ) (s : Stmt) → slice_get code at ≡ Some s →
      (graph ++ node_of routines code at s ∷ []) ++ nodes_from routines code (at + 1) (drop (at + 1) code)
      ≡ graph ++ nodes_from routines code at (drop at code)
  unfolding nodes_from
  node_added graph at s e =
      let next : suc at ≡ at + 1 = omega arith in
      let rest : drop at code ≡ s ∷ drop (at + 1) code =
      rw (← next, ← get_or_from_slice_get code at s s e) (drop-cons code at s (slice_get_within code at s e)) in
      rw (rest, append_assoc graph (node_of routines code at s ∷ []) (nodes_from routines code (at + 1) (drop (at + 1) code))) refl

  pub no_node_left : (graph : List Node) (at : ℕ) → length code ≤ at → graph ++ nodes_from routines code at (drop at code) ≡ graph
  unfolding nodes_from
  no_node_left graph at l = rw (drop_all at code l) (append-nil graph)

  length_nodes : (at : ℕ) (xs : List Stmt) → length (nodes_from routines code at xs) ≡ length xs
  unfolding nodes_from
  length_nodes at [] = refl
  length_nodes at (s ∷ xs) = ap suc (length_nodes (at + 1) xs)

  pub length_graph : length (graph_of_code routines code) ≡ length code
  length_graph = length_nodes 0 code

  -- the node at a place
  abbrev pub node_in : ℕ → Option Stmt → Option Node
  node_in at None = None
  node_in at (Some s) = Some (node_of routines code at s)

  nodes_at : (first : ℕ) (xs : List Stmt) (k at : ℕ) → first + k ≡ at → slice_get (nodes_from routines code first xs) k ≡ node_in at (slice_get xs k)
  unfolding nodes_from
  nodes_at first [] k at e = refl
  nodes_at first (s ∷ xs) zero at e = let same : first ≡ at = omega (arith, e) in rw same refl
  nodes_at first (s ∷ xs) (suc k) at e = nodes_at (first + 1) xs k at (omega (arith, e))

  pub node_at : (at : ℕ) → slice_get (graph_of_code routines code) at ≡ node_in at (slice_get code at)
  node_at at = nodes_at 0 code at at (omega arith)

  next_option : (at to : ℕ) (b : Bool) → nat_lt (at + 1) (length code) ≡ b → (if b then Some (at + 1) else None) ≡ Some to → to < length code
  next_option at to true l e = let same : at + 1 ≡ to = cc in let low = ltb-true (at + 1) (length code) l in omega (arith, same, low)
  next_option at to false l e = absurd cc

  pub next_within : (at to : ℕ) → next_of code at ≡ Some to → to < length code
  next_within at to e = next_option at to (nat_lt (at + 1) (length code)) refl e

  pub place_within : (address to : ℕ) → place_of code address ≡ Some to → to < length code
  place_within address to e = at_some code e
    where
      at_some : (xs : List Stmt) → place_of xs address ≡ Some to → to < length xs
      at_some [] e = absurd cc
      at_some (s ∷ xs) e = (position-Some (λ (x : Stmt). nat_eq x.addr address) (s ∷ xs) to s e).0

  untaken_within : (at to : ℕ) (c : Control) → way (untaken_by routines code at c) ≡ Some to → to < length code
  untaken_within at to Next e = next_within at to e
  untaken_within at to (Jump address) e = place_within address to e
  untaken_within at to (JumpIf address) e = next_within at to e
  untaken_within at to (Call address) e = next_within at to e
  untaken_within at to (CallIf address) e = next_within at to e
  untaken_within at to Return e = absurd cc
  untaken_within at to ReturnIf e = next_within at to e
  untaken_within at to Halt e = absurd cc

  taken_within : (at to : ℕ) (c : Control) → way (taken_by routines code at c) ≡ Some to → to < length code
  taken_within at to Next e = absurd cc
  taken_within at to (Jump address) e = absurd cc
  taken_within at to (JumpIf address) e = place_within address to e
  taken_within at to (Call address) e = absurd cc
  taken_within at to (CallIf address) e = next_within at to e
  taken_within at to Return e = absurd cc
  taken_within at to ReturnIf e = absurd cc
  taken_within at to Halt e = absurd cc

  way_within : (at : ℕ) (taken : Bool) (to : ℕ) (o : Option Stmt) → way (branch_in (node_in at o) taken) ≡ Some to → to < length code
  way_within at taken to None e = absurd cc
  way_within at false to (Some s) e = untaken_within at to (control_of s.instr) e
  way_within at true to (Some s) e = taken_within at to (control_of s.instr) e

  pub in_graph : InGraph (graph_of_code routines code)
  in_graph at taken to e =
      rw length_graph (way_within at taken to (slice_get code at) (rw (node_at at) at e))

-- each place has its instruction
pub stmt_at : (code : List Stmt) (at : ℕ) → at < length code → (s : Stmt) × (slice_get code at ≡ Some s)
stmt_at [] at l = absurd (omega arith)
stmt_at (s ∷ code) at l = (get_or (s ∷ code) at s, slice_get-get_or (s ∷ code) at s l)
