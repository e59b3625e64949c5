-- The lowest line of an instruction that is the highest of a cycle.
use Rattle.std.proofs.Common.{◌≡◌, ◌<◌, ◌≤◌, ◌+◌, ℕ, ◌⊎◌, inl, inr, arith, List, Option, None, Some, IfNone, IfSome, unwrap_or, slice_get, length, refl, sym, ap, ◌∙◌}
use Rattle.std.proofs.lemmas.Bool.{cases_order}
use Rattle.sp_base.specs.declared.line.Line.{Line}
use Rattle.sp_graph.specs.Cycles.{IsHighestOfCycle}
use Rattle.sp_graph.specs.Routines.{graph_of, graph_of_routine}
use Rattle.sp_graph.specs.declared.graph.Node.{Node}
use Rattle.sp_graph.proofs.NodeLemmas.{length_graph}
use Rattle.sp_graph.specs.Structure.{IsAt, IsUncut}
use Rattle.sp_prog.specs.declared.routine.Routine.{Routine}
use Rattle.sp_prog.specs.declared.routine.Stmt.{Stmt}
use Rattle.sp_prog.specs.Program.{Program}
use Rattle.sp_struct.specs.Kinds.{IsLowestLine}
use Rattle.sp_struct.specs.code.Loops.{UncutHere, Took}
use Rattle.sp_struct.specs.code.Lowest.{ComesBefore, LowestSoFar, IsLowest}
use Rattle.sp_struct.proofs.LowestLemmas.{one_more, same_at}

module _ (P : ℕ → ℕ → ℕ → Type 0) (r : ℕ) (best : Option Line) where
  before_next : (i j k : ℕ) → ComesBefore i j r (k + 1) → ComesBefore i j r k ⊎ ((i ≡ r) × (j ≡ k))
  before_next i j k (inl l) = inl (inl l)
  before_next i j k (inr q) = elim (cases_order j k) as (λ o. ComesBefore i j r k ⊎ ((i ≡ r) × (j ≡ k))) [
    | inl same ↦ inr (q.0, same)
    | inr o ↦ elim o as (λ o. ComesBefore i j r k ⊎ ((i ≡ r) × (j ≡ k)))
        [ inl l ↦ inl (inr (q.0, l)) | inr l ↦ absurd (let m : j < k + 1 = q.1 in omega arith) ]
  ]

  -- one whose line isn't lower
  pub kept_more : (k : ℕ) → LowestSoFar P r k best → ((other : ℕ) → P r k other → (b : Line) × (best ≡ Some b) × (b.0 ≤ other)) → LowestSoFar P r (k + 1) best
  kept_more k so_far low = record {
    found = so_far.found;
    least = λ i j other h b. elim (before_next i j k b) as (λ o. (c : Line) × (best ≡ Some c) × (c.0 ≤ other)) [
      | inl before ↦ so_far.least i j other h before
      | inr now ↦ low other (rw (now.0, now.1) at h)
    ];
  }

  -- the first ones aren't so
  pub skipped : (first : ℕ) → LowestSoFar P r 0 best → ((j other : ℕ) → j < first → P r j other → ⊥) → LowestSoFar P r first best
  skipped first so_far none = record {
    found = so_far.found;
    least = λ i j other h b. elim b as (λ o. (c : Line) × (best ≡ Some c) × (c.0 ≤ other)) [
      | inl l ↦ so_far.least i j other h (inl l)
      | inr q ↦ let here : P r j other = rw q.0 at h in absurd (none j other q.1 here)
    ];
  }

module _ (p : Program) (r k : ℕ) (routine : Routine) (s : Stmt) (at : IsAt p r k routine s) (best next : Option Line) where
  only_line : (other : ℕ) → UncutHere p r k other → other ≡ s.line.0
  only_line other h =
      let same = same_at p r k h.0 routine h.1 s h.2 at in
      sym h.3 ∙ ap (λ (x : Stmt). x.line.0) same.1

  pub loop_more : LowestSoFar (UncutHere p) r k best → Took (graph_of p r) k s.line best next → LowestSoFar (UncutHere p) r (k + 1) next
  loop_more so_far (inl (same, low)) =
      rw same (kept_more (UncutHere p) r best k so_far (λ other h.
      let b = low h.4 in
      let is = only_line other h in
      let l = b.2 in (b.0, b.1, omega (arith, is, l))))
  loop_more so_far (inr (new, high)) = rw new (one_more (UncutHere p) r k best so_far s.line (routine, s, at, refl, high) only_line)

pub loops_told : (p : Program) (best : Option Line) → IsLowest (UncutHere p) best → IsLowestLine (IsUncut p) best
loops_told p best low = record {
  found = λ line e. let f = low.found line e in (f.0, f.1, f.2.0, f.2.1, f.2.2, f.2.3, f.2.4);
  least = λ line h. low.least h.0 h.1 line (h.2, h.3, h.4, h.5, h.6);
}

pub below_first : (graph : List Node) (o : Option ℕ) (n : ℕ) → n ≤ length graph → IfNone o ((at : ℕ) → at < length graph → IsHighestOfCycle graph at → ⊥) →
    IfSome o (λ found. (at : ℕ) → at < found → IsHighestOfCycle graph at → ⊥) → (j : ℕ) → j < unwrap_or o n → IsHighestOfCycle graph j → ⊥
below_first graph None n l none some j less = none j (omega arith)
below_first graph (Some f) n l none some j less = some j less

pub graph_size : (p : Program) (r : ℕ) (routine : Routine) → slice_get p.routines r ≡ Some routine → length (graph_of p r) ≡ length routine.code
graph_size p r routine among = ap (length {A = Node}) (ap (graph_of_routine p.routines) among) ∙ length_graph p.routines routine.code
