-- Where the depth that an instruction leaves isn't that of what comes next.
use Rattle.std.proofs.Common.{◌≡◌, ◌≢◌, ◌<◌, ◌≤◌, ◌+◌, ℕ, ◌⊎◌, inl, inr, arith, Bool, true, false, List, Option, None, Some, IfSome, IfNone, is_some, slice_get, length, refl, sym, ap, ◌∙◌}
use Rattle.std.specs.Prelude.{ℤ, ◌+ℤ◌, ◌↔◌}
use Rattle.sp_base.specs.declared.line.Line.{Line}
use Rattle.sp_graph.specs.Depths.{effect}
use Rattle.sp_graph.specs.Least.{Successor, WalkTo}
use Rattle.sp_graph.specs.Least.WalkTo.{onward}
use Rattle.sp_graph.specs.Graph.{LeadsTo}
use Rattle.sp_graph.specs.Routines.{graph_of, graph_of_code, graph_of_routine}
use Rattle.sp_graph.specs.Structure.{IsAt, DiffersInDepth}
use Rattle.sp_graph.specs.declared.graph.Node.{Node}
use Rattle.sp_prog.specs.declared.routine.Routine.{Routine}
use Rattle.sp_prog.specs.declared.routine.Stmt.{Stmt}
use Rattle.sp_prog.specs.Program.{Program}
use Rattle.sp_struct.specs.Kinds.{IsLowestDifference}
use Rattle.sp_struct.specs.code.Depths.{depth_at, is_seen, TellsDepths}
use Rattle.sp_struct.specs.code.Gaps.{NextGap, NoNextGap, HasGap, HasNoGap, Differs, DiffersHere, LowestGap, line_of}
use Rattle.sp_struct.specs.code.Lowest.{lower, IsLowest}
use Rattle.sp_struct.specs.declared.differences.Difference.{Difference}
use Rattle.sp_graph.proofs.NodeLemmas.{length_graph, in_graph}
use Rattle.sp_struct.proofs.LeastLemmas.{one_depth}
use Rattle.sp_struct.proofs.LowestLemmas.{same_at, one_more, none_more}

-- ---- Successors

module _ (graph : List Node) (depths : List ℤ) (at : ℕ) (after : ℤ) (low high : Option ℕ)
    (all : (to : ℕ) → Successor graph at to ↔ ((low ≡ Some to) ⊎ (high ≡ Some to)))
    (rising : (a b : ℕ) → low ≡ Some a → high ≡ Some b → a ≤ b) where
  pub some_low : (o : Option ℤ) → IfSome o (λ d. (t : ℕ) × (low ≡ Some t) × (depth_at depths t ≡ d) × (d ≢ after)) →
      IfSome o (λ d. NextGap graph depths at after d)
  some_low None h = tt
  some_low (Some d) (t, e, is, ne) = (
    t,
    (all t).1 (inl e),
    is,
    ne,
    λ other s differs. elim ((all other).0 s) as (λ o. t ≤ other) [
      | inl l ↦ let same : t ≡ other = cc in omega (arith, same)
      | inr h ↦ rising t other e h
    ],
  )

  pub some_high : (o : Option ℤ) → ((t : ℕ) → low ≡ Some t → depth_at depths t ≡ after) →
      IfSome o (λ d. (t : ℕ) × (high ≡ Some t) × (depth_at depths t ≡ d) × (d ≢ after)) → IfSome o (λ d. NextGap graph depths at after d)
  some_high None none h = tt
  some_high (Some d) none (t, e, is, ne) = (
    t,
    (all t).1 (inr e),
    is,
    ne,
    λ other s differs. elim ((all other).0 s) as (λ o. t ≤ other) [
      | inl l ↦ absurd (differs (none other l))
      | inr h ↦ let same : t ≡ other = cc in omega (arith, same)
    ],
  )

  pub none_next : (o : Option ℤ) → ((t : ℕ) → low ≡ Some t → depth_at depths t ≡ after) →
      IfNone o ((t : ℕ) → high ≡ Some t → depth_at depths t ≡ after) → IfNone o (NoNextGap graph depths at after)
  none_next (Some d) none h = tt
  none_next None none h = λ to s. elim ((all to).0 s) as (λ o. depth_at depths to ≡ after) [ inl l ↦ none to l | inr l ↦ h to l ]

pub none_of : (o : Option ℤ) (P : Type 0) → is_some o ≡ false → IfNone o P → P
none_of None P e h = h
none_of (Some d) P e h = absurd cc

-- ---- The definition

seen_by : (b : Bool) → (b ≡ false → ⊥) → b ≡ true
seen_by true n = refl
seen_by false n = absurd (n refl)

module _ (p : Program) (r k : ℕ) (routine : Routine) (s : Stmt) (seen : List Bool) (depths : List ℤ)
    (t : TellsDepths (graph_of p r) routine.code seen depths) where
  seen_at : (at : ℕ) (places : List ℕ) → WalkTo (graph_of p r) places at → is_seen seen at ≡ true
  seen_at at places w = seen_by (is_seen seen at) (λ f. t.none at f places w)

  next_seen : (to : ℕ) → is_seen seen k ≡ true → Successor (graph_of p r) k to → is_seen seen to ≡ true
  next_seen to e next = let d = t.some k e in seen_at to _ (onward d.0 k to d.1.walk next)

  pub differs : (a b : ℤ) → HasGap (graph_of p r) seen depths k s a b → Differs p r routine k s a b
  differs a b (e, inl (ret, is, ne, zero_is)) = inl ((ret, rw is at (t.some k e), ne), zero_is)
  differs a b (e, inr (level, after, (to, next, is, ne, lowest))) =
      inr (
        (λ d deep. deep.2 (one_depth (graph_of p r) routine.code k d (depth_at depths k) deep.1 (t.some k e) ∙ level deep.0)),
        record {
          before = depth_at depths k;
          depth = t.some k e;
          after = after;
          to = to;
          successor = next;
          other = rw is at (t.some to (next_seen to e next));
          differs = ne;
          lowest = λ other d step has away.
              let same = one_depth (graph_of p r) routine.code other d (depth_at depths other) has (t.some other (next_seen other e step)) in
              lowest other step (λ x. away (same ∙ x));
        },
      )

  pub agrees : HasNoGap (graph_of p r) seen depths k s → (a b : ℤ) → Differs p r routine k s a b → ⊥
  agrees none a b (inl (deep, zero_is)) =
      let e = seen_at k deep.1.0 deep.1.1.walk in
      deep.2 (one_depth (graph_of p r) routine.code k a (depth_at depths k) deep.1 (t.some k e) ∙ (none e).0 deep.0)
  agrees none a b (inr (level, d)) =
      let before = d.depth in
      let other = d.other in
      let e = seen_at k before.0 before.1.walk in
      let same = one_depth (graph_of p r) routine.code k d.before (depth_at depths k) before (t.some k e) in
      let next = one_depth (graph_of p r) routine.code d.to b (depth_at depths d.to) other (t.some d.to (next_seen d.to e d.successor)) in
      d.differs (next ∙ (none e).1 d.to d.successor ∙ ap (λ x. x +ℤ effect s.instr) (sym same) ∙ sym d.after)

-- an instruction goes on within its routine
pub next_inside : (p : Program) (r : ℕ) (routine : Routine) → slice_get p.routines r ≡ Some routine →
    (at to : ℕ) → Successor (graph_of p r) at to → to < length routine.code
next_inside p r routine e at to s = elim s as (λ o. to < length routine.code) [ inl l ↦ inside false l | inr l ↦ inside true l ]
  where
    inside : (taken : Bool) → LeadsTo (graph_of p r) at taken to → to < length routine.code
    inside taken l =
        let graph : graph_of p r ≡ graph_of_code p.routines routine.code = ap (graph_of_routine p.routines) e in
        rw (length_graph p.routines routine.code) at (in_graph p.routines routine.code at taken to (rw graph at l))

-- ---- The lowest line

module _ (p : Program) (r k : ℕ) (routine : Routine) (s : Stmt) (at : IsAt p r k routine s) (best : Option Difference) (so_far : LowestGap p r k best) where
  only_line : (other : ℕ) → DiffersHere p r k other → other ≡ s.line.0
  only_line other h =
      let same = same_at p r k h.0 routine h.1 s h.2 at in
      sym h.3 ∙ ap (λ (x : Stmt). x.line.0) same.1

  pub gap_more : (a b : ℤ) (next : Option Difference) → Differs p r routine k s a b → line_of next ≡ lower (line_of best) s.line →
      (next ≡ best) ⊎ (next ≡ Some (record { line = s.line; after = a; other = b })) → LowestGap p r (k + 1) next
  gap_more a b next d l which = record {
    lowest = rw l (one_more (DiffersHere p) r k (line_of best) so_far.lowest s.line (routine, s, at, refl, (a, b, d)) only_line);
    differs = λ x e. elim which as (λ o. DiffersInDepth p x.line.0 x.after x.other) [
      | inl old ↦ so_far.differs x (sym old ∙ e)
      | inr new ↦
          let is : record { line = s.line; after = a; other = b } ≡ x = cc in
          rw (← is) (r, k, routine, s, at, refl, d)
    ];
  }

  pub gap_none : ((a b : ℤ) → Differs p r routine k s a b → ⊥) → LowestGap p r (k + 1) best
  gap_none none = record {
    lowest = none_more (DiffersHere p) r k (line_of best) so_far.lowest (λ other h.
        let same = same_at p r k h.0 routine h.1 s h.2 at in
        none h.4.0 h.4.1 (rw (same.0, same.1) at h.4.2));
    differs = so_far.differs;
  }

line_back : (best : Option Difference) (line : Line) → line_of best ≡ Some line → (d : Difference) × (best ≡ Some d) × (d.line ≡ line)
line_back None line e = absurd cc
line_back (Some d) line e = (d, refl, (let same : d.line ≡ line = cc in same))

pub differences_told : (p : Program) (r k : ℕ) (best : Option Difference) → LowestGap p r k best → IsLowest (DiffersHere p) (line_of best) → IsLowestDifference p best
differences_told p r k best g low = record {
  found = g.differs;
  least = λ line a b h.
      let f = low.least h.0 h.1 line (h.2, h.3, h.4, h.5, (a, b, h.6)) in
      let d = line_back best f.0 f.1 in
      (d.0, d.1, (let l = f.2 in rw (← d.2) at l));
}
