-- The lowest of lines, one by one.
use Rattle.std.proofs.Common.{◌≡◌, ◌<◌, ◌≤◌, ◌+◌, ℕ, ◌⊎◌, inl, inr, arith, Bool, true, false, Option, None, Some, List, slice_get, length, refl, sym, ap, ◌∙◌, if◌then◌else◌}
use Rattle.std.specs.Prelude.{nat_lt}
use Rattle.std.proofs.lemmas.Bool.{cases_order, lt-ltb, ltb-true}
use Rattle.std.proofs.lemmas.Option.{slice_get_within}
use Rattle.sp_base.specs.declared.line.Line.{Line}
use Rattle.sp_prog.specs.declared.routine.Routine.{Routine}
use Rattle.sp_prog.specs.declared.routine.Stmt.{Stmt}
use Rattle.sp_prog.specs.Program.{Program}
use Rattle.sp_graph.specs.Structure.{IsAt}
use Rattle.sp_struct.specs.code.Rules.{breaks}
use Rattle.sp_struct.specs.code.Lowest.{lower, ComesBefore, LowestSoFar, IsLowest, Breaks}
use Rattle.sp_struct.specs.declared.rules.Rule.{Rule}
use Rattle.sp_struct.specs.declared.stack.Levels.{Levels}

chosen : (best line : Line) (b : Bool) → nat_lt line.0 best.0 ≡ b →
    (c : Line) × ((if b then Some line else Some best) ≡ Some c) × (c.0 ≤ line.0) × (c.0 ≤ best.0) × ((c ≡ line) ⊎ (c ≡ best))
chosen best line true e = (line, refl, omega arith, (let l = ltb-true line.0 best.0 e in omega arith), inl refl)
chosen best line false e = (
  best,
  refl,
  (elim (cases_order line.0 best.0) as (λ o. best.0 ≤ line.0) [
    | inl same ↦ omega (arith, same)
    | inr o ↦ elim o as (λ o. best.0 ≤ line.0) [ inl l ↦ (let t = lt-ltb line.0 best.0 l in cc (t, e)) | inr l ↦ omega arith ]
  ]),
  omega arith,
  inr refl,
)

-- the lower one is at most the new line and the best before, and one of them
pub lower_is : (best : Option Line) (line : Line) → (c : Line) × (lower best line ≡ Some c) × (c.0 ≤ line.0)
    × ((old : Line) → best ≡ Some old → c.0 ≤ old.0) × ((c ≡ line) ⊎ (best ≡ Some c))
lower_is None line = (line, refl, omega arith, (λ old e. absurd cc), inl refl)
lower_is (Some best) line =
    let c = chosen best line (nat_lt line.0 best.0) refl in (
      c.0,
      c.1,
      c.2,
      (λ old e. let same : best ≡ old = cc in rw (← same) c.3),
      (elim c.4 as (λ o. (c.0 ≡ line) ⊎ (Some best ≡ Some c.0)) [ inl e ↦ inl e | inr e ↦ inr (ap (λ x. Some x) (sym e)) ]),
    )

module _ (P : ℕ → ℕ → ℕ → Type 0) where
  pub none_so_far : LowestSoFar P 0 0 None
  none_so_far = record { found = λ line e. absurd cc; least = λ i j line h b. elim b [ inl l ↦ absurd (omega arith) | inr q ↦ absurd (let l : j < 0 = q.1 in omega arith) ] }

  module _ (r k : ℕ) (best : Option Line) (so_far : LowestSoFar P r k best) where
    -- an instruction that is so
    pub one_more : (line : Line) → P r k line.0 → ((other : ℕ) → P r k other → other ≡ line.0) → LowestSoFar P r (k + 1) (lower best line)
    one_more line here only =
        let c = lower_is best line in
        record {
          found = λ found e.
              let same : c.0 ≡ found = let m = c.1 in cc (m, e) in
              elim c.4 as (λ o. (i : ℕ) × (j : ℕ) × P i j found.0) [
                | inl is ↦ (r, k, rw (← same, is) here)
                | inr old ↦ so_far.found found (old ∙ ap (λ x. Some x) same)
              ];
          least = λ i j other h b. (
            c.0,
            c.1,
            (elim (cases_now i j b) as (λ o. c.0.0 ≤ other) [
              | inl before ↦ let old = so_far.least i j other h before in let low = c.3 old.0 old.1 in let l = old.2 in omega (arith, low, l)
              | inr now ↦ let is = only other (rw (← now.0, ← now.1) h) in let low = c.2 in omega (arith, is, low)
            ]),
          );
        }
      where
        cases_now : (i j : ℕ) → ComesBefore i j r (k + 1) → ComesBefore i j r k ⊎ ((i ≡ r) × (j ≡ k))
        cases_now i j (inl l) = inl (inl l)
        cases_now i j (inr q) = elim (cases_order j k) as (λ o. ComesBefore i j r k ⊎ ((i ≡ r) × (j ≡ k))) [
          | inl same ↦ inr (q.0, same)
          | inr o ↦ elim o as (λ o. ComesBefore i j r k ⊎ ((i ≡ r) × (j ≡ k)))
              [ inl l ↦ inl (inr (q.0, l)) | inr l ↦ absurd (let m : j < k + 1 = q.1 in omega arith) ]
        ]

    -- one that isn't
    pub none_more : ((other : ℕ) → P r k other → ⊥) → LowestSoFar P r (k + 1) best
    none_more none = record {
      found = so_far.found;
      least = λ i j other h b. elim (cases_now i j b) as (λ o. (c : Line) × (best ≡ Some c) × (c.0 ≤ other)) [
        | inl before ↦ so_far.least i j other h before
        | inr now ↦ absurd (none other (rw (← now.0, ← now.1) h))
      ];
    }
      where
        cases_now : (i j : ℕ) → ComesBefore i j r (k + 1) → ComesBefore i j r k ⊎ ((i ≡ r) × (j ≡ k))
        cases_now i j (inl l) = inl (inl l)
        cases_now i j (inr q) = elim (cases_order j k) as (λ o. ComesBefore i j r k ⊎ ((i ≡ r) × (j ≡ k))) [
          | inl same ↦ inr (q.0, same)
          | inr o ↦ elim o as (λ o. ComesBefore i j r k ⊎ ((i ≡ r) × (j ≡ k)))
              [ inl l ↦ inl (inr (q.0, l)) | inr l ↦ absurd (let m : j < k + 1 = q.1 in omega arith) ]
        ]

    -- all instructions of a routine are seen
    pub routine_done : ((j line : ℕ) → P r j line → j < k) → LowestSoFar P (r + 1) 0 best
    routine_done all = record {
      found = so_far.found;
      least = λ i j other h b. so_far.least i j other h (elim b as (λ o. ComesBefore i j r k) [
        | inl l ↦ elim (cases_order i r) as (λ o. ComesBefore i j r k) [
          | inl same ↦ inr (same, all j other (rw (← same) h))
          | inr o ↦ elim o as (λ o. ComesBefore i j r k) [ inl low ↦ inl low | inr high ↦ absurd (omega arith) ]
        ]
        | inr q ↦ absurd (let l : j < 0 = q.1 in omega arith)
      ]);
    }

    pub all_done : ((i j line : ℕ) → P i j line → i < r) → IsLowest P best
    all_done all = record { found = so_far.found; least = λ i j line h. so_far.least i j line h (inl (all i j line h)) }

-- one instruction stands at a place
pub same_at : (p : Program) (r k : ℕ) (a b : Routine) (s t : Stmt) → IsAt p r k a s → IsAt p r k b t → (a ≡ b) × (s ≡ t)
same_at p r k a b s t x y =
    let routines : a ≡ b = let m = x.among in let n = y.among in cc (m, n) in
    let other : slice_get b.code k ≡ Some s = rw (← routines) x.within in
    (routines, let n = y.within in cc (other, n))

module _ (p : Program) (all : List Levels) (rule : Rule) (r k : ℕ) (routine : Routine) (s : Stmt) (l : Levels) (at : IsAt p r k routine s) (there : slice_get all r ≡ Some l) where
  is_here : (other : ℕ) → Breaks p all rule r k other → (other ≡ s.line.0) × (breaks rule p l.reached.items l.depths.items routine k s ≡ true)
  is_here other h =
      let same = same_at p r k h.0 routine h.1 s h.3 at in
      let levels : h.2 ≡ l = let m = h.4 in cc (m, there) in
      (sym h.5 ∙ ap (λ (x : Stmt). x.line.0) same.1, rw (← same.0, ← same.1, ← levels) h.6)

  pub broken_here : (best : Option Line) → LowestSoFar (Breaks p all rule) r k best → breaks rule p l.reached.items l.depths.items routine k s ≡ true →
      LowestSoFar (Breaks p all rule) r (k + 1) (lower best s.line)
  broken_here best so_far b =
      one_more (Breaks p all rule) r k best so_far s.line (routine, s, l, at, there, refl, b) (λ other h. (is_here other h).0)

  pub kept_here : (best : Option Line) → LowestSoFar (Breaks p all rule) r k best → breaks rule p l.reached.items l.depths.items routine k s ≡ false →
      LowestSoFar (Breaks p all rule) r (k + 1) best
  kept_here best so_far b =
      none_more (Breaks p all rule) r k best so_far (λ other h. let t = (is_here other h).1 in cc (t, b))

-- what breaks a rule is an instruction of the routine, and of the unit
pub within_routine : (p : Program) (all : List Levels) (rule : Rule) (r : ℕ) (routine : Routine) → slice_get p.routines r ≡ Some routine →
    (j line : ℕ) → Breaks p all rule r j line → j < length routine.code
within_routine p all rule r routine e j line h =
    let same : h.0 ≡ routine = let m = h.3.among in cc (m, e) in
    rw (← same) (slice_get_within h.0.code j h.1 h.3.within)

pub within_unit : (p : Program) (all : List Levels) (rule : Rule) (i j line : ℕ) → Breaks p all rule i j line → i < length p.routines
within_unit p all rule i j line h = slice_get_within p.routines i h.0 h.3.among
