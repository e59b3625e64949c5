-- Each move of the search keeps what holds, and they end.
use Rattle.std.proofs.Common.{◌≡◌, ◌<◌, ◌+◌, ◌≢◌, ℕ, suc, ◌⊎◌, inl, inr, arith, Bool, true, false, List, [], ◌∷◌, ◌++◌, sym, ◌∙◌, refl, length, length-append, set, get_or-set_same, get_or-set_other}
use Rattle.std.specs.Prelude.{cond}
use Rattle.std.specs.List.{sum_by}
use Rattle.std.proofs.lemmas.Bool.{cases_order}
use Rattle.std.proofs.lemmas.List.Sums.{sum_by-set, sum_by-append}
use Rattle.std.proofs.lemmas.List.{get_or_push}
use Rattle.sp_graph.specs.Cycles.{Edge, SuccessorsFirst}
use Rattle.sp_graph.specs.code.Sorting.{mark_at, step_at, Settled, Sorting, Moves, fresh}
use Rattle.sp_graph.specs.declared.graph.Node.{Node}
use Rattle.sp_graph.specs.declared.walk.Step.{Step}
use Rattle.sp_graph.specs.declared.sorting.Mark.{Mark}
use Rattle.sp_graph.specs.declared.sorting.Mark.TheVariants.{New, Open, Done}
use Rattle.sp_graph.proofs.SortLemmas.{opened, turned, finished, sorted}

same_or_not : (a b : ℕ) → (a ≡ b) ⊎ (a ≢ b)
same_or_not a b = elim (cases_order a b) as (λ o. (a ≡ b) ⊎ (a ≢ b))
    [ inl e ↦ inl e | inr o ↦ inr (λ e. elim o [ inl l ↦ omega arith | inr l ↦ omega arith ]) ]

weigh : (stack : List Step) (s : Step) → sum_by (λ x. cond x.taken 1 2) (stack ++ s ∷ []) ≡ sum_by (λ x. cond x.taken 1 2) stack + cond s.taken 1 2
weigh stack s = omega (arith, sum_by-append (λ x. cond x.taken 1 2) stack (s ∷ []))

stays : (marks : List Mark) (t v : ℕ) (m : Mark) → t < length marks → m ≢ New → mark_at (set marks t m) v ≡ New → mark_at marks v ≡ New
stays marks t v m l ne h = elim (same_or_not v t) as (λ o. mark_at marks v ≡ New) [
  | inl is ↦ let e = rw (is, get_or-set_same marks t m New l) at h in absurd (ne e)
  | inr other ↦ sym (get_or-set_other marks t v m New other) ∙ h
]

done_of : (m : Mark) → (m ≡ New → ⊥) → (m ≡ Open → ⊥) → m ≡ Done
done_of New a b = absurd (a refl)
done_of Open a b = absurd (b refl)
done_of Done a b = refl

module _ (graph : List Node) (limit : ℕ) (marks : List Mark) (order : List ℕ) (stack : List Step) where
  pub opens :
      Sorting graph limit marks order stack → (t : ℕ) → mark_at marks t ≡ New → t < limit →
      ((k : ℕ) → suc k ≡ length stack → Edge graph limit (step_at stack k).at (step_at stack k).taken t) →
      Moves graph limit marks stack (set marks t Open) order (stack ++ record { at = t; taken = false } ∷ [])
  opens s t free low edge =
      let l : t < length marks = let e = s.size in omega arith in
      let sum = sum_by-set fresh marks t Open New l in
      let was : fresh (mark_at marks t) ≡ 3 = rw free refl in
      record {
        sorting = opened graph limit marks order stack s t free low edge;
        fewer = omega (arith, weigh stack (record { at = t; taken = false }), sum, was);
        kept = λ v h. stays marks t v Open l (λ e. cc) h;
      }

  pub turns :
      (at : ℕ) → Sorting graph limit marks order (stack ++ record { at = at; taken = false } ∷ []) → Settled graph limit marks at false →
      Moves graph limit marks (stack ++ record { at = at; taken = false } ∷ []) marks order (stack ++ record { at = at; taken = true } ∷ [])
  turns at s settled = record {
    sorting = turned graph limit marks order stack at s settled;
    fewer = omega (arith, weigh stack (record { at = at; taken = false }), weigh stack (record { at = at; taken = true }));
    kept = λ v h. h;
  }

  pub finishes :
      (at : ℕ) → at < length marks → Sorting graph limit marks order (stack ++ record { at = at; taken = true } ∷ []) → Settled graph limit marks at true →
      Moves graph limit marks (stack ++ record { at = at; taken = true } ∷ []) (set marks at Done) (order ++ at ∷ []) stack
  finishes at l s settled =
      let sum = sum_by-set fresh marks at Done New l in
      record {
        sorting = finished graph limit marks order stack at s settled;
        fewer = omega (arith, weigh stack (record { at = at; taken = true }), sum);
        kept = λ v h. stays marks at v Done l (λ e. cc) h;
      }

  pub turns_by :
      (at : ℕ) (taken : Bool) → taken ≡ false → Sorting graph limit marks order (stack ++ record { at = at; taken = taken } ∷ []) → Settled graph limit marks at taken →
      Moves graph limit marks (stack ++ record { at = at; taken = taken } ∷ []) marks order (stack ++ record { at = at; taken = true } ∷ [])
  turns_by at true e s settled = cc
  turns_by at false e s settled = turns at s settled

  pub finishes_by :
      (at : ℕ) (taken : Bool) → taken ≡ true → at < length marks → Sorting graph limit marks order (stack ++ record { at = at; taken = taken } ∷ []) → Settled graph limit marks at taken →
      Moves graph limit marks (stack ++ record { at = at; taken = taken } ∷ []) (set marks at Done) (order ++ at ∷ []) stack
  finishes_by at true e l s settled = finishes at l s settled
  finishes_by at false e l s settled = cc

  pub last_low : (step : Step) → Sorting graph limit marks order (stack ++ step ∷ []) → step.at < length marks
  last_low step s =
      let l : (step_at (stack ++ step ∷ []) (length stack)).at < limit = (s.stacked (length stack) (omega (arith, length-append stack (step ∷ [])))).0 in
      let is = get_or_push stack step (record { at = 0; taken = false }) (length stack) refl in
      let low : step.at < limit = rw is at l in let size = s.size in omega arith

  -- the last step is the only one whose next place is the length
  pub last_edge :
      (step : Step) (to : ℕ) → Edge graph limit step.at step.taken to → (k : ℕ) → suc k ≡ length (stack ++ step ∷ []) →
      Edge graph limit (step_at (stack ++ step ∷ []) k).at (step_at (stack ++ step ∷ []) k).taken to
  last_edge step to edge k e =
      let is : step_at (stack ++ step ∷ []) k ≡ step = get_or_push stack step (record { at = 0; taken = false }) k (omega (arith, length-append stack (step ∷ []))) in
      rw is edge

-- with an empty stack what is not new is done
pub all_done :
    (graph : List Node) (limit : ℕ) (marks : List Mark) (order : List ℕ) (stack : List Step) → Sorting graph limit marks order stack → length stack ≡ 0 →
    ((v : ℕ) → v < limit → mark_at marks v ≡ New → ⊥) → SuccessorsFirst graph limit order
all_done graph limit marks order stack s empty past =
    sorted graph limit marks order stack s (λ v l. done_of (mark_at marks v) (past v l)
    (λ e. let k = s.open_is v e in let lk : k.0 < length stack = k.1 in absurd (omega arith)))
