-- Steps of a run, and what makes all of a run good.
use Rattle.std.proofs.Common.{◌≡◌, ℕ, zero, suc, ◌+◌, ◌<◌, ◌≤◌, true, false, cond, ◌++◌, refl, sym, ap, subst, ◌∙◌, arith, Some, None, append-nil, inl, inr, lit≤}
use Rattle.std.specs.Prelude.{is_some, option_to_list, drop, ◌↔◌}
use Rattle.std.proofs.lemmas.Bool.{cases_lt}
use Rattle.sp_isa.specs.declared.instr.Instr.{Instr}
use Rattle.sp_isa.specs.Effect.{effect, takes_input, gives_output}
use Rattle.sp_model.specs.State.{State, next_instr, next_input, step, run, executed}
use Rattle.sp_model.proofs.StateLemmas.{steps_execute, stopped_states_stay}
use Rattle.sp_model.specs.Unit.{Routine, Unit}
use Rattle.sp_model.specs.Good.{IsGoodAt, IsReturnStep, IsGood}

-- ---- one step
pub step_is : (t : State) (i : Instr) (n : ℕ) → t.core.halted ≡ false → next_instr t.core ≡ Some (i, n) → step t ≡ executed i t
step_is t i n running is = steps_execute t i n running is

pub halted_stays : (t : State) → t.core.halted ≡ true → step t ≡ t
halted_stays t halted = stopped_states_stay t (inl halted)

-- an instruction that is neither IN nor OUT
pub step_quiet : (t : State) (i : Instr) (n : ℕ) → t.core.halted ≡ false → next_instr t.core ≡ Some (i, n) → takes_input i ≡ None → gives_output i t.core ≡ None → step t ≡ record t { core = effect (next_input t) i t.core }
step_quiet t i n running is takes gives =
    step_is t i n running is
    ∙ ap (λ o. record (executed i t) { outputs = t.outputs ++ option_to_list o }) gives
    ∙ ap (λ outputs. record (executed i t) { outputs = outputs }) (append-nil t.outputs)
    ∙ ap (λ o. record t { core = effect (next_input t) i t.core; inputs = cond (is_some o) (drop 1 t.inputs) t.inputs }) takes

-- ---- runs
pub run_shift : (t : State) (i : ℕ) → run (step t) i ≡ run t (suc i)
run_shift t zero = refl
run_shift t (suc i) = ap step (run_shift t i)

pub run_halted : (t : State) → t.core.halted ≡ true → (i : ℕ) → run t i ≡ t
run_halted t halted zero = refl
run_halted t halted (suc i) = ap step (run_halted t halted i) ∙ halted_stays t halted

-- what is claimed of a run's states, from the state t on
abbrev pub IsGoodFrom : Unit → Routine → State → State → Type 0
IsGoodFrom u r s t = (i : ℕ) → ((k : ℕ) → k < i → ¬ IsReturnStep u r s (run t k)) → IsGoodAt u r s (run t i)

pub goes : (u : Unit) (r : Routine) (s t v : State) → IsGoodAt u r s t → step t ≡ v → IsGoodFrom u r s v → IsGoodFrom u r s t
goes u r s t v here is next zero none = here
goes u r s t v here is next (suc i) none =
    let shift : (k : ℕ) → run v k ≡ run t (suc k) = λ k. ap (λ x. run x k) (sym is) ∙ run_shift t k in
    subst (IsGoodAt u r s) (shift i) (next i (λ k less at_v. none (suc k) (omega arith) (subst (IsReturnStep u r s) (shift k) at_v)))

pub ends : (u : Unit) (r : Routine) (s t : State) → IsGoodAt u r s t → IsReturnStep u r s t → IsGoodFrom u r s t
ends u r s t here returning zero none = here
ends u r s t here returning (suc i) none = absurd (none zero (omega arith) returning)

pub halts : (u : Unit) (r : Routine) (s t : State) → IsGoodAt u r s t → t.core.halted ≡ true → IsGoodFrom u r s t
halts u r s t here halted i none = subst (IsGoodAt u r s) (sym (run_halted t halted i)) here

pub good_of : (u : Unit) (r : Routine) (s : State) → IsGoodFrom u r s s → (n : ℕ) → IsGood u r s n
good_of u r s good n i within none = good i none

-- ---- how many steps are claimed
pub good_none : (u : Unit) (r : Routine) (s : State) → IsGood u r s 0 ↔ IsGoodAt u r s s
good_none u r s =
    (λ good. good 0 (lit≤ tt) (λ k less. absurd (omega arith)), λ here i within none. subst (λ k. IsGoodAt u r s (run s k)) (only i within) here)
  where
    only : (i : ℕ) → i ≤ 0 → 0 ≡ i
    only i within = omega arith

pub good_more : (u : Unit) (r : Routine) (s : State) (n : ℕ) → IsGood u r s (n + 1) ↔ (IsGood u r s n × (((k : ℕ) → k ≤ n → ¬ IsReturnStep u r s (run s k)) → IsGoodAt u r s (run s (n + 1))))
good_more u r s n = (
  (λ good. (λ i within none. good i (omega arith) none, λ none. good (n + 1) (omega arith) (λ k less. none k (omega arith)))),
  (λ h i within none. elim (cases_lt n i) [
    | inl more ↦ let is : n + 1 ≡ i = omega arith in subst (λ k. IsGoodAt u r s (run s k)) is (h.1 (λ k low. none k (omega arith)))
    | inr low ↦ h.0 i low none
  ]),
)

pub good_returned : (u : Unit) (r : Routine) (s : State) (n m : ℕ) → IsGood u r s n → IsReturnStep u r s (run s n) → IsGood u r s m
good_returned u r s n m good returning i within none = elim (cases_lt n i) [ inl past ↦ absurd (none n past returning) | inr low ↦ good i low none ]
