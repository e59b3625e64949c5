-- A trial has one answer.
use Rattle.std.proofs.Common.{◌≡◌, ◌⊎◌, ℕ, ◌+◌, ◌<◌, inl, inr, true, true≢false, sym, ap, subst, ◌∙◌, arith, refl, Result, Ok, Err}
use Rattle.std.proofs.lemmas.Bool.{cases_order}
use Rattle.sp_isa.specs.Core.{cell}
use Rattle.sp_model.specs.State.{State, step, run}
use Rattle.sp_trial.specs.declared.outcome.Outcome.TheVariants.{Returned, Halted, Stuck}
use Rattle.sp_trial.specs.declared.outcome.Trial.{Trial}
use Rattle.sp_trial.specs.declared.outcome.TrialRefusal.{TrialRefusal}
use Rattle.sp_trial.specs.declared.outcome.TrialRefusal.TheVariants as refusal
use Rattle.sp_trial.specs.Judged.{AreTrueIn}
use Rattle.sp_trial.specs.Setup.{Setup, at, asserted}
use Rattle.sp_trial.specs.Trials.{Answer, Ended, Long, IsStuck, Returns, StepsOn, ComesTo, broken, AnswersReturned, AnswersNext, AnswersFrom, AnswersRun, Answers, GivesOne, GivesEach, result_of, TrialsHaveOneAnswer}
use Rattle.sp_trial.proofs.EvaluationLemmas.{one_judged, false_or_true, long_or_true}

module _ (y : Setup) (n i : ℕ) (t : State) where
  abbrev Left : Answer → Type 0
  Left a =
      (¬ IsStuck t.core × Returns y t × AnswersReturned y (i + 1) (step t) a)
      ⊎ (¬ IsStuck t.core × (¬ Returns y t) × ((step t).core.halted ≡ true) × (a ≡ Ended Halted (i + 1)))

  not_stuck : (a : Answer) → Left a → ¬ IsStuck t.core
  not_stuck a (inl x) = x.0
  not_stuck a (inr x) = x.0

  one_left : (a b : Answer) → Left a → Left b → a ≡ b
  one_left a b (inl x) (inl z) = one_judged (at y (step t)) y.routine.post (broken (i + 1)) (λ c. c ≡ Ended Returned (i + 1)) (λ c d p q. p ∙ sym q) a b x.2 z.2
  one_left a b (inl x) (inr z) = absurd (z.1 x.1)
  one_left a b (inr x) (inl z) = absurd (x.1 z.1)
  one_left a b (inr x) (inr z) = x.3 ∙ sym z.3

  abbrev Taken : Answer → Type 0
  Taken a = (IsStuck t.core × (a ≡ Ended (Stuck (cell t.core.pc t.core)) i)) ⊎ Left a

  one_taken : (a b : Answer) → Taken a → Taken b → a ≡ b
  one_taken a b (inl x) (inl z) = x.1 ∙ sym z.1
  one_taken a b (inl x) (inr z) = absurd (not_stuck b z x.0)
  one_taken a b (inr x) (inl z) = absurd (not_stuck a x z.0)
  one_taken a b (inr x) (inr z) = one_left a b x z

  one_next : (a b : Answer) → AnswersNext y n i t a → AnswersNext y n i t b → a ≡ b
  one_next a b (inl x) (inl z) = x.1 ∙ sym z.1
  one_next a b (inl x) (inr z) = let e = x.0 in let lt = z.0 in absurd (omega (arith, e, lt))
  one_next a b (inr x) (inl z) = let e = z.0 in let lt = x.0 in absurd (omega (arith, e, lt))
  one_next a b (inr x) (inr z) = one_taken a b x.1 z.1

  one_from : (a b : Answer) → AnswersFrom y n i t a → AnswersFrom y n i t b → a ≡ b
  one_from a b x z = one_judged (at y t) (asserted y t) (broken i) (AnswersNext y n i t) one_next a b x z

  -- what goes on gives no answer
  taken_stops : (a : Answer) → Taken a → StepsOn y t → ⊥
  taken_stops a (inl x) on = on.not_stuck x.0
  taken_stops a (inr (inl x)) on = on.no_return x.1
  taken_stops a (inr (inr x)) on = true≢false (sym x.2 ∙ on.no_halt)

  next_stops : (a : Answer) → AnswersNext y n i t a → i < n → StepsOn y t → ⊥
  next_stops a (inl x) lt on = let e = x.0 in omega (arith, e, lt)
  next_stops a (inr x) lt on = taken_stops a x.1 on

  stops : (a : Answer) → AnswersFrom y n i t a → i < n → AreTrueIn (at y t) (asserted y t) → StepsOn y t → ⊥
  stops a (inl x) lt all on = false_or_true (at y t) (asserted y t) x.0 x.1 all
  stops a (inr (inl x)) lt all on = long_or_true (at y t) (asserted y t) x.0 all
  stops a (inr (inr x)) lt all on = next_stops a x.1 lt on

module _ (y : Setup) (n : ℕ) where
  not_before : (a : Answer) (i j : ℕ) → AnswersFrom y n i (run y.start i) a → ComesTo y n j → i < j → ⊥
  not_before a i j x c lt = let most = c.within in stops y n i (run y.start i) a x (omega (arith, most, lt)) (c.asserts i lt) (c.steps i lt)

  one_run : (a b : Answer) → AnswersRun y n a → AnswersRun y n b → a ≡ b
  one_run a b x z =
      elim (cases_order x.0 z.0) [
        | inl same ↦ one_from y n z.0 (run y.start z.0) a b (subst (λ i. AnswersFrom y n i (run y.start i) a) same x.2) z.2
        | inr (inl lt) ↦ absurd (not_before a x.0 z.0 x.2 z.1 lt)
        | inr (inr gt) ↦ absurd (not_before b z.0 x.0 z.2 x.1 gt)
      ]

  one_answer : (a b : Answer) → Answers y n a → Answers y n b → a ≡ b
  one_answer a b (inl x) (inl z) = x.1 ∙ sym z.1
  one_answer a b (inl x) (inr z) = absurd (x.0 z.0)
  one_answer a b (inr x) (inl z) = absurd (z.0 x.0)
  one_answer a b (inr x) (inr z) = one_judged (at y y.start) y.routine.pre _ (AnswersRun y n) one_run a b x.1 z.1

pub trials_have_one_answer : TrialsHaveOneAnswer
trials_have_one_answer y n a b x z = one_answer y n a b x z

-- what is given is each right answer
pub gives_each : (budget : ℕ) (Right : Answer → Type 0) → ((a b : Answer) → Right a → Right b → a ≡ b) → (result : Result Trial TrialRefusal)
    → GivesOne budget Right result → GivesEach budget Right result
gives_each budget Right one (Ok t) h a right = inl (ap (result_of budget) (one (Ended t.outcome t.steps) a h right))
gives_each budget Right one (Err (refusal.TooLong nodes)) h a right =
    inl (ap (λ k. Err (refusal.TooLong k)) h.1 ∙ ap (result_of budget) (one Long a h.0 right))
gives_each budget Right one (Err refusal.Memory) h a right = inr refl
