-- A turn of the code is a turn of the trial.
use Rattle.std.proofs.Common.{◌≡◌, ◌∙◌, sym, ap, ap₂, subst, refl, inl, inr, ℕ, ◌+◌, ◌<◌, true, false, true≢false, List, Option, Some, None}
use Rattle.std.specs.Prelude.{Bool, IsTrue}
use Rattle.sp_isa.specs.declared.instr.Instr.{Instr}
use Rattle.sp_isa.specs.Core.{Core, cell}
use Rattle.sp_isa.specs.Effect.{returns}
use Rattle.sp_isa.specs.Step as processor
use Rattle.sp_machine.specs.declared.event.Event.{Event}
use Rattle.sp_machine.specs.declared.event.Event.TheVariants as told
use Rattle.sp_machine.specs.Event.{event}
use Rattle.sp_machine.proofs.PortLemmas.{answer}
use Rattle.sp_machine.specs.Ports.{is_stuck}
use Rattle.sp_machine.proofs.PortLemmas.{answer_not_stuck}
use Rattle.sp_model.specs.Note.{Frame}
use Rattle.sp_model.specs.State.{State, next_instr, next_input, step}
use Rattle.sp_trial.specs.declared.outcome.Outcome.TheVariants.{Returned, Halted, Stuck}
use Rattle.sp_trial.specs.declared.plan.Plan.{Plan}
use Rattle.sp_trial.specs.declared.turning.Turn.{Turn}
use Rattle.sp_trial.specs.declared.turning.Turn.TheVariants as turn
use Rattle.sp_trial.specs.Judged.{Evaluation, AreTrueIn}
use Rattle.sp_trial.specs.Setup.{at, asserted, asserted_at}
use Rattle.sp_trial.specs.Trials.{Answer, Ended, Long, IsStuck, Returns, broken, Judges, AnswersNext, AnswersFrom}
use Rattle.sp_trial.specs.code.Courses.{setup_of, IsPlan, evaluation, EndsWith, TurnsTo, StepsTo}
use Rattle.sp_trial.specs.code.Returning.{decoded_returns, ReturnsTo}

-- ---- Steps

-- a core that answers that it is stuck is stuck
pub stuck_is : (k : Core) (byte : ℕ) → told.Stuck byte ≡ event k → IsStuck k × (byte ≡ cell k.pc k)
unfolding event
stuck_is k byte e = by_halted k.halted refl
  where
    byte_is : (a b : ℕ) → told.Stuck a ≡ told.Stuck b → a ≡ b
    byte_is a b q = cc

    by_next : (o : Option (Instr × ℕ)) → next_instr k ≡ o → k.halted ≡ false → IsStuck k × (byte ≡ cell k.pc k)
    by_next None none running =
        (record { running = running; nothing = none }, byte_is byte (cell k.pc k) (e ∙ ap₂ (λ h o. answer h o k) running none))
    by_next (Some i) some running =
        absurd (true≢false (ap is_stuck (e ∙ ap₂ (λ h o. answer h o k) running some) ∙ answer_not_stuck i k))

    by_halted : (h : Bool) → k.halted ≡ h → IsStuck k × (byte ≡ cell k.pc k)
    by_halted true halted = absurd (true≢false (ap is_stuck (e ∙ ap (λ h. answer h (next_instr k) k) halted)))
    by_halted false running = by_next (next_instr k) refl running

-- a stuck core answers so
pub stuck_answers : (k : Core) → IsStuck k → event k ≡ told.Stuck (cell k.pc k)
unfolding event
stuck_answers k s = ap₂ (λ h o. answer h o k) s.running s.nothing

pub core_after : (t : State) (old new : Core) (input : ℕ) → t.core ≡ old → next_input t ≡ input → new ≡ processor.step input old → (step t).core ≡ new
unfolding step
core_after t old new input core next stepped = ap₂ processor.step next core ∙ sym stepped

-- ---- Return steps

some_returns : (o : Option (Instr × ℕ)) (k : Core) → IsTrue (decoded_returns o k) → (i : Instr × ℕ) × (o ≡ Some i) × IsTrue (returns i.0 k)
some_returns None k h = absurd (true≢false (sym h))
some_returns (Some i) k h = (i, refl, h)

module _ (plan : Plan) (h : IsPlan plan) (inputs : List ℕ) (t : State) (core : Core) (same : t.core ≡ core) where
  pub evaluation_is : evaluation plan core ≡ at (setup_of plan inputs) t
  evaluation_is = λ j. record { frame = h.frame j; budget = plan.budget; entry = plan.entry.now; now = sym same j }

  pub returns_is : ReturnsTo plan.frame.base core → Returns (setup_of plan inputs) t
  returns_is r =
      let here : ReturnsTo plan.frame.base t.core = subst (ReturnsTo plan.frame.base) (sym same) r in
      record {
        running = here.running;
        returns = some_returns (next_instr t.core) t.core here.returns;
        at_base = here.at_base ∙ ap (λ (f : Frame). f.base) h.frame;
      }

  pub is_returns : Returns (setup_of plan inputs) t → ReturnsTo plan.frame.base core
  is_returns r =
      subst (ReturnsTo plan.frame.base) same (record {
        running = r.running;
        at_base = r.at_base ∙ sym (ap (λ (f : Frame). f.base) h.frame);
        returns = subst (λ o. IsTrue (decoded_returns o t.core)) (sym r.returns.1) r.returns.2;
      })

  pub true_is : AreTrueIn (evaluation plan core) (asserted_at plan.routine.now.code core.pc) → AreTrueIn (at (setup_of plan inputs) t) (asserted (setup_of plan inputs) t)
  true_is all =
      subst (λ e. AreTrueIn e (asserted (setup_of plan inputs) t)) evaluation_is
      (subst (λ (k : Core). AreTrueIn (evaluation plan core) (asserted_at plan.routine.now.code k.pc)) (sym same) all)

  -- ---- Turns

  pub stuck_turn : (n i byte : ℕ) → i < n → told.Stuck byte ≡ event core → AnswersNext (setup_of plan inputs) n i t (Ended (Stuck byte) i)
  stuck_turn n i byte lt e =
      let s = stuck_is t.core byte (e ∙ ap event (sym same)) in
      inr (lt, inl (s.0, ap (λ b. Ended (Stuck b) i) s.1))

  pub not_stuck : (happened : Event) → happened ≡ event core → ((byte : ℕ) → ¬ (happened ≡ told.Stuck byte)) → ¬ IsStuck t.core
  not_stuck happened e moves s = moves (cell t.core.pc t.core) (e ∙ ap event (sym same) ∙ stuck_answers t.core s)

  pub wider : (GoesOn Goes : Type 0) (Right Wide : Answer → Type 0) → (GoesOn → Goes) → ((a : Answer) → Right a → Wide a) → (old : Core) (result : Turn)
      → TurnsTo GoesOn Right old result → TurnsTo Goes Wide old result
  wider GoesOn Goes Right Wide f g old (turn.GoesOn happened) x = (f x.0, x.1)
  wider GoesOn Goes Right Wide f g old (turn.Ends trial) x = g (Ended trial.outcome trial.steps) x
  wider GoesOn Goes Right Wide f g old turn.TooLong x = g Long x

  pub ended : (Goes : Type 0) (Right Wide : Answer → Type 0) → ((a : Answer) → Right a → Wide a) → (old : Core) (result : Turn)
      → EndsWith Right result → TurnsTo Goes Wide old result
  ended Goes Right Wide g old (turn.GoesOn happened) x = absurd x
  ended Goes Right Wide g old (turn.Ends trial) x = g (Ended trial.outcome trial.steps) x
  ended Goes Right Wide g old turn.TooLong x = g Long x

  pub halted_turn : (n i : ℕ) → i < n → ¬ IsStuck t.core → (¬ Returns (setup_of plan inputs) t) → (step t).core.halted ≡ true → AnswersNext (setup_of plan inputs) n i t (Ended Halted (i + 1))
  halted_turn n i lt moves stays halted = inr (lt, inr (inr (moves, stays, halted, refl)))

  pub all_true : (n i : ℕ) → AreTrueIn (evaluation plan core) (asserted_at plan.routine.now.code core.pc) → (old new : Core) (result : Turn)
      → TurnsTo (StepsTo (setup_of plan inputs) t new) (AnswersNext (setup_of plan inputs) n i t) old result
      → TurnsTo (AreTrueIn (at (setup_of plan inputs) t) (asserted (setup_of plan inputs) t) × StepsTo (setup_of plan inputs) t new) (AnswersFrom (setup_of plan inputs) n i t) old result
  all_true n i all old new result x =
      let told = true_is all in
      wider (StepsTo (setup_of plan inputs) t new) (AreTrueIn (at (setup_of plan inputs) t) (asserted (setup_of plan inputs) t) × StepsTo (setup_of plan inputs) t new)
      (AnswersNext (setup_of plan inputs) n i t) (AnswersFrom (setup_of plan inputs) n i t) (λ on. (told, on)) (λ a next. inr (inr (told, next))) old result x

pub returned_turn : (plan : Plan) (h : IsPlan plan) (inputs : List ℕ) (t : State) (core new : Core) (same : t.core ≡ core) (after : (step t).core ≡ new) (n i : ℕ) → i < n → ¬ IsStuck t.core
    → Returns (setup_of plan inputs) t → (Goes : Type 0) (result : Turn)
    → EndsWith (Judges (evaluation plan new) plan.routine.now.post (broken (i + 1)) (λ b. b ≡ Ended Returned (i + 1))) result
    → TurnsTo Goes (AnswersNext (setup_of plan inputs) n i t) core result
returned_turn plan h inputs t core new same after n i lt moves r Goes result x =
    ended plan h inputs t core same Goes (Judges (evaluation plan new) plan.routine.now.post (broken (i + 1)) (λ b. b ≡ Ended Returned (i + 1))) (AnswersNext (setup_of plan inputs) n i t)
    (λ a j. inr (
      lt,
      inr (inl (
        moves,
        r,
        subst (λ (e : Evaluation). Judges e plan.routine.now.post (broken (i + 1)) (λ b. b ≡ Ended Returned (i + 1)) a) (evaluation_is plan h inputs (step t) new after) j,
      )),
    ))
    core result x
