-- What the code's steps of a trial come to.
use Rattle.std.specs.Prelude.{◌≡◌, ℕ, ◌<◌, List, []}
use Rattle.sp_isa.specs.Core.{Core}
use Rattle.sp_logic.specs.View as view
use Rattle.sp_machine.specs.Event.{event}
use Rattle.sp_model.specs.State.{State, next_input, step}
use Rattle.sp_prog.specs.declared.routine.Noted.{Noted}
use Rattle.sp_trial.specs.declared.judging.Finding.{Finding}
use Rattle.sp_trial.specs.declared.judging.Finding.TheVariants as finding
use Rattle.sp_trial.specs.declared.plan.Plan.{Plan}
use Rattle.sp_trial.specs.declared.turning.Turn.{Turn}
use Rattle.sp_trial.specs.declared.turning.Turn.TheVariants as turn
use Rattle.sp_trial.specs.Judged.{Evaluation, IsTrueIn, IsFalseIn, IsLongIn, AreTrueIn, IsFalseOn, PassesBudget}
use Rattle.sp_trial.specs.Setup.{Setup, setup, frame, at, asserted, asserted_at}
use Rattle.sp_trial.specs.declared.outcome.Outcome.TheVariants.{NoEntry, Running}
use Rattle.sp_trial.specs.Trials.{Answer, Ended, Long, broken, Judges, StepsOn, AnswersNext, AnswersFrom, AnswersRun}
use Rattle.sp_trial.specs.code.Tables.{IsTable}

-- the trial that a plan is of, with these inputs to come
abbrev pub setup_of : Plan → List ℕ → Setup
setup_of plan inputs = setup plan.unit.now plan.routine.now plan.entry.now inputs plan.budget

-- the plan's frame and table are those of its routine
pub record IsPlan (plan : Plan) : Type 0 where
  pub frame : view.frame_of plan.frame ≡ frame (setup_of plan [])
  pub table : IsTable plan.routine.now.code plan.routine.now.code plan.table.now

-- what the plan's annotations are evaluated in, on a machine with this core
abbrev pub evaluation : Plan → Core → Evaluation
evaluation plan now = record { frame = view.frame_of plan.frame; budget = plan.budget; entry = plan.entry.now; now = now }

-- what evaluating an annotation came to
abbrev pub FindsOne : Evaluation → Noted → Finding → Type 0
FindsOne e n finding.AllTrue = IsTrueIn e n
FindsOne e n (finding.FalseOn line) = IsFalseIn e n × (n.line ≡ line)
FindsOne e n finding.TooLong = IsLongIn e n

-- what evaluating annotations in order came to
abbrev pub Finds : Evaluation → List Noted → Finding → Type 0
Finds e notes finding.AllTrue = AreTrueIn e notes
Finds e notes (finding.FalseOn line) = IsFalseOn e notes line
Finds e notes finding.TooLong = PassesBudget e notes

-- a turn ends with one of these answers
abbrev pub EndsWith : (Answer → Type 0) → Turn → Type 0
EndsWith Right (turn.GoesOn happened) = ⊥
EndsWith Right (turn.Ends trial) = Right (Ended trial.outcome trial.steps)
EndsWith Right turn.TooLong = Right Long

-- a turn goes on as here, or ends with one of these answers
abbrev pub TurnsTo : Type 0 → (Answer → Type 0) → Core → Turn → Type 0
TurnsTo GoesOn Right old (turn.GoesOn happened) = GoesOn × (happened ≡ event old)
TurnsTo GoesOn Right old (turn.Ends trial) = Right (Ended trial.outcome trial.steps)
TurnsTo GoesOn Right old turn.TooLong = Right Long

-- what holds of each state with a core and a next input, in a trial of more steps than were taken
abbrev pub ForEach : Plan → Core → ℕ → ℕ → (Setup → ℕ → State → Type 0) → Type 0
ForEach plan core input steps P =
    (inputs : List ℕ) (n : ℕ) (t : State) → steps < n → t.core ≡ core → next_input t ≡ input → P (setup_of plan inputs) n t

-- the step from a state goes on to this core
abbrev pub StepsTo : Setup → State → Core → Type 0
StepsTo y t new = StepsOn y t × (new ≡ (step t).core)

-- a step was taken from a core where what is asserted is true
abbrev pub Advances : Plan → Core → ℕ → ℕ → Core → Turn → Type 0
Advances plan old input steps new result =
    ForEach plan old input steps (λ y n t. TurnsTo (StepsTo y t new) (AnswersNext y n steps t) old result)

-- a turn was made from a core
abbrev pub Turns : Plan → Core → ℕ → ℕ → Core → Turn → Type 0
Turns plan old input steps new result =
    ForEach plan old input steps (λ y n t. TurnsTo (AreTrueIn (at y t) (asserted y t) × StepsTo y t new) (AnswersFrom y n steps t) old result)

-- what is asserted on the last machine is evaluated, after so many steps
abbrev pub IsLast : Plan → Core → ℕ → Answer → Type 0
IsLast plan now steps = Judges (evaluation plan now) (asserted_at plan.routine.now.code now.pc) (broken steps) (λ b. b ≡ Ended Running steps)

-- the preconditions are evaluated, and then the routine is run
abbrev pub AnswersEntered : Plan → List ℕ → ℕ → Answer → Type 0
AnswersEntered plan inputs n =
    Judges (evaluation plan plan.entry.now) plan.routine.now.pre (λ line. Ended NoEntry 0) (AnswersRun (setup_of plan inputs) n)
