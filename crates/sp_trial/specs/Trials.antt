-- What a trial answers (this project's own).
use Rattle.std.specs.Prelude.{◌≡◌, ◌⊎◌, ℕ, ◌+◌, ◌<◌, ◌≤◌, true, false, List, [], None, Result, Ok, Err, ⊤}
use Rattle.sp_base.specs.declared.line.Line.{Line}
use Rattle.sp_isa.specs.Core.{Core, cell}
use Rattle.sp_model.specs.Good.{IsEntry, IsReturnStep}
use Rattle.sp_model.specs.State.{State, next_instr, step, run}
use Rattle.sp_prog.specs.declared.routine.Noted.{Noted}
use Rattle.sp_trial.specs.declared.outcome.Outcome.{Outcome}
use Rattle.sp_trial.specs.declared.outcome.Outcome.TheVariants.{NoEntry, Running, Returned, Halted, Stuck, Broken}
use Rattle.sp_trial.specs.declared.outcome.Trial.{Trial}
use Rattle.sp_trial.specs.declared.outcome.TrialRefusal.{TrialRefusal}
use Rattle.sp_trial.specs.declared.outcome.TrialRefusal.TheVariants as refusal
use Rattle.sp_trial.specs.Judged.{Evaluation, AreTrueIn, IsFalseOn, PassesBudget}
use Rattle.sp_trial.specs.Setup.{Setup, unit, routine, at, asserted}

-- an outcome with the steps taken, or that an evaluation passes the budget
pub data Answer : Type 0 where
  Ended : Outcome → ℕ → Answer
  Long : Answer

-- ---- States

-- the start is an entry of the routine, its preconditions left out
abbrev pub MayEnter : Setup → Type 0
MayEnter y = IsEntry (unit y) (record (routine y) { pre = [] }) y.start

-- the core isn't halted, and nothing decodes at its program counter
pub record IsStuck (core : Core) : Type 0 where
  pub running : core.halted ≡ false
  pub nothing : next_instr core ≡ None

-- the next step is a return step of the routine
abbrev pub Returns : Setup → State → Type 0
Returns y t = IsReturnStep (unit y) (routine y) y.start t

-- the state isn't stuck, and the next step neither returns nor halts
pub record StepsOn (y : Setup) (t : State) : Type 0 where
  pub not_stuck : ¬ IsStuck t.core
  pub no_return : ¬ Returns y t
  pub no_halt : (step t).core.halted ≡ false

-- the trial comes to the state after i steps, at most n: from each state before, at which what is asserted is true, it goes
-- on by a step
pub record ComesTo (y : Setup) (n i : ℕ) : Type 0 where
  pub within : i ≤ n
  pub asserts : (k : ℕ) → k < i → AreTrueIn (at y (run y.start k)) (asserted y (run y.start k))
  pub steps : (k : ℕ) → k < i → StepsOn y (run y.start k)

-- ---- Answers

-- annotations are evaluated: a false one gives an answer by its line, one over the budget gives that, and after true ones
-- come the answers of what is next
abbrev pub Judges : Evaluation → List Noted → (Line → Answer) → (Answer → Type 0) → Answer → Type 0
Judges e notes Fails Next a =
    ((line : Line) × IsFalseOn e notes line × (a ≡ Fails line))
    ⊎ ((PassesBudget e notes × (a ≡ Long))
    ⊎ (AreTrueIn e notes × Next a))

-- the annotation on a line is broken, after so many steps
abbrev pub broken : ℕ → Line → Answer
broken steps line = Ended (Broken line) steps

-- after a return step, the last of so many, the postconditions are evaluated
abbrev pub AnswersReturned : Setup → ℕ → State → Answer → Type 0
AnswersReturned y steps t = Judges (at y t) y.routine.post (broken steps) (λ b. b ≡ Ended Returned steps)

-- the state t after i steps, at which what is asserted is true: the trial ends there after n steps, or where it is stuck;
-- else one step more is taken, and the trial ends where that step returns or halts
abbrev pub AnswersNext : Setup → ℕ → ℕ → State → Answer → Type 0
AnswersNext y n i t a =
    ((i ≡ n) × (a ≡ Ended Running i))
    ⊎ ((i < n)
    × ((IsStuck t.core × (a ≡ Ended (Stuck (cell t.core.pc t.core)) i))
    ⊎ ((¬ IsStuck t.core × Returns y t × AnswersReturned y (i + 1) (step t) a)
    ⊎ (¬ IsStuck t.core × (¬ Returns y t) × ((step t).core.halted ≡ true) × (a ≡ Ended Halted (i + 1))))))

-- the state t after i steps: what is asserted there is evaluated before the steps are counted
abbrev pub AnswersFrom : Setup → ℕ → ℕ → State → Answer → Type 0
AnswersFrom y n i t = Judges (at y t) (asserted y t) (broken i) (AnswersNext y n i t)

-- some state to which the trial comes gives the answer
abbrev pub AnswersRun : Setup → ℕ → Answer → Type 0
AnswersRun y n a = (i : ℕ) × ComesTo y n i × AnswersFrom y n i (run y.start i) a

-- a trial of at most n steps: there is no entry where the start isn't one even without its preconditions, or the first
-- precondition that isn't true within the budget is false
abbrev pub Answers : Setup → ℕ → Answer → Type 0
Answers y n a =
    ((¬ MayEnter y) × (a ≡ Ended NoEntry 0))
    ⊎ (MayEnter y × Judges (at y y.start) y.routine.pre (λ line. Ended NoEntry 0) (AnswersRun y n) a)

-- ---- Results

-- a result gives an answer; a refusal for length tells the budget and 1
abbrev pub GivesOne : ℕ → (Answer → Type 0) → Result Trial TrialRefusal → Type 0
GivesOne budget Right (Ok t) = Right (Ended t.outcome t.steps)
GivesOne budget Right (Err (refusal.TooLong nodes)) = Right Long × (nodes ≡ budget + 1)
GivesOne budget Right (Err refusal.Memory) = ⊤

-- the result that gives an answer
abbrev pub result_of : ℕ → Answer → Result Trial TrialRefusal
result_of budget (Ended outcome steps) = Ok (record { outcome = outcome; steps = steps })
result_of budget Long = Err (refusal.TooLong (budget + 1))

-- each right answer is given, unless memory ran out
abbrev pub GivesEach : ℕ → (Answer → Type 0) → Result Trial TrialRefusal → Type 0
GivesEach budget Right result = (a : Answer) → Right a → (result ≡ result_of budget a) ⊎ (result ≡ Err refusal.Memory)

-- ---- Laws

-- a trial has one answer
abbrev pub TrialsHaveOneAnswer : Type 0
TrialsHaveOneAnswer = (y : Setup) (n : ℕ) (a b : Answer) → Answers y n a → Answers y n b → a ≡ b
