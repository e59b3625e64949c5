-- What the calls on one line and on lines in a row answer.
use Rattle.std.specs.Prelude.{◌≡◌, ℕ, ⊤, List, ◌∷◌, ◌++◌, Result, Ok, Err}
use Rattle.sp_base.specs.Image.{ImageMap}
use Rattle.sp_steps.specs.Subgoals.{State}
use Rattle.sp_steps.specs.Next.{IsNext}
use Rattle.sp_script_text.specs.declared.rule.Rule.{Rule}
use Rattle.sp_script_text.specs.declared.script.Written.{Written}
use Rattle.sp_script_text.specs.Steps.{Step, rule_of}
use Rattle.sp_script_text.specs.StepTexts.{IsStep}
use Rattle.sp_script_meaning.specs.declared.refusal.ScriptRefusal.{ScriptRefusal}
use Rattle.sp_script_meaning.specs.declared.refusal.ScriptRefusal.TheVariants as refusal
use Rattle.sp_script_meaning.specs.Checking.{rule_step, Leads}

-- the step on a line leads on
pub record Goes (image : ImageMap) (old : State) (w : Written) (new : State) : Type 0 where
  pub step : Step
  pub is : IsStep step w.text
  pub applies : IsNext (rule_step image step) old new

-- the step on a line, of this rule, doesn't apply
pub record Stays (image : ImageMap) (old : State) (w : Written) (line : ℕ) (rule : Rule) : Type 0 where
  pub place : w.line.0 ≡ line
  pub step : Step
  pub is : IsStep step w.text
  pub rule_is : rule_of step ≡ rule
  pub stuck : (next : State) → ¬ IsNext (rule_step image step) old next

abbrev pub AnswersLine : ImageMap → State → Written → Result State ScriptRefusal → Type 0
AnswersLine image old w (Ok new) = Goes image old w new
AnswersLine image old w (Err (refusal.Step line rule)) = Stays image old w line.0 rule
AnswersLine image old w (Err (refusal.Unfinished line)) = ⊥
AnswersLine image old w (Err refusal.Memory) = ⊤

-- of the steps on lines one is the first that doesn't apply
pub record StaysIn (image : ImageMap) (old : State) (steps : List Written) (line : ℕ) (rule : Rule) : Type 0 where
  pub above : List Written
  pub on : Written
  pub below : List Written
  pub whole : steps ≡ above ++ on ∷ below
  pub state : State
  pub leads : Leads image above old state
  pub stays : Stays image state on line rule

abbrev pub AnswersLines : ImageMap → State → List Written → Result State ScriptRefusal → Type 0
AnswersLines image old steps (Ok new) = Leads image steps old new
AnswersLines image old steps (Err (refusal.Step line rule)) = StaysIn image old steps line.0 rule
AnswersLines image old steps (Err (refusal.Unfinished line)) = ⊥
AnswersLines image old steps (Err refusal.Memory) = ⊤
