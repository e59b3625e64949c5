-- Steps in a row, and what an answer gives.
use Rattle.std.proofs.Common.{ℕ, zero, suc, arith, ◌+◌, ◌<◌, ◌≤◌, ◌≡◌, refl, sym, ap, subst, ◌∙◌, List, [], ◌∷◌, ◌++◌, length, take, drop, get_or}
use Rattle.std.specs.Prelude.{Result, Ok, Err, IfOk}
use Rattle.std.specs.List.{AllByRecursion}
use Rattle.std.proofs.lemmas.List.{take_more, drop_more, take_all, take-append-drop}
use Rattle.sp_base.specs.Image.{ImageMap}
use Rattle.sp_term.specs.Admissible.{Region, Condition, IsValid}
use Rattle.sp_steps.specs.Subgoals.{State, start}
use Rattle.sp_steps.specs.Soundness.{IsProper}
use Rattle.sp_steps.specs.Next.{Applies}
use Rattle.sp_steps.specs.declared.refusal.RuleRefusal.{RuleRefusal}
use Rattle.sp_steps.specs.declared.refusal.RuleRefusal.TheVariants as rule_refusal
use Rattle.sp_script_text.specs.declared.rule.Rule.{Rule}
use Rattle.sp_script_text.specs.declared.script.Script.{Script}
use Rattle.sp_script_text.specs.declared.script.Written.{Written}
use Rattle.sp_script_text.specs.declared.step.Step as declared
use Rattle.sp_script_text.specs.Steps.{seen, rule_of}
use Rattle.sp_script_text.specs.StepTexts.{IsStep, IsStepLine}
use Rattle.sp_script_meaning.specs.declared.refusal.Proved.{Proved}
use Rattle.sp_script_meaning.specs.declared.refusal.ScriptRefusal.{ScriptRefusal}
use Rattle.sp_script_meaning.specs.declared.refusal.ScriptRefusal.TheVariants as refusal
use Rattle.sp_script_meaning.specs.Checking.{rule_step, Leads, IsStuck, AnswersCheck}
use Rattle.sp_script_meaning.proofs.OneLemmas.{leads_on}
use Rattle.sp_script_laws.proofs.ShownLemmas.{shown_true}
use Rattle.sp_script.specs.code.Following.{Goes, Stays, StaysIn, AnswersLine, AnswersLines}

-- ---- lines in a row

-- the first lines with the next one
next_taken : (ws : List Written) (i : ℕ) (w : Written) → i < length ws → w ≡ get_or ws i w → take (i + 1) ws ≡ take i ws ++ w ∷ []
next_taken ws i w lt at = take_more ws i w lt ∙ ap (λ x. take i ws ++ x ∷ []) (sym at)

-- the lines at a place
parted : (ws : List Written) (i : ℕ) (w : Written) → i < length ws → w ≡ get_or ws i w → ws ≡ take i ws ++ w ∷ drop (i + 1) ws
parted ws i w lt at = sym (take-append-drop i ws) ∙ ap (λ x. take i ws ++ x) (drop_more ws i w lt ∙ ap (λ x. x ∷ drop (i + 1) ws) (sym at))

pub line_at : (ws : List Written) (i : ℕ) (w : Written) → i < length ws → w ≡ get_or ws i w → AllByRecursion (λ (x : Written). IsStepLine x.text) ws → IsStepLine w.text
line_at [] i w lt at h = absurd (omega arith)
line_at (x ∷ ws) zero w lt at h = subst (λ (y : Written). IsStepLine y.text) (sym at) h.0
line_at (x ∷ ws) (suc i) w lt at h = line_at ws i w (omega arith) at h.1

pub leads_none : (image : ImageMap) (ws : List Written) (s : State) → Leads image (take 0 ws) s s
leads_none image ws s = refl

pub leads_more : (image : ImageMap) (ws : List Written) (old middle new : State) (i : ℕ) (w : Written) → Leads image (take i ws) old middle → i < length ws → w ≡ get_or ws i w → Goes image middle w new → Leads image (take (i + 1) ws) old new
leads_more image ws old middle new i w h lt at g =
    subst (λ x. Leads image x old new) (sym (next_taken ws i w lt at))
    (leads_on image (take i ws) (w ∷ []) old middle new h (g.step, new, g.is, g.applies, refl))

pub leads_all : (image : ImageMap) (ws : List Written) (old new : State) (i : ℕ) → Leads image (take i ws) old new → length ws ≤ i → Leads image ws old new
leads_all image ws old new i h all = subst (λ x. Leads image x old new) (take_all i ws all) h

-- the answer on a line is that on all, where it is a refusal
pub refused_line : (image : ImageMap) (ws : List Written) (old middle : State) (i : ℕ) (w : Written) (e : ScriptRefusal) → Leads image (take i ws) old middle → i < length ws → w ≡ get_or ws i w
    → AnswersLine image middle w (Err e) → AnswersLines image old ws (Err e)
refused_line image ws old middle i w (refusal.Step line rule) h lt at g =
    record { above = take i ws; on = w; below = drop (i + 1) ws; whole = parted ws i w lt at; state = middle; leads = h; stays = g }
refused_line image ws old middle i w (refusal.Unfinished line) h lt at g = g
refused_line image ws old middle i w refusal.Memory h lt at g = tt

-- ---- one line

pub stays : (image : ImageMap) (old : State) (w : Written) (step : declared.Step) (rule : Rule) (e : RuleRefusal) → IsStep (seen step) w.text → Applies (rule_step image (seen step)) old (Err e) → e ≡ rule_refusal.NoApply
    → rule ≡ rule_of (seen step) → Stays image old w w.line.0 rule
stays image old w step rule e is applies none r =
    record { place = refl; step = seen step; is = is; rule_is = sym r; stuck = subst (λ x. Applies (rule_step image (seen step)) old (Err x)) none applies }

-- ---- whole scripts

pub valid_where_proved : (image : ImageMap) (c : Condition) (s : Script) (result : Result Proved ScriptRefusal) → AnswersCheck image c s result → (stack : Region) → IsProper (start c) → IfOk result (λ _. IsValid image stack c)
valid_where_proved image c s (Ok proved) h stack proper = shown_true image stack c s proper h
valid_where_proved image c s (Err e) h stack proper = tt

pub stuck_in : (image : ImageMap) (c : Condition) (s : Script) (line : ℕ) (rule : Rule) → StaysIn image (start c) s.steps line rule → IsStuck image c s line rule
stuck_in image c s line rule h = record {
  above = h.above;
  on = h.on;
  below = h.below;
  whole = h.whole;
  place = h.stays.place;
  state = h.state;
  leads = h.leads;
  step = h.stays.step;
  is = h.stays.is;
  rule_is = h.stays.rule_is;
  stuck = h.stays.stuck;
}

pub refused_script : (image : ImageMap) (c : Condition) (s : Script) (e : ScriptRefusal) → AnswersLines image (start c) s.steps (Err e) → AnswersCheck image c s (Err e)
refused_script image c s (refusal.Step line rule) h = stuck_in image c s line.0 rule h
refused_script image c s (refusal.Unfinished line) h = absurd h
refused_script image c s refusal.Memory h = tt
