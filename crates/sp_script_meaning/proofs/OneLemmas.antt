-- A script has one answer.
use Rattle.std.proofs.Common.{◌≡◌, ℕ, List, [], ◌∷◌, ◌++◌, refl, sym, ap, subst, ◌∙◌, inl, inr}
use Rattle.std.specs.Prelude.{Result, Ok, Err}
use Rattle.sp_base.specs.Image.{ImageMap}
use Rattle.sp_term.specs.Admissible.{Condition}
use Rattle.sp_steps.specs.Subgoals.{State, start}
use Rattle.sp_steps.specs.Next.{IsNext}
use Rattle.sp_steps.proofs.OneLemmas.{next_one}
use Rattle.sp_script_text.specs.declared.rule.Rule.{Rule}
use Rattle.sp_script_text.specs.declared.script.Script.{Script}
use Rattle.sp_script_text.specs.declared.script.Written.{Written}
use Rattle.sp_script_text.specs.Steps.{Step, rule_of}
use Rattle.sp_script_text.specs.StepTexts.{IsStep}
use Rattle.sp_script_text.proofs.StepLemmas.{one_step}
use Rattle.sp_script_meaning.specs.declared.refusal.Proved.{Proved}
use Rattle.sp_script_meaning.specs.declared.refusal.ScriptRefusal.{ScriptRefusal}
use Rattle.sp_script_meaning.specs.declared.refusal.ScriptRefusal.TheVariants as refusal
use Rattle.sp_script_meaning.specs.Checking.{rule_step, Leads, Proves, IsStuck, IsUnfinished, AnswersCheck, IsOr, IsCompleteCheck}

-- the step of a line and the state after it are one
on_one : (image : ImageMap) (w : Written) (step other : Step) (old one next : State) → IsStep step w.text → IsStep other w.text → IsNext (rule_step image step) old one → IsNext (rule_step image other) old next → one ≡ next
on_one image w step other old one next is too first second =
    next_one (rule_step image step) old one next first (subst (λ s. IsNext (rule_step image s) old next) (one_step w.text other step too is) second)

pub leads_one : (image : ImageMap) (ws : List Written) (old one other : State) → Leads image ws old one → Leads image ws old other → one ≡ other
leads_one image [] old one other h g = sym h ∙ g
leads_one image (w ∷ ws) old one other h g =
    let same : h.1 ≡ g.1 = on_one image w h.0 g.0 old h.1 g.1 h.2 g.2 h.3 g.3 in
    leads_one image ws g.1 one other (subst (λ s. Leads image ws s one) same h.4) g.4

pub leads_on : (image : ImageMap) (first more : List Written) (old middle new : State) → Leads image first old middle → Leads image more middle new → Leads image (first ++ more) old new
leads_on image [] more old middle new h g = subst (λ s. Leads image more s new) (sym h) g
leads_on image (w ∷ first) more old middle new h g = (h.0, h.1, h.2, h.3, leads_on image first more h.1 middle new h.4 g)

-- the state before a step on the way, and the step
record Passes (image : ImageMap) (on : Written) (old middle : State) : Type 0 where
  step : Step
  next : State
  is : IsStep step on.text
  applies : IsNext (rule_step image step) middle next

passes : (image : ImageMap) (above : List Written) (on : Written) (below : List Written) (old middle new : State) → Leads image above old middle → Leads image (above ++ on ∷ below) old new → Passes image on old middle
passes image [] on below old middle new h g =
    record { step = g.0; next = g.1; is = g.2; applies = subst (λ s. IsNext (rule_step image g.0) s g.1) h g.3 }
passes image (w ∷ above) on below old middle new h g =
    let same : h.1 ≡ g.1 = on_one image w h.0 g.0 old h.1 g.1 h.2 g.2 h.3 g.3 in
    let p = passes image above on below g.1 middle new (subst (λ s. Leads image above s middle) same h.4) g.4 in
    record { step = p.step; next = p.next; is = p.is; applies = p.applies }

-- no steps pass one that doesn't apply
stuck_passes : (image : ImageMap) (c : Condition) (s : Script) (line : ℕ) (rule : Rule) (h : IsStuck image c s line rule) (below : List Written) (new : State) → Leads image (h.above ++ h.on ∷ below) (start c) new → ⊥
stuck_passes image c s line rule h below new leads =
    let p = passes image h.above h.on below (start c) h.state new h.leads leads in
    h.stuck p.next (subst (λ t. IsNext (rule_step image t) h.state p.next) (one_step h.on.text p.step h.step p.is h.is) p.applies)

stuck_ends : (image : ImageMap) (c : Condition) (s : Script) (line : ℕ) (rule : Rule) → IsStuck image c s line rule → (new : State) → Leads image s.steps (start c) new → ⊥
stuck_ends image c s line rule h new leads = stuck_passes image c s line rule h h.below new (subst (λ ws. Leads image ws (start c) new) h.whole leads)

-- ---- two steps that don't apply are one

data Divided (above : List Written) (on : Written) (other : List Written) (too : Written) : Type 0 where
  Same : on ≡ too → above ≡ other → Divided above on other too
  Before : (m : List Written) → other ≡ above ++ on ∷ m → Divided above on other too
  After : (m : List Written) → above ≡ other ++ too ∷ m → Divided above on other too

first_of : (x y : Written) (xs ys : List Written) → x ∷ xs ≡ y ∷ ys → (x ≡ y) × (xs ≡ ys)
first_of x y xs ys e = (cc, cc)

divided : (above : List Written) (on : Written) (below : List Written) (other : List Written) (too : Written) (rest : List Written) → above ++ on ∷ below ≡ other ++ too ∷ rest → Divided above on other too
divided [] on below [] too rest e = Same (first_of on too below rest e).0 refl
divided [] on below (y ∷ other) too rest e = Before other (ap (λ x. x ∷ other) (sym (first_of on y below (other ++ too ∷ rest) e).0))
divided (x ∷ above) on below [] too rest e = After above (ap (λ y. y ∷ above) (first_of x too (above ++ on ∷ below) rest e).0)
divided (x ∷ above) on below (y ∷ other) too rest e =
    let p = first_of x y (above ++ on ∷ below) (other ++ too ∷ rest) e in
    by p.0 (divided above on below other too rest p.1)
  where
    by : x ≡ y → Divided above on other too → Divided (x ∷ above) on (y ∷ other) too
    by q (Same h g) = Same h (λ i. q i ∷ g i)
    by q (Before m h) = Before m (λ i. sym q i ∷ h i)
    by q (After m h) = After m (λ i. q i ∷ h i)

one_stuck : (image : ImageMap) (c : Condition) (s : Script) (line there : ℕ) (rule other : Rule) → IsStuck image c s line rule → IsStuck image c s there other → (line ≡ there) × (rule ≡ other)
one_stuck image c s line there rule other h g = by (divided h.above h.on h.below g.above g.on g.below (sym h.whole ∙ g.whole))
  where
    by : Divided h.above h.on g.above g.on → (line ≡ there) × (rule ≡ other)
    by (Same e above) =
        let step : h.step ≡ g.step = one_step g.on.text h.step g.step (subst (λ (w : Written). IsStep h.step w.text) e h.is) g.is in
        (sym h.place ∙ ap (λ (w : Written). w.line.0) e ∙ g.place, sym h.rule_is ∙ ap rule_of step ∙ g.rule_is)
    by (Before m e) = absurd (stuck_passes image c s line rule h m g.state (subst (λ ws. Leads image ws (start c) g.state) e g.leads))
    by (After m e) = absurd (stuck_passes image c s there other g m h.state (subst (λ ws. Leads image ws (start c) h.state) e h.leads))

proved_finished : (image : ImageMap) (c : Condition) (s : Script) (line : ℕ) → Proves image c s → IsUnfinished image c s line → ⊥
proved_finished image c s line h g = g.left (ap (λ (x : State). x.subgoals) (leads_one image s.steps (start c) g.final h.final g.leads h.leads) ∙ h.closed)

-- ---- the answer that says the right thing is the only one

proved_by : (image : ImageMap) (c : Condition) (s : Script) (result : Result Proved ScriptRefusal) → AnswersCheck image c s result → Proves image c s → IsOr result (Ok (record {}))
proved_by image c s (Ok proved) h g = inl refl
proved_by image c s (Err (refusal.Step line rule)) h g = absurd (stuck_ends image c s line.0 rule h g.final g.leads)
proved_by image c s (Err (refusal.Unfinished line)) h g = absurd (proved_finished image c s line.0 g h)
proved_by image c s (Err refusal.Memory) h g = inr refl

stuck_by : (image : ImageMap) (c : Condition) (s : Script) (result : Result Proved ScriptRefusal) → AnswersCheck image c s result → (line : ℕ) (rule : Rule) → IsStuck image c s line rule
    → IsOr result (Err (refusal.Step (record { 0 = line }) rule))
stuck_by image c s (Ok proved) h line rule g = absurd (stuck_ends image c s line rule g h.final h.leads)
stuck_by image c s (Err (refusal.Step at other)) h line rule g =
    let p = one_stuck image c s at.0 line other rule h g in
    inl (λ i. Err (refusal.Step (record { 0 = p.0 i }) (p.1 i)))
stuck_by image c s (Err (refusal.Unfinished at)) h line rule g = absurd (stuck_ends image c s line rule g h.final h.leads)
stuck_by image c s (Err refusal.Memory) h line rule g = inr refl

unfinished_by : (image : ImageMap) (c : Condition) (s : Script) (result : Result Proved ScriptRefusal) → AnswersCheck image c s result → (line : ℕ) → IsUnfinished image c s line
    → IsOr result (Err (refusal.Unfinished (record { 0 = line })))
unfinished_by image c s (Ok proved) h line g = absurd (proved_finished image c s line h g)
unfinished_by image c s (Err (refusal.Step at other)) h line g = absurd (stuck_ends image c s at.0 other h g.final g.leads)
unfinished_by image c s (Err (refusal.Unfinished at)) h line g =
    let p : at.0 ≡ line = sym h.place ∙ g.place in
    inl (λ i. Err (refusal.Unfinished (record { 0 = p i })))
unfinished_by image c s (Err refusal.Memory) h line g = inr refl

pub complete_check : (image : ImageMap) (c : Condition) (s : Script) (result : Result Proved ScriptRefusal) → AnswersCheck image c s result → IsCompleteCheck image c s result
complete_check image c s result h = record { proved = proved_by image c s result h; stuck = stuck_by image c s result h; unfinished = unfinished_by image c s result h }
