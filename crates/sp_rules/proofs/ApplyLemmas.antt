-- From what a rule makes of the first subgoal to the answer of its call.
use Rattle.std.proofs.Common.{◌≡◌, ℕ, refl, sym, ◌∙◌, ap, subst, List, [], ◌∷◌, Option, Some, None}
use Rattle.std.specs.Prelude.{Result, Ok, Err}
use Rattle.sp_term.specs.Tree.{Tree}
use Rattle.sp_steps.specs.declared.refusal.RuleRefusal.{RuleRefusal}
use Rattle.sp_steps.specs.declared.refusal.RuleRefusal.TheVariants as refusal
use Rattle.sp_simp.specs.Simple.{IsSimpleForm}
use Rattle.sp_simp.proofs.OneLemmas.{simple_one}
use Rattle.sp_steps.specs.Subgoals.{Subgoal, State, subgoal, hypothesis, IsFresh}
use Rattle.sp_steps.specs.Steps.{Step, New, Fix, Pick, Induct, Simp, Built, adds}
use Rattle.sp_steps.specs.Rows.{with_simple_goal, fixed, picked, inducted}
use Rattle.sp_steps.specs.Next.{Row, after, IsNext, Applies}
use Rattle.sp_steps.proofs.OneLemmas.{some_one, fresh_one, next_none}
use Rattle.sp_rules.specs.declared.work.Work.{Work}
use Rattle.sp_rules.specs.code.Work.{hypotheses_of, rest_of, changes_of}
use Rattle.sp_rules.specs.code.Outcome.{Becomes, in_state, carried}

-- the first subgoal of a state was taken out
pub record IsAtWork (old : State) (w : Work) (goal : Tree) : Type 0 where
  pub subgoals : old.subgoals ≡ subgoal (hypotheses_of w) goal ∷ rest_of w
  pub changes : old.changes ≡ changes_of w

-- an option holds exactly what a row makes
pub record IsRow (old : State) (w : Work) (goal : Tree) (step : Step) (o : Option (List New)) : Type 0 where
  pub holds : (made : List New) → o ≡ Some made → Row old.changes (subgoal (hypotheses_of w) goal) step made
  pub only : (made : List New) → Row old.changes (subgoal (hypotheses_of w) goal) step made → o ≡ Some made

head_of : {A : Type 0} (x y : A) (xs ys : List A) → x ∷ xs ≡ y ∷ ys → x ≡ y
head_of x y xs ys e = cc

tail_of : {A : Type 0} (x y : A) (xs ys : List A) → x ∷ xs ≡ y ∷ ys → xs ≡ ys
tail_of x y xs ys e = cc

none_some : {A : Type 0} {P : Type 0} (a : A) → None ≡ Some a → P
none_some a e = absurd (cc)

-- a state that follows has the subgoals of what the row makes
follows_after : (old : State) (w : Work) (goal : Tree) (step : Step) (o : Option (List New)) (new : State) → IsAtWork old w goal → IsRow old w goal step o → IsNext step old new → (made : List New) × (o ≡ Some made) × (after (hypotheses_of w) (rest_of w) made ≡ Some new.subgoals)
follows_after old w goal step o new h row n =
    let g : Subgoal = subgoal (hypotheses_of w) goal in
    let both : n.first ∷ n.rest ≡ g ∷ rest_of w = sym n.on_first ∙ h.subgoals in
    let first : n.first ≡ g = head_of n.first g n.rest (rest_of w) both in
    let rest : n.rest ≡ rest_of w = tail_of n.first g n.rest (rest_of w) both in
    let made : Row old.changes g step n.made = subst (λ f. Row old.changes f step n.made) first n.row in
    (n.made, row.only n.made made, (λ i. after (sym first i).hypotheses (sym rest i) n.made) ∙ n.placed)

carried_some : (w : Work) (o : Option (List New)) (s : State) → carried o w ≡ Some s → (made : List New) × (o ≡ Some made) × (after (hypotheses_of w) (rest_of w) made ≡ Some s.subgoals) × (s.changes ≡ changes_of w)
carried_some w None s e = none_some s e
carried_some w (Some made) s e = by (after (hypotheses_of w) (rest_of w) made) refl e
  where
    by : (gs : Option (List Subgoal)) → after (hypotheses_of w) (rest_of w) made ≡ gs → in_state (changes_of w) gs ≡ Some s → (m : List New) × (Some made ≡ Some m) × (after (hypotheses_of w) (rest_of w) m ≡ Some s.subgoals) × (s.changes ≡ changes_of w)
    by None d k = none_some s k
    by (Some gs) d k =
        let same : (record { subgoals = gs; changes = changes_of w }) ≡ s = some_one _ s refl k in
        (made, refl, d ∙ ap (λ (t : State). Some t.subgoals) same, sym (ap (λ (t : State). t.changes) same))

carried_none : (w : Work) (made : List New) (gs : List Subgoal) → carried (Some made) w ≡ None → after (hypotheses_of w) (rest_of w) made ≡ Some gs → ⊥
carried_none w made gs e d = none_some (record { subgoals = gs; changes = changes_of w }) (sym e ∙ ap (in_state (changes_of w)) d)

pub applies_at : (step : Step) (old : State) (w : Work) (goal : Tree) (o : Option (List New)) (result : Result State RuleRefusal) → IsAtWork old w goal → IsRow old w goal step o → Becomes result (carried o w) → Applies step old result
applies_at step old w goal o (Ok s) h row b =
    let (made, e, placed, changes) = carried_some w o s b in
    record { first = subgoal (hypotheses_of w) goal; rest = rest_of w; made = made; on_first = h.subgoals; row = row.holds made e; placed = placed; changes = changes ∙ sym h.changes }
applies_at step old w goal o (Err refusal.NoApply) h row b = λ new n.
    let (made, e, placed) = follows_after old w goal step o new h row n in
    carried_none w made new.subgoals (subst (λ p. carried p w ≡ None) e b) placed
applies_at step old w goal o (Err refusal.Memory) h row b = tt

-- no step applies where there is no subgoal
pub applies_none : (step : Step) (old : State) → old.subgoals ≡ [] → Applies step old (Err refusal.NoApply)
applies_none step old h = λ new n. next_none step old new h n

-- ---- rules that are relations

pub applies_fix : (old : State) (w : Work) (goal : Tree) (j : ℕ) (result : Result State RuleRefusal) → IsAtWork old w goal → IsFresh (subgoal (hypotheses_of w) goal) j → Becomes result (carried (fixed j goal) w) → Applies Fix old result
applies_fix old w goal j result h f b =
    applies_at Fix old w goal (fixed j goal) result h
    (record {
      holds = λ made e. (j, f, e);
      only = λ made r. ap (λ l. fixed l goal) (fresh_one (subgoal (hypotheses_of w) goal) j r.0 f r.1) ∙ r.2;
    }) b

pub applies_pick : (k : ℕ) (old : State) (w : Work) (goal : Tree) (j : ℕ) (result : Result State RuleRefusal) → IsAtWork old w goal → IsFresh (subgoal (hypotheses_of w) goal) j → Becomes result (carried (picked j (hypothesis (hypotheses_of w) k) goal) w) → Applies (Pick k) old result
applies_pick k old w goal j result h f b =
    applies_at (Pick k) old w goal (picked j (hypothesis (hypotheses_of w) k) goal) result h
    (record {
      holds = λ made e. (j, f, e);
      only = λ made r. ap (λ l. picked l (hypothesis (hypotheses_of w) k) goal) (fresh_one (subgoal (hypotheses_of w) goal) j r.0 f r.1) ∙ r.2;
    }) b

pub applies_induct : (old : State) (w : Work) (goal : Tree) (j : ℕ) (result : Result State RuleRefusal) → IsAtWork old w goal → IsFresh (subgoal (hypotheses_of w) goal) j → Becomes result (carried (inducted j goal) w) → Applies Induct old result
applies_induct old w goal j result h f b =
    applies_at Induct old w goal (inducted j goal) result h
    (record {
      holds = λ made e. (j, f, e);
      only = λ made r. ap (λ l. inducted l goal) (fresh_one (subgoal (hypotheses_of w) goal) j r.0 f r.1) ∙ r.2;
    }) b

pub applies_simp : (old : State) (w : Work) (goal p : Tree) (result : Result State RuleRefusal) → IsAtWork old w goal → IsSimpleForm goal p → Becomes result (carried (Some (with_simple_goal p)) w) → Applies (Simp None) old result
applies_simp old w goal p result h f b =
    applies_at (Simp None) old w goal (Some (with_simple_goal p)) result h
    (record {
      holds = λ made e. (p, f, some_one (with_simple_goal p) made refl e);
      only = λ made r. ap Some (ap with_simple_goal (simple_one f r.0 r.1) ∙ r.2);
    }) b

pub applies_simp_at : (k : ℕ) (old : State) (w : Work) (goal t p : Tree) (result : Result State RuleRefusal) → IsAtWork old w goal → hypothesis (hypotheses_of w) k ≡ Some t → IsSimpleForm t p → Becomes result (carried (adds (Built p ∷ []) goal) w) → Applies (Simp (Some k)) old result
applies_simp_at k old w goal t p result h e f b =
    applies_at (Simp (Some k)) old w goal (adds (Built p ∷ []) goal) result h
    (record { holds = λ made d. (t, p, e, f, d); only = only }) b
  where
    only : (made : List New) → Row old.changes (subgoal (hypotheses_of w) goal) (Simp (Some k)) made → adds (Built p ∷ []) goal ≡ Some made
    only made (u, q, d, g, m) = ap (λ s. adds (Built s ∷ []) goal) (simple_one f q (subst (λ s. IsSimpleForm s q) (some_one u t d e) g)) ∙ m

pub applies_no_simp : (k : ℕ) (old : State) (w : Work) (goal : Tree) → IsAtWork old w goal → hypothesis (hypotheses_of w) k ≡ None → Applies (Simp (Some k)) old (Err refusal.NoApply)
applies_no_simp k old w goal h e =
    applies_at (Simp (Some k)) old w goal None (Err refusal.NoApply) h (record { holds = λ made d. none_some made d; only = only }) refl
  where
    only : (made : List New) → Row old.changes (subgoal (hypotheses_of w) goal) (Simp (Some k)) made → None ≡ Some made
    only made (u, q, d, g, m) = none_some u (sym e ∙ d)
