-- What the functions behind the calls answer: the state that an option has, or NoApply where it has none.
use Rattle.std.specs.Prelude.{◌≡◌, ℕ, ◌+◌, ⊤, Bool, true, false, ◌&&◌, nat_le, if◌then◌else◌, Option, Some, None, List, [], ◌∷◌, ◌++◌, map, length, Result, Ok, Err}
use Rattle.std.specs.Borrow.{Bor}
use Rattle.sp_term.specs.Tree.{Tree}
use Rattle.sp_term.specs.Admissible.{Change}
use Rattle.sp_steps.specs.declared.refusal.RuleRefusal.{RuleRefusal}
use Rattle.sp_steps.specs.declared.refusal.RuleRefusal.TheVariants as refusal
use Rattle.sp_steps.specs.Subgoals.{Subgoal, State, subgoal, joined, most_hypotheses, is_small}
use Rattle.sp_steps.specs.Steps.{New}
use Rattle.sp_steps.specs.Next.{after, may_be_subgoals}
use Rattle.sp_term.specs.declared.cond.Cond.{Cond}
use Rattle.sp_rules.specs.declared.work.Work.{Work}
use Rattle.sp_rules.specs.declared.work.Waiting.{Waiting}
use Rattle.sp_rules.specs.code.Work.{hypotheses_of, rest_of, changes_of}

abbrev pub Becomes : Result State RuleRefusal → Option State → Type 0
Becomes (Ok s) o = o ≡ Some s
Becomes (Err refusal.NoApply) o = o ≡ None
Becomes (Err refusal.Memory) o = ⊤

abbrev pub in_state : List Change → Option (List Subgoal) → Option State
in_state cs (Some gs) = Some (record { subgoals = gs; changes = cs })
in_state cs None = None

-- the state after what a rule makes, where the first subgoal was taken out
abbrev pub carried : Option (List New) → Work → Option State
carried (Some made) w = in_state (changes_of w) (after (hypotheses_of w) (rest_of w) made)
carried None w = None

-- ---- new subgoals as what is added, and the goal

abbrev pub may_be_longer : ℕ → List Tree → Bool
may_be_longer count [] = true
may_be_longer count (p ∷ ps) = nat_le (count + length (p ∷ ps)) most_hypotheses

abbrev pub may_all_be_longer : ℕ → List Subgoal → Bool
may_all_be_longer count [] = true
may_all_be_longer count (g ∷ gs) = may_be_longer count g.hypotheses && may_all_be_longer count gs

abbrev pub placed : List Tree → List Subgoal → List Subgoal → Option (List Subgoal)
placed hs rest new =
    if may_all_be_longer (length hs) new && may_be_subgoals (1 + length rest) (length new + length rest) then
    Some (map (λ g. subgoal (hs ++ g.hypotheses) g.goal) new ++ rest)
    else None

abbrev pub placed_in : Work → List Subgoal → Option State
placed_in w new = in_state (changes_of w) (placed (hypotheses_of w) (rest_of w) new)

-- what one more subgoal does to those at work
abbrev pub IsPushed : Result Unit RuleRefusal → Work → Work → List Tree → Tree → Type 0
IsPushed (Ok _) old new added goal =
    (may_be_longer (length (hypotheses_of old)) added ≡ true) × (rest_of new ≡ subgoal (hypotheses_of old ++ added) goal ∷ rest_of old)
IsPushed (Err refusal.NoApply) old new added goal = may_be_longer (length (hypotheses_of old)) added ≡ false
IsPushed (Err refusal.Memory) old new added goal = ⊤

-- the first subgoal was taken out, or there is none
abbrev pub IsEntered : Result (Bor Tree) RuleRefusal → List Subgoal → Work → Type 0
IsEntered (Ok goal) old new = old ≡ subgoal (hypotheses_of new) goal.now ∷ rest_of new
IsEntered (Err refusal.NoApply) old new = old ≡ []
IsEntered (Err refusal.Memory) old new = ⊤

abbrev pub IsTakenOut : Result (Work × Bor Tree) RuleRefusal → State → Type 0
IsTakenOut (Ok r) old = (old.subgoals ≡ subgoal (hypotheses_of r.0) r.1.now ∷ rest_of r.0) × (old.changes ≡ changes_of r.0)
IsTakenOut (Err refusal.NoApply) old = old.subgoals ≡ []
IsTakenOut (Err refusal.Memory) old = ⊤

-- a formula that keeps the limits, or NoApply where it doesn't
abbrev pub IsLimited : Result (Bor Tree) RuleRefusal → Tree → Type 0
IsLimited (Ok r) t = (r.now ≡ t) × (is_small t ≡ true)
IsLimited (Err refusal.NoApply) t = is_small t ≡ false
IsLimited (Err refusal.Memory) t = ⊤

abbrev pub goal_now : Option (Bor Tree) → Option Tree
goal_now (Some g) = Some g.now
goal_now None = None

-- goals joined by `and`, none where there are none
abbrev pub joined_goals : List Tree → Option Tree
joined_goals [] = None
joined_goals (p ∷ ps) = Some (joined p ps)

-- the subgoal of a condition with this goal
abbrev pub first_waiting : Cond → Bor Tree → Waiting
first_waiting c g = record { kept = 0; added = c.hyps; goal = g }
