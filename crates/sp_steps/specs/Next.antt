-- The state after a step, and what a call of a rule answers (this project's own).
use Rattle.std.specs.Prelude.{◌≡◌, ℕ, ◌+◌, max, ⊤, ℤ, Bool, true, ◌&&◌, nat_le, if◌then◌else◌, Option, Some, None, List, [], ◌∷◌, ◌++◌, map, length, Result, Ok, Err}
use Rattle.std.specs.List.{AllZip}
use Rattle.sp_term.specs.Tree.{Tree}
use Rattle.sp_term.specs.Intervals.{interval}
use Rattle.sp_term.specs.Admissible.{Change}
use Rattle.sp_simp.specs.Simple.{IsSimpleForm}
use Rattle.sp_linear.specs.Linear.{Follows}
use Rattle.sp_steps.specs.declared.refusal.RuleRefusal.{RuleRefusal}
use Rattle.sp_steps.specs.declared.refusal.RuleRefusal.TheVariants as refusal
use Rattle.sp_steps.specs.Subgoals.{Subgoal, State, subgoal, hypothesis, most_hypotheses, most_subgoals, IsFresh}
use Rattle.sp_steps.specs.Steps.{Step, Close, Simp, Split, Intro, OneSide, Unpack, UseBoth, CasesOf, CasesOn, Cut, Fix, At, Give, Pick, Induct, Rewrite, Linear, DivMod, Range, Read, Rom, Frame, Bits, BitOf, Choose, Empty, Last, Over, Piece, Built, New, formula, is_legal, adds}
use Rattle.sp_steps.specs.Rows.{closed_by, with_simple_goal, split_goal, introduced, on_side, unpacked, used, cases_of, cases_on, cut_by, fixed, instance_of, given, picked, inducted, sides_of_some, rewritten_goal, rewritten_one, divided, ranged, read_cell, change_of_memory, loaded, unchanged, in_bits, bit_of, chosen, empty_total, last_of_total, total_over_update}

-- the hypotheses that are named by number, each with its multiplier
abbrev pub AreNamed : List Tree → List (ℤ × ℕ) → List (ℤ × Tree) → Type 0
AreNamed hs numbers named = AllZip (λ n h. (n.0 ≡ h.0) × (hypothesis hs n.1 ≡ Some h.1)) numbers named

-- What a step makes of the first subgoal: the table, a line a step.
abbrev pub Row : List Change → Subgoal → Step → List New → Type 0
Row cs g (Close k) made = closed_by (hypothesis g.hypotheses k) g.goal ≡ Some made
Row cs g (Simp None) made = (p : Tree) × IsSimpleForm g.goal p × (with_simple_goal p ≡ made)
Row cs g (Simp (Some k)) made = (h p : Tree) × (hypothesis g.hypotheses k ≡ Some h) × IsSimpleForm h p × (adds (Built p ∷ []) g.goal ≡ Some made)
Row cs g Split made = split_goal g.goal ≡ Some made
Row cs g Intro made = introduced g.goal ≡ Some made
Row cs g (OneSide s) made = on_side s g.goal ≡ Some made
Row cs g (Unpack k) made = unpacked (hypothesis g.hypotheses k) g.goal ≡ Some made
Row cs g (UseBoth k j) made = used (hypothesis g.hypotheses k) (hypothesis g.hypotheses j) g.goal ≡ Some made
Row cs g (CasesOf k) made = cases_of (hypothesis g.hypotheses k) g.goal ≡ Some made
Row cs g (CasesOn p) made = cases_on p g.goal ≡ Some made
Row cs g (Cut p) made = cut_by p g.goal ≡ Some made
Row cs g Fix made = (j : ℕ) × IsFresh g j × (fixed j g.goal ≡ Some made)
Row cs g (At k t) made = instance_of (hypothesis g.hypotheses k) t g.goal ≡ Some made
Row cs g (Give t) made = given t g.goal ≡ Some made
Row cs g (Pick k) made = (j : ℕ) × IsFresh g j × (picked j (hypothesis g.hypotheses k) g.goal ≡ Some made)
Row cs g Induct made = (j : ℕ) × IsFresh g j × (inducted j g.goal ≡ Some made)
Row cs g (Rewrite k None back) made = rewritten_goal (sides_of_some back (hypothesis g.hypotheses k)) g.goal ≡ Some made
Row cs g (Rewrite k (Some j) back) made = rewritten_one (sides_of_some back (hypothesis g.hypotheses k)) (hypothesis g.hypotheses j) g.goal ≡ Some made
Row cs g (Linear n numbers) made = (named : List (ℤ × Tree)) × AreNamed g.hypotheses numbers named × Follows n named g.goal × (made ≡ [])
Row cs g (DivMod t c) made = divided t c g.goal ≡ Some made
Row cs g (Range t) made = ranged (interval t) t g.goal ≡ Some made
Row cs g (Read t) made = read_cell t g.goal ≡ Some made
Row cs g (Rom m c image) made = loaded cs m c image g.goal ≡ Some made
Row cs g (Frame m t) made = unchanged m (change_of_memory m cs) t g.goal ≡ Some made
Row cs g (Bits t) made = in_bits t g.goal ≡ Some made
Row cs g (BitOf k t) made = bit_of k t g.goal ≡ Some made
Row cs g (Choose t) made = chosen t g.goal ≡ Some made
Row cs g (Empty t) made = empty_total t g.goal ≡ Some made
Row cs g (Last t) made = last_of_total t g.goal ≡ Some made
Row cs g (Over t) made = total_over_update t g.goal ≡ Some made

-- ---- the limits, and the new state

abbrev pub are_legal : List Piece → Bool
are_legal [] = true
are_legal (p ∷ ps) = is_legal p && are_legal ps

-- where formulas are added there are at most 4,096 hypotheses
abbrev pub may_be_added : ℕ → List Piece → Bool
may_be_added count [] = true
may_be_added count (p ∷ ps) = nat_le (count + length (p ∷ ps)) most_hypotheses

abbrev pub is_within_limits : ℕ → New → Bool
is_within_limits count n = are_legal n.added && is_legal n.goal && may_be_added count n.added

abbrev pub are_within_limits : ℕ → List New → Bool
are_within_limits count [] = true
are_within_limits count (n ∷ ns) = is_within_limits count n && are_within_limits count ns

-- at most 4,096 subgoals, or no more than before
abbrev pub may_be_subgoals : ℕ → ℕ → Bool
may_be_subgoals before now = nat_le now (max before most_subgoals)

abbrev pub new_subgoal : List Tree → New → Subgoal
new_subgoal hs n = subgoal (hs ++ map formula n.added) (formula n.goal)

-- the new subgoals take the place of the first one, where the limits are kept
abbrev pub after : List Tree → List Subgoal → List New → Option (List Subgoal)
after hs rest made =
    if are_within_limits (length hs) made && may_be_subgoals (1 + length rest) (length made + length rest) then Some (map (new_subgoal hs) made ++ rest) else None

-- a step works on the first subgoal; what is known of memories stays
pub record IsNext (step : Step) (old new : State) : Type 0 where
  pub first : Subgoal
  pub rest : List Subgoal
  pub made : List New
  pub on_first : old.subgoals ≡ first ∷ rest
  pub row : Row old.changes first step made
  pub placed : after first.hypotheses rest made ≡ Some new.subgoals
  pub changes : new.changes ≡ old.changes

-- What a call answers: the next state, NoApply where there is none. Want of memory says nothing.
abbrev pub Applies : Step → State → Result State RuleRefusal → Type 0
Applies step old (Ok new) = IsNext step old new
Applies step old (Err refusal.NoApply) = (new : State) → IsNext step old new → ⊥
Applies step old (Err refusal.Memory) = ⊤
