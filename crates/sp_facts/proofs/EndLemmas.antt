-- What true conditions give at the ends of walks.
use Rattle.std.proofs.Common.{◌≡◌, ◌⊎◌, inl, inr, ℕ, suc, ◌+◌, ◌-◌, ◌≤◌, Bool, true, false, cond, not, ◌&&◌, ◌||◌, List, [], ◌∷◌, ◌++◌, length, map, Contains, refl, sym, ap, subst, ◌∙◌, pos, arith, int_le}
use Rattle.std.specs.Prelude.{filter}
use Rattle.std.specs.List.{AllByRecursion}
use Rattle.std.specs.Ordering.{int_eq}
use Rattle.std.proofs.lemmas.Bool.Decides.{nat_tests}
use Rattle.std.proofs.lemmas.Int.{ints}
use Rattle.std.proofs.lemmas.List.Elements.{All-from_recursion, recursion_from_All}
use Rattle.sp_base.specs.declared.location.Loc.{Loc}
use Rattle.sp_base.specs.declared.location.Loc.TheVariants as loc
use Rattle.sp_base.specs.Image.{ImageMap}
use Rattle.sp_base.specs.Locs.{has}
use Rattle.sp_graph.specs.declared.graph.End.{End}
use Rattle.sp_graph.specs.declared.graph.End.TheVariants as end
use Rattle.sp_isa.specs.Core.{at}
use Rattle.sp_logic.specs.View.{note_of}
use Rattle.sp_model.specs.Note.{Frame, Holds, IsClosed}
use Rattle.sp_model.specs.State.{State}
use Rattle.sp_prog.specs.declared.area.Area.{Area}
use Rattle.sp_prog.specs.declared.routine.Noted.{Noted}
use Rattle.sp_prog.specs.declared.routine.Stmt.{Stmt}
use Rattle.sp_prog.specs.View.{all_locs, listed_areas}
use Rattle.sp_term.specs.Admissible.{MeetsChange}
use Rattle.sp_term.specs.Tree.{Tree}
use Rattle.sp_term.specs.Value.{Env, IsTrueIn, int_of, value}
use Rattle.sp_trans.specs.ClosedTerms.{IsSymbolic}
use Rattle.sp_trans.specs.Formulas.{NoteFits}
use Rattle.sp_trans.specs.Meaning.{Gives, IsValueOf}
use Rattle.sp_trans.specs.Symbolic.{Symbolic}
use Rattle.sp_trans.proofs.NoteLemmas.{notes_are_translated}
use Rattle.sp_cond.specs.Calls.{callee_of}
use Rattle.sp_cond.specs.Conclusions.{accessed, permitted, pre_of, in_area, in_one, in_areas, unchanged, unlisted, goals}
use Rattle.sp_cond.specs.Execution.{Execution, formulas_of, choice, condition_in}
use Rattle.sp_cond.specs.Start.{Setting, entry_state}
use Rattle.sp_cond.specs.WalkConditions.{ends_taken}
use Rattle.sp_facts.specs.Ends.{IsTakenBy, IsAtEnd, AssertionsHold, CalleesAreEntered, ReturnsKeepTheirWord, IsInArea, AccessesArePermitted}
use Rattle.sp_facts.specs.Histories.{History, env_of}
use Rattle.sp_facts.proofs.AdmissibleLemmas.{environments_are_admissible}
use Rattle.sp_facts.proofs.EntryLemmas.{entry_symbolic, entry_value}
use Rattle.sp_facts.proofs.EnvironmentLemmas.{own}
use Rattle.sp_facts.proofs.StepLemmas.{choice_true}

all_both : (P : Tree → Type 0) (xs ys : List Tree) → AllByRecursion P xs → AllByRecursion P ys → AllByRecursion P (xs ++ ys)
all_both P [] ys h k = k
all_both P (x ∷ xs) ys h k = (h.0, all_both P xs ys h.1 k)

all_first : (P : Tree → Type 0) (xs ys : List Tree) → AllByRecursion P (xs ++ ys) → AllByRecursion P xs
all_first P [] ys h = tt
all_first P (x ∷ xs) ys h = (h.0, all_first P xs ys h.1)

all_last : (P : Tree → Type 0) (xs ys : List Tree) → AllByRecursion P (xs ++ ys) → AllByRecursion P ys
all_last P [] ys h = h
all_last P (x ∷ xs) ys h = all_last P xs ys h.1

-- ---- Goals are true

module _ (image : ImageMap) (u : Setting) (f : Frame) (h : History) (now : State) (x : Execution) (ends : End) (s : Stmt) (k : IsAtEnd image u f h now x ends s) where
  abbrev e : Env
  e = env_of f h

  here : IsValueOf f e x.state now.core
  here = k.execution.value e (own f h)

  last_true : (b : Bool) → IsTakenBy b s.instr now.core → AllByRecursion (IsTrueIn e) (cond b (choice s.instr true x.state) [])
  last_true true is = choice_true f e x.state now.core k.state.core here (condition_in s.instr) true is
  last_true false is = tt

  goals_true : AllByRecursion (IsTrueIn e) (goals u ends s x.state)
  goals_true =
      let met = All-from_recursion (MeetsChange image e) x.changes (k.execution.changed e (own f h)) in
      let chosen = last_true (ends_taken ends) k.chosen in
      let hypotheses = all_both (IsTrueIn e) x.hypotheses (cond (ends_taken ends) (choice s.instr true x.state) []) (k.execution.hypotheses e (own f h)) chosen in
      recursion_from_All (IsTrueIn e) (goals u ends s x.state)
      (k.valid e (environments_are_admissible image f h x.changes k.history_is k.image_is met)
      (All-from_recursion (IsTrueIn e) (x.hypotheses ++ cond (ends_taken ends) (choice s.instr true x.state) []) hypotheses))

-- ---- Annotations

abbrev Fits : ℕ → Noted → Type 0
Fits words n = IsClosed (note_of n.note) × NoteFits words (note_of n.note)

holding : (f : Frame) (e : Env) (g0 g : Symbolic) (s t : State) → IsSymbolic g0 → IsSymbolic g → IsValueOf f e g0 s.core → IsValueOf f e g t.core
    → (notes : List Noted) → AllByRecursion (Fits (length g.slots)) notes → AllByRecursion (IsTrueIn e) (formulas_of g0 g notes) → AllByRecursion (λ n. Holds f (note_of n.note) s t) notes
holding f e g0 g s t closed0 closed value0 value [] fit h = tt
holding f e g0 g s t closed0 closed value0 value (n ∷ notes) fit h = (
  (notes_are_translated f e g0 g s.core t.core (note_of n.note) closed0 closed fit.0.0 fit.0.1 value0 value).0 h.0,
  holding f e g0 g s t closed0 closed value0 value notes fit.1 h.1,
)

pub assertions_hold : AssertionsHold
assertions_hold image u f h now x s k fit =
    let e = env_of f h in
    All-from_recursion (λ n. Holds f (note_of n.note) h.entry now) s.asserts
    (holding f (env_of f h) entry_state x.state h.entry now entry_symbolic k.execution.symbolic (entry_value f h (env_of f h) (own f h)) (k.execution.value (env_of f h) (own f h)) s.asserts
    (recursion_from_All (Fits (length x.state.slots)) s.asserts fit) (goals_true image u f h now x end.Assert s k))

pub callees_are_entered : CalleesAreEntered
callees_are_entered image u f h now x s k fit =
    let pre = pre_of (callee_of u.unit.routines s.instr) in
    let value = k.execution.value (env_of f h) (own f h) in
    All-from_recursion (λ n. Holds f (note_of n.note) now now) (pre_of (callee_of u.unit.routines s.instr))
    (holding f (env_of f h) x.state x.state now now k.execution.symbolic k.execution.symbolic value value (pre_of (callee_of u.unit.routines s.instr))
    (recursion_from_All (Fits (length x.state.slots)) (pre_of (callee_of u.unit.routines s.instr)) fit) (goals_true image u f h now x end.Call s k))

-- ---- Returns

same_number : (a b : ℕ) → int_eq (pos a) (pos b) ≡ true → a ≡ b
same_number a b h = grind (arith, ints, nat_tests)

abbrev IsAmong : Loc → List Loc → Type 0
IsAmong x [] = ⊥
IsAmong x (y ∷ xs) = (y ≡ x) ⊎ IsAmong x xs

first_here : (x : Loc) (xs : List Loc) → IsAmong x (x ∷ xs)
first_here x xs = inl refl

every_loc : (x : Loc) → IsAmong x all_locs
every_loc loc.A = inl refl
every_loc loc.B = inr (inl refl)
every_loc loc.C = inr (inr (inl refl))
every_loc loc.D = inr (inr (inr (inl refl)))
every_loc loc.E = inr (inr (inr (inr (inl refl))))
every_loc loc.H = inr (inr (inr (inr (inr (inl refl)))))
every_loc loc.L = inr (inr (inr (inr (inr (inr (inl refl))))))
every_loc loc.S = inr (inr (inr (inr (inr (inr (inr (inl refl)))))))
every_loc loc.Z = inr (inr (inr (inr (inr (inr (inr (inr (inl refl))))))))
every_loc loc.Ac = inr (inr (inr (inr (inr (inr (inr (inr (inr (inl refl)))))))))
every_loc loc.P = inr (inr (inr (inr (inr (inr (inr (inr (inr (inr (inl refl))))))))))
every_loc loc.Cy = inr (inr (inr (inr (inr (inr (inr (inr (inr (inr (inr (inl refl)))))))))))

module _ (passes : Loc → Bool) (e : Env) (g : Symbolic) (x : Loc) (passing : passes x ≡ true) where
  after_first : (b : Bool) (y : Loc) (rest : List Loc) → AllByRecursion (IsTrueIn e) (map (unchanged g) (cond b (y ∷ rest) rest)) → AllByRecursion (IsTrueIn e) (map (unchanged g) rest)
  after_first true y rest h = h.1
  after_first false y rest h = h

  at_first : (b : Bool) (y : Loc) (rest : List Loc) → passes y ≡ b → y ≡ x → AllByRecursion (IsTrueIn e) (map (unchanged g) (cond b (y ∷ rest) rest)) → IsTrueIn e (unchanged g x)
  at_first true y rest is same h = subst (λ z. IsTrueIn e (unchanged g z)) same h.0
  at_first false y rest is same h = let wrong : true ≡ false = sym passing ∙ ap passes (sym same) ∙ is in absurd cc

  among_passing : (xs : List Loc) → IsAmong x xs → AllByRecursion (IsTrueIn e) (map (unchanged g) (filter passes xs)) → IsTrueIn e (unchanged g x)
  among_passing [] among h = absurd among
  among_passing (y ∷ xs) (inl same) h = at_first (passes y) y (filter passes xs) refl same h
  among_passing (y ∷ xs) (inr below) h = among_passing xs below (after_first (passes y) y (filter passes xs) h)

unlisted_same : (f : Frame) (h : History) (g : Symbolic) (now : State) (x : Loc) → IsValueOf f (env_of f h) g now.core → IsTrueIn (env_of f h) (unchanged g x) → at x now.core ≡ at x h.entry.core
unlisted_same f h g now x value is = same_number (at x now.core) (at x h.entry.core) (ap (λ z. int_eq z (pos (at x h.entry.core))) (sym (value.locations x).is) ∙ is)

pub returns_keep_their_word : ReturnsKeepTheirWord
returns_keep_their_word image u f h now x s k fit =
    let value = k.execution.value (env_of f h) (own f h) in
    let all = goals_true image u f h now x end.Return s k in
    let posts = formulas_of entry_state x.state u.routine.post in
    let others = map (unchanged x.state) (unlisted u.routine) in
    record {
      post =
          All-from_recursion (λ n. Holds f (note_of n.note) h.entry now) u.routine.post
          (holding f (env_of f h) entry_state x.state h.entry now entry_symbolic k.execution.symbolic (entry_value f h (env_of f h) (own f h)) value u.routine.post
          (recursion_from_All (Fits (length x.state.slots)) u.routine.post fit) (all_first (IsTrueIn (env_of f h)) posts others all));
      unlisted = λ y free.
          unlisted_same f h x.state now y value
          (among_passing (λ z. not (has z u.routine.changes.locs)) (env_of f h) x.state y (ap not free) all_locs (every_loc y) (all_last (IsTrueIn (env_of f h)) posts others all));
    }

-- ---- Accesses

and_parts : (a b : Bool) → (a && b) ≡ true → (a ≡ true) × (b ≡ true)
and_parts true b h = (refl, h)
and_parts false b h = absurd cc

or_parts : (a b : Bool) → (a || b) ≡ true → (a ≡ true) ⊎ (b ≡ true)
or_parts true b h = inl refl
or_parts false b h = inr h

le_number : (a b : ℕ) → int_le (pos a) (pos b) ≡ true → a ≤ b
le_number a b h = grind (arith, ints, nat_tests)

module _ (e : Env) (t : Tree) (a : ℕ) (gives : Gives e t a) where
  within : (area : Area) → IsTrueIn e (in_area t area) → IsInArea a area
  within area h =
      let both = and_parts (int_le (pos area.addr) (int_of e t)) (int_le (int_of e t) (pos (area.addr + area.len - 1))) h in (
        le_number area.addr a (ap (int_le (pos area.addr)) (sym gives.is) ∙ both.0),
        le_number a (area.addr + area.len - 1) (ap (λ z. int_le z (pos (area.addr + area.len - 1))) (sym gives.is) ∙ both.1),
      )

  in_some : (area : Area) (areas : List Area) → IsTrueIn e (in_one t area areas) → (found : Area) × Contains (area ∷ areas) found × IsInArea a found
  in_some area [] h = (area, (0, omega arith, refl), within area h)
  in_some area (next ∷ areas) h =
      elim (or_parts (value_of (in_area t area)) (value_of (in_one t next areas)) h) [
        | inl first ↦ (area, (0, omega arith, refl), within area first)
        | inr below ↦
            let found = in_some next areas below in
            (found.0, (suc found.1.0, omega (arith, found.1.1), found.1.2), found.2)
      ]
    where
      value_of : Tree → Bool
      value_of p = (value e p).truth

  in_permitted : (areas : List Area) → IsTrueIn e (in_areas t areas) → (found : Area) × Contains areas found × IsInArea a found
  in_permitted [] h = absurd cc
  in_permitted (area ∷ areas) h = in_some area areas h

pub accesses_are_permitted : AccessesArePermitted
accesses_are_permitted image u f h now x s a k gives =
    in_permitted (env_of f h) (accessed s.instr x.state) a gives (listed_areas u.unit.areas (permitted u.routine s.instr)) (goals_true image u f h now x end.Access s k).0
