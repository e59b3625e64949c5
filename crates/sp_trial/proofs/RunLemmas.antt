-- The code's loop comes to the states of the run.
use Rattle.std.proofs.Common.{◌≡◌, ◌∙◌, sym, ap, ap₂, subst, refl, inl, inr, ℕ, ◌+◌, ◌<◌, ◌≤◌, arith, add-one, below_more, List, [], ◌∷◌, length, get_or, Some, Bool, true, false, cond, Result, Ok, Err}
use Rattle.std.specs.Prelude.{All, nat_eq, slice_get, unwrap_or}
use Rattle.std.specs.List.{AllByRecursion}
use Rattle.std.proofs.lemmas.List.Elements.{All-nil, recursion_from_All}
use Rattle.std.proofs.lemmas.List.{get_or_default}
use Rattle.std.proofs.lemmas.Option.{slice_get_read}
use Rattle.sp_base.specs.Image.{ImageMap}
use Rattle.sp_isa.specs.Core.{Core, IsCore}
use Rattle.sp_machine.specs.declared.event.Event.{Event}
use Rattle.sp_machine.specs.Event.{event}
use Rattle.sp_machine.specs.Ports.{inputs_after}
use Rattle.sp_machine.proofs.PortLemmas.{step_told}
use Rattle.sp_model.specs.State.{State, next_input, step, run}
use Rattle.sp_prog.specs.declared.routine.Noted.{Noted}
use Rattle.sp_prog.specs.declared.routine.Stmt.{Stmt}
use Rattle.sp_prog.specs.Rules.{IsEvaluable, IsStmt}
use Rattle.sp_prog.specs.declared.routine.Routine.{Routine}
use Rattle.sp_prog.specs.Program.{Program}
use Rattle.sp_trial.specs.declared.outcome.Outcome.TheVariants.{NoEntry, Running}
use Rattle.sp_trial.specs.declared.outcome.Trial.{Trial}
use Rattle.sp_trial.specs.declared.outcome.TrialRefusal.{TrialRefusal}
use Rattle.sp_trial.specs.declared.outcome.TrialRefusal.TheVariants as refusal
use Rattle.sp_trial.specs.declared.plan.Plan.{Plan}
use Rattle.sp_trial.specs.Judged.{Evaluation, AreTrueIn}
use Rattle.sp_trial.specs.Setup.{Setup, setup, at, asserted, asserted_at}
use Rattle.sp_trial.specs.Trials.{Answer, Ended, Long, StepsOn, ComesTo, broken, Judges, AnswersNext, AnswersRun, Answers, MayEnter, GivesOne}
use Rattle.sp_trial.specs.code.Courses.{setup_of, IsPlan, evaluation, AnswersEntered, IsLast, StepsTo}
use Rattle.sp_trial.specs.code.Entering.{Begins}
use Rattle.sp_trial.proofs.TurnLemmas.{evaluation_is}

-- ---- What is asserted can be evaluated

module _ (image : ImageMap) (a : ℕ) where
  by_address : (s : Stmt) (stmts : List Stmt) (here : Bool) → IsStmt image s → All IsEvaluable (asserted_at stmts a)
      → All IsEvaluable (cond here s.asserts (asserted_at stmts a))
  by_address s stmts true h rest = h.asserts.each
  by_address s stmts false h rest = rest

  evaluable : (stmts : List Stmt) → AllByRecursion (IsStmt image) stmts → All IsEvaluable (asserted_at stmts a)
  evaluable [] h = All-nil IsEvaluable
  evaluable (s ∷ stmts) h = by_address s stmts (nat_eq s.addr a) h.0 (evaluable stmts h.1)

  pub asserted_evaluable : (stmts : List Stmt) → All (IsStmt image) stmts → All IsEvaluable (asserted_at stmts a)
  asserted_evaluable stmts h = evaluable stmts (recursion_from_All (IsStmt image) stmts h)

-- ---- The loop

-- the machine has come to the state of the run after so many steps, and went on from each one before
pub record Follows (y : Setup) (steps : ℕ) (core : Core) (inputs : List ℕ) : Type 0 where
  pub there : core ≡ (run y.start steps).core
  pub rest : inputs ≡ (run y.start steps).inputs
  pub asserts : (k : ℕ) → k < steps → AreTrueIn (at y (run y.start k)) (asserted y (run y.start k))
  pub on : (k : ℕ) → k < steps → StepsOn y (run y.start k)

pub begins : (y : Setup) → Follows y 0 y.start.core y.start.inputs
begins y = record { there = refl; rest = refl; asserts = λ k lt. absurd (omega arith); on = λ k lt. absurd (omega arith) }

module _ (y : Setup) (steps : ℕ) (core : Core) (inputs : List ℕ) (h : Follows y steps core inputs) where
  pub same_input : (input : ℕ) → input ≡ unwrap_or (slice_get inputs 0) 255 → next_input (run y.start steps) ≡ input
  same_input input e = ap (λ xs. unwrap_or (slice_get xs 0) 255) (sym h.rest) ∙ sym e

  pub goes_on : (new : Core) (happened : Event) (left : List ℕ) → AreTrueIn (at y (run y.start steps)) (asserted y (run y.start steps))
      → StepsTo y (run y.start steps) new → happened ≡ event core → left ≡ inputs_after happened inputs → Follows y (steps + 1) new left
  goes_on new happened left all on e was =
      let t = run y.start steps in
      let next : run y.start (steps + 1) ≡ step t = ap (run y.start) (add-one steps) in
      record {
        there = on.1 ∙ ap (λ (s : State). s.core) (sym next);
        rest = was ∙ ap₂ inputs_after (e ∙ ap event h.there) h.rest ∙ sym (ap (λ (s : State). s.inputs) (next ∙ step_told t));
        asserts = below_more (λ k. AreTrueIn (at y (run y.start k)) (asserted y (run y.start k))) steps h.asserts all;
        on = below_more (λ k. StepsOn y (run y.start k)) steps h.on on.0;
      }

  pub comes : (n : ℕ) → steps ≤ n → ComesTo y n steps
  comes n le = record { within = le; asserts = h.asserts; steps = h.on }

-- ---- The end

pub wider_gives : (budget : ℕ) (Right Wide : Answer → Type 0) → ((a : Answer) → Right a → Wide a) → (result : Result Trial TrialRefusal) → GivesOne budget Right result → GivesOne budget Wide result
wider_gives budget Right Wide g (Ok t) x = g (Ended t.outcome t.steps) x
wider_gives budget Right Wide g (Err (refusal.TooLong nodes)) x = (g Long x.0, x.1)
wider_gives budget Right Wide g (Err refusal.Memory) x = x

module _ (e : Evaluation) (notes : List Noted) (i : ℕ) (Right Wide : Answer → Type 0) (g : (a : Answer) → Right a → Wide a) where
  wider_judged : (a : Answer) → Judges e notes (broken i) Right a → Judges e notes (broken i) Wide a
  wider_judged a (inl x) = inl x
  wider_judged a (inr (inl x)) = inr (inl x)
  wider_judged a (inr (inr x)) = inr (inr (x.0, g a x.1))

pub last_is : (plan : Plan) (h : IsPlan plan) (inputs left : List ℕ) (n steps : ℕ) (core : Core) → Follows (setup_of plan inputs) steps core left → steps ≡ n
    → (a : Answer) → IsLast plan core n a → AnswersRun (setup_of plan inputs) n a
last_is plan h inputs left n steps core f same a x =
    let y = setup_of plan inputs in
    let t = run y.start steps in
    let told : Judges (at y t) (asserted y t) (broken n) (λ b. b ≡ Ended Running n) a =
    subst (λ (e : Evaluation). Judges e (asserted y t) (broken n) (λ b. b ≡ Ended Running n) a) (evaluation_is plan h inputs t core (sym f.there))
    (subst (λ (k : Core). Judges (evaluation plan core) (asserted_at plan.routine.now.code k.pc) (broken n) (λ b. b ≡ Ended Running n) a) f.there x) in
    let here : Judges (at y t) (asserted y t) (broken steps) (λ b. b ≡ Ended Running steps) a =
    subst (λ k. Judges (at y t) (asserted y t) (broken k) (λ b. b ≡ Ended Running k) a) (sym same) told in
    (steps, comes y steps core left f n (omega (arith, same)), wider_judged (at y t) (asserted y t) steps (λ b. b ≡ Ended Running steps) (AnswersNext y n steps t) (λ b e. inl (same, e)) a here)

-- ---- The entry

pub entered : (plan : Plan) (h : IsPlan plan) (inputs : List ℕ) (n : ℕ) → MayEnter (setup_of plan inputs) → (a : Answer) → AnswersEntered plan inputs n a → Answers (setup_of plan inputs) n a
entered plan h inputs n may a x =
    let y = setup_of plan inputs in
    inr (may, subst (λ (e : Evaluation). Judges e plan.routine.now.pre (λ line. Ended NoEntry 0) (AnswersRun y n) a) (evaluation_is plan h inputs y.start plan.entry.now refl) x)

module _ (p : Program) (r : Routine) (core : Core) (inputs : List ℕ) (budget : ℕ) where
  pub may_enter : IsCore core → All (λ byte. byte < 256) inputs → Begins p r core → MayEnter (setup p r core inputs budget)
  may_enter is_core bytes b = record {
    state = record { core = is_core; inputs = bytes; outputs = All-nil (λ (o : ℕ × ℕ). (o.0 < 256) × (o.1 < 256)) };
    loaded = b.loaded;
    begins = b.begins;
    running = b.running;
    pre = All-nil _;
    room = λ s. let room = b.room s in record { below = room.below; above = room.above };
  }

  pub begins_there : MayEnter (setup p r core inputs budget) → Begins p r core
  begins_there e = record {
    loaded = e.loaded;
    begins = e.begins;
    running = e.running;
    room = λ s. let room = e.room s in record { below = room.below; above = room.above };
  }

some_is : {A : Type 0} (x y : A) → Some x ≡ Some y → x ≡ y
some_is x y e = cc

-- the routine that was chosen is the one at the place
pub chosen_is : (routines : List Routine) (place : ℕ) (chosen r : Routine) → place < length routines → chosen ≡ get_or routines place chosen → slice_get routines place ≡ Some r → chosen ≡ r
chosen_is routines place chosen r low is among = some_is chosen r (sym (slice_get_read routines (length routines) place chosen refl low is) ∙ among)

pub all_bytes : (xs : List ℕ) → ((i : ℕ) → get_or xs i 0 < 256) → All (λ byte. byte < 256) xs
all_bytes xs h i d lt = let same = get_or_default xs i d 0 lt in let low = h i in omega (arith, same, low)
