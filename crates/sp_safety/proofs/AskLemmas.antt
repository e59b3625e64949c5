-- What translation asks of an instruction of a routine's own code.
use Rattle.std.proofs.Common.{◌≡◌, inl, inr, ℕ, ◌+◌, ◌*◌, ◌%◌, ◌≤◌, true, [], ◌∷◌, length, Some, refl, sym, subst, arith}
use Rattle.std.specs.Prelude.{All, Contains}
use Rattle.std.proofs.lemmas.List.Elements.{All-nil, All-cons}
use Rattle.sp_base.specs.declared.pair.Pair.TheVariants as pair
use Rattle.sp_isa.specs.Code.{code}
use Rattle.sp_isa.specs.Core.{Core}
use Rattle.sp_isa.specs.declared.instr.Instr.{Instr}
use Rattle.sp_isa.specs.declared.instr.Instr.TheVariants.{Lxi, Push, Pop, Xthl}
use Rattle.sp_model.specs.Good.{InAllotment, base}
use Rattle.sp_model.specs.State.{State, next_instr}
use Rattle.sp_prog.specs.Rules.{IsStmt}
use Rattle.sp_graph.specs.Control.{accesses}
use Rattle.sp_graph.specs.Structure.{takes_word, is_push, IsAt}
use Rattle.sp_graph.specs.declared.graph.End.TheVariants as end
use Rattle.sp_flow.specs.declared.refusal.FlowKind.TheVariants as kind
use Rattle.sp_flow.specs.declared.refusal.Spot.TheVariants as spot
use Rattle.sp_flow.specs.Flow.{IsListed, cells_read, cells_written}
use Rattle.sp_trans.specs.Meaning.{Asks, HasPointer, IsInStack, IsPush, IsValueOf, SetsPointer, addressed, words_taken}
use Rattle.sp_cond.specs.Conclusions.{permitted}
use Rattle.sp_cond.specs.Execution.{Execution}
use Rattle.sp_facts.specs.Histories.{env_of}
use Rattle.sp_facts.specs.Theorems.{MayPass}
use Rattle.sp_facts.proofs.EndLemmas.{accesses_are_permitted}
use Rattle.sp_facts.proofs.EnvironmentLemmas as environment
use Rattle.sp_safety.specs.Calls.{On, way_of}
use Rattle.sp_safety.proofs.AccessLemmas.{accessed_at, accessed_gives, all_addressed, touched}
use Rattle.sp_safety.proofs.AreaLemmas.{LiesIn, lies_in, lies_apart, listed_apart, stable_listed}
use Rattle.sp_safety.proofs.FactsLemmas.{Run, Facts, unit, model, frame, setting, along, at_end, access_walk}
use Rattle.sp_safety.proofs.FetchLemmas.{HasPlace, room, fetched}
use Rattle.sp_safety.proofs.GivenLemmas.{is_at, stmt_rules}
use Rattle.sp_safety.proofs.RuleLemmas.{form, loads_first, sets, some_word, room_for_push}

push_cases : (i : Instr) → IsPush i → (is_push i ≡ true) × ¬ SetsPointer i
push_cases (Push p) h = (refl, (λ none. none))
push_cases i h = absurd h

words_by : (i : Instr) (n : ℕ) → (takes_word i ≡ true → 1 ≤ n) → words_taken i ≤ n
words_by (Pop p) n h = h refl
words_by Xthl n h = h refl
words_by i n h = omega arith

touched_by : (Q : ℕ → Type 0) (i : Instr) (core : Core) → (is_push i ≡ true → Q ((core.sp + 65535) % 65536) × Q ((core.sp + 65534) % 65536)) → (takes_word i ≡ true → Q (core.sp % 65536) × Q ((core.sp + 1) % 65536)) → All Q (touched i core)
touched_by Q (Push p) core push top = let both = push refl in All-cons Q _ ((core.sp + 65534) % 65536 ∷ []) both.0 (All-cons Q _ [] both.1 (All-nil Q))
touched_by Q Xthl core push top = let both = top refl in All-cons Q _ ((core.sp + 1) % 65536 ∷ []) both.0 (All-cons Q _ [] both.1 (All-nil Q))
touched_by Q i core push top = All-nil Q

no_set_push : (i : Instr) → is_push i ≡ true → ¬ SetsPointer i
no_set_push (Push p) h = λ none. none
no_set_push i h = cc

no_set_taken : (i : Instr) → takes_word i ≡ true → ¬ SetsPointer i
no_set_taken (Pop p) h = λ none. none
no_set_taken Xthl h = λ none. none
no_set_taken i h = cc

sets_it : (i : Instr) (w : ℕ) → i ≡ Lxi pair.Sp w → SetsPointer i
sets_it i w e = subst SetsPointer (sym e) tt

module _ (c : Run) (t : State) (h : Facts c t) where
  abbrev pub i : Instr
  i = h.st.instr

  abbrev pub x : Execution
  x = along c h.from h.steps

  pub here_at : IsAt c.p c.r h.place c.routine h.st
  here_at = is_at c.p c.r c.routine c.depths c.given h.place h.st h.walked.here

  pub stmt_is : IsStmt c.p.image h.st
  stmt_is = stmt_rules c.p c.r c.routine c.depths c.given h.place h.st h.walked.here

  pub value : IsValueOf (frame c) (env_of (frame c) h.h) x.state t.core
  value = h.walked.execution.value (env_of (frame c) h.h) (environment.own (frame c) h.h)

  pub next_is : next_instr t.core ≡ Some (i, length (code i))
  next_is = fetched c.p c.r c.routine c.depths c.given c.s c.entry t h.walked.kept.keeps h.place h.st h.walked.here h.walked.next

  pub place_is : HasPlace c.p c.routine.depth (base (unit c) (model c) c.s) c.routine.start
  place_is = room c.p c.r c.routine c.depths c.given c.s c.entry

  -- ---- cells

  pub accessed_in : accesses i ≡ true → LiesIn c.p.areas (accessed_at i t.core) (permitted c.routine i)
  accessed_in is =
      let a = accesses_are_permitted c.p.image (setting c) (frame c) h.h t x h.st (accessed_at i t.core)
      (at_end c t h.from h.steps h.place h.st h.h h.walked end.Access (access_walk c h.from h.steps h.place h.st h.walked.here h.inside is) tt)
      (accessed_gives (frame c) (env_of (frame c) h.h) x.state t.core value i stmt_is.valid) in
      lies_in c.p c.given.unit (permitted c.routine i) (accessed_at i t.core) a.0 a.1 a.2

  read_apart : (w : ℕ) → Contains (cells_read i) w → ¬ IsInStack (frame c) w
  read_apart w there inside =
      c.given.flow h.st.line.0 (kind.Uses (spot.Cell w)) (
        c.r,
        h.place,
        c.routine,
        h.st,
        here_at,
        refl,
        (
          there,
          (λ may. elim may [
            | inl l ↦ (listed_apart c.p c.given.unit c.routine.reads w l).1 inside
            | inr l ↦ (listed_apart c.p c.given.unit c.routine.changes w l).1 inside
          ]),
        ),
      )

  pub written_in : (w : ℕ) → Contains (cells_written i) w → IsListed c.p c.routine.changes w
  written_in w there =
      stable_listed c.p c.routine.changes w (λ other. c.given.flow h.st.line.0 (kind.Writes w) (c.r, h.place, c.routine, h.st, here_at, refl, (inl there, other)))

  cells_apart : All (λ a. ¬ IsInStack (frame c) a) (addressed i t.core)
  cells_apart =
      all_addressed (λ a. ¬ IsInStack (frame c) a) t.core i (λ is. (lies_apart c.p c.given.unit (permitted c.routine i) (accessed_at i t.core) (accessed_in is)).1) read_apart
      (λ w there. (listed_apart c.p c.given.unit c.routine.changes w (written_in w there)).1)

  -- ---- the stack

  pub pointer_is : ¬ SetsPointer i → HasPointer (frame c) x.state t.core
  pointer_is none =
      h.walked.pointer (λ starts first. none (sets_it i (c.p.last + 1) (sets c.p c.r c.routine c.depths c.given h.place h.st h.walked.here i (c.p.last + 1) (loads_first c.p c.r c.routine c.depths c.given h.place h.st h.walked.here starts first))))

  pub push_room : is_push i ≡ true → 2 * length x.state.slots + 2 ≤ c.routine.depth
  push_room is = room_for_push c.p c.r c.routine c.depths c.given h.place h.st h.walked.here (length x.state.slots) h.walked.words is

  pub top_word : takes_word i ≡ true → 1 ≤ length x.state.slots
  top_word is = some_word c.p c.r c.routine c.depths c.given h.place h.st h.walked.here (length x.state.slots) h.walked.words is

  -- the cells of the stack that it writes are in the routine's allotment
  pub touched_allotted : All (InAllotment (unit c) (model c) c.s) (touched i t.core)
  touched_allotted =
      let below = place_is.below in
      let above = place_is.above in
      let region = place_is.region in
      let shallow = h.walked.shallow in
      touched_by (InAllotment (unit c) (model c) c.s) i t.core
      (λ is. let fits = push_room is in let points = pointer_is (no_set_push i is) in ((omega arith, omega arith), (omega arith, omega arith)))
      (λ is. let some = top_word is in let points = pointer_is (no_set_taken i is) in ((omega arith, omega arith), (omega arith, omega arith)))

  -- what is asked
  pub asks : way_of i t.core ≡ On → (MayPass i → ⊥) → Asks (frame c) i x.state t.core
  asks on strict =
      let below = place_is.below in
      let above = place_is.above in
      let region = place_is.region in
      let shallow = h.walked.shallow in
      record {
        form = form c.p c.r c.routine c.depths c.given h.place h.st h.walked.here t.core i refl on strict;
        region = omega arith;
        places = λ k some most. (omega arith, omega arith);
        pointer = pointer_is;
        room = λ is. let push = push_cases i is in let fits = push_room push.0 in let points = pointer_is push.1 in (omega arith, omega arith);
        words = words_by i (length x.state.slots) top_word;
        cells = cells_apart;
      }
