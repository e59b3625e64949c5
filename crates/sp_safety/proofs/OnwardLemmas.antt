-- One instruction that goes on: the run arrives at the next one along its walk.
use Rattle.std.proofs.Common.{◌≡◌, ◌⊎◌, inl, inr, ℕ, ◌+◌, ◌*◌, ◌%◌, ◌<◌, ◌≤◌, Bool, true, false, cond, List, [], ◌∷◌, ◌++◌, length, None, Some, slice_get, refl, sym, ap, subst, ◌∙◌, arith}
use Rattle.std.specs.Prelude.{All, slice_index, unwrap_or}
use Rattle.std.proofs.lemmas.List.Elements.{All-nil, All-cons, All-append}
use Rattle.sp_base.specs.declared.pair.Pair.TheVariants as pair
use Rattle.sp_isa.specs.Code.{code}
use Rattle.sp_isa.specs.Core.{Core, advance, with_pc}
use Rattle.sp_isa.specs.Outcome.{pc_after, sp_after}
use Rattle.sp_isa.specs.Stack.{holds}
use Rattle.sp_isa.specs.declared.instr.Instr.{Instr}
use Rattle.sp_isa.specs.declared.instr.Instr.TheVariants.{Call, Ccc, Rcc, Rst, Lxi, Push, Pop, In}
use Rattle.sp_isa.proofs.OutcomeLemmas.{instructions_lead}
use Rattle.sp_model.specs.State.{State, IsState, next_input, step}
use Rattle.sp_graph.specs.Control.{control_of}
use Rattle.sp_graph.specs.Routines.{callee_at}
use Rattle.sp_graph.specs.Structure.{is_push, loaded_pointer}
use Rattle.sp_graph.specs.Walks as walks
use Rattle.sp_graph.specs.declared.walk.Step.{Step}
use Rattle.sp_trans.specs.Meaning.{HasPointer, SetsPointer}
use Rattle.sp_trans.proofs.PointerLemmas.{pointers_stay, words_are, words_after}
use Rattle.sp_cond.specs.Calls.{called_by, place_at}
use Rattle.sp_cond.specs.Execution.{Execution, gone, gone_by, gone_on, stepped_by}
use Rattle.sp_cond.proofs.ExecutionLemmas.{more_steps}
use Rattle.sp_facts.specs.Executions.{IsChoice, IsExecutionOf, bytes_of}
use Rattle.sp_facts.specs.Histories.{History, with_bytes}
use Rattle.sp_facts.specs.Theorems.{IsHistory, MayPass}
use Rattle.sp_facts.proofs.PassLemmas.{passes_go_on}
use Rattle.sp_facts.proofs.StepLemmas.{steps_go_on}
use Rattle.sp_safety.specs.Calls.{On, Calls, Returns, way_of}
use Rattle.sp_safety.proofs.AskLemmas.{i, next_is, asks, pointer_is, push_room, top_word, place_is}
use Rattle.sp_safety.proofs.FactsLemmas.{Run, Facts, Walked, frame, setting, along}
use Rattle.sp_safety.proofs.FetchLemmas.{base_of_start}
use Rattle.sp_safety.proofs.KeptLemmas.{step_kept, now}
use Rattle.sp_safety.proofs.RuleLemmas as rule
use Rattle.sp_safety.proofs.SettleLemmas.{Arrived, depth_first}
use Rattle.sp_safety.proofs.WayLemmas as way
use Rattle.sp_safety.proofs.WayLemmas.{Onward, chosen, is_choice}

call_not : (b : Bool) → cond b Calls On ≡ On → b ≡ false
call_not true h = cc
call_not false h = refl

return_not : (b : Bool) → cond b Returns On ≡ On → b ≡ false
return_not true h = cc
return_not false h = refl

may_or_not : (i : Instr) → MayPass i ⊎ (MayPass i → ⊥)
may_or_not (Ccc c w) = inl tt
may_or_not (Rcc c) = inl tt
may_or_not i = inr (λ h. h)

untaken : (i : Instr) (core : Core) → MayPass i → way_of i core ≡ On → chosen i core ≡ false
untaken (Ccc c w) core may on = call_not (holds c core) on
untaken (Rcc c) core may on = return_not (holds c core) on
untaken i core may on = absurd may

no_address : (w : ℕ) (b : Bool) → b ≡ false → cond b (Some w) None ≡ None
no_address w true h = cc
no_address w false h = refl

-- an instruction that goes on calls nothing
calls_none : (i : Instr) (core : Core) → way_of i core ≡ On → called_by (control_of i) (chosen i core) ≡ None
calls_none (Call w) core on = cc
calls_none (Rst n) core on = cc
calls_none (Ccc c w) core on = no_address w (holds c core) (call_not (holds c core) on)
calls_none i core on = refl

sets_or_not : (i : Instr) → ((w : ℕ) × (i ≡ Lxi pair.Sp w)) ⊎ ¬ SetsPointer i
sets_or_not (Lxi pair.Sp w) = inl (w, refl)
sets_or_not (Lxi pair.B w) = inr (λ h. h)
sets_or_not (Lxi pair.D w) = inr (λ h. h)
sets_or_not (Lxi pair.H w) = inr (λ h. h)
sets_or_not i = inr (λ h. h)

passes_no_set : (i : Instr) → MayPass i → ¬ SetsPointer i
passes_no_set (Ccc c w) may = λ h. h
passes_no_set (Rcc c) may = λ h. h
passes_no_set i may = absurd may

passes_words : (i : Instr) (n : ℕ) → MayPass i → words_after i n ≡ n
passes_words (Ccc c w) n may = refl
passes_words (Rcc c) n may = refl
passes_words i n may = absurd may

advance_sp : (n : ℕ) (core : Core) → (advance n core).sp ≡ core.sp
unfolding advance with_pc
advance_sp n core = refl

shallow_after : (i : Instr) (n d : ℕ) → (is_push i ≡ true → 2 * n + 2 ≤ d) → 2 * n ≤ d → 2 * words_after i n ≤ d
shallow_after (Push p) n d push low = let fits = push refl in omega (arith, fits)
shallow_after (Pop p) n d push low = omega (arith, low)
shallow_after i n d push low = low

input_low : (s : State) → IsState s → next_input s < 256
input_low s h = by s.inputs h.inputs
  where
    by : (inputs : List ℕ) → All (λ byte. byte < 256) inputs → unwrap_or (slice_get inputs 0) 255 < 256
    by [] all = omega arith
    by (byte ∷ inputs) all = all 0 0 (omega arith)

bytes_low : (i : Instr) (s : State) → IsState s → All (λ byte. byte < 256) (bytes_of i s)
bytes_low (In port) s h = All-cons (λ byte. byte < 256) (next_input s) [] (input_low s h) (All-nil _)
bytes_low i s h = All-nil _

more_bytes : (i : Instr) (s : State) (h : History) → IsState s → IsHistory h → IsHistory (with_bytes (bytes_of i s) h)
more_bytes i s h state is = record {
  entry_is = is.entry_is;
  start_is = is.start_is;
  calls_are = is.calls_are;
  bytes = All-append (λ byte. byte < 256) h.taken (bytes_of i s) is.bytes (bytes_low i s state);
}

module _ (c : Run) (t : State) (h : Facts c t) where
  abbrev taken : Bool
  taken = chosen h.st.instr t.core

  -- the walk's step
  abbrev pub last : Step
  last = record { at = h.place; taken = chosen h.st.instr t.core }

  -- its execution, by the routine that it calls
  pub along_more : along c h.from (h.steps ++ last ∷ []) ≡ gone (setting c) h.st.instr taken (along c h.from h.steps)
  along_more = more_steps (setting c) h.from h.steps last ∙ ap (λ o. stepped_by (setting c) o taken (along c h.from h.steps)) h.walked.here

  module _ (on : way_of h.st.instr t.core ≡ On) where
    abbrev instr : Instr
    instr = h.st.instr

    abbrev after : Execution
    after = gone_on h.st.instr taken (along c h.from h.steps)

    along_on : along c h.from (h.steps ++ last ∷ []) ≡ after
    along_on = along_more ∙ ap (λ a. gone_by (setting c) instr taken (place_at c.p.routines a) (callee_at c.p.routines (place_at c.p.routines a)) (along c h.from h.steps)) (calls_none instr t.core on)

    there : Onward c.p c.r c.routine c.depths c.given h.place h.st h.walked.here taken (pc_after instr t.core)
    there = way.onward c.p c.r c.routine c.depths c.given h.place h.st h.walked.here t.core h.walked.next on

    sp_is : (step t).core.sp ≡ sp_after instr t.core
    sp_is = ap (λ (s : State). s.core.sp) (now c t h on) ∙ (instructions_lead (next_input t) instr t.core).sp

    set_pointer : (w : ℕ) → instr ≡ Lxi pair.Sp w → HasPointer (frame c) after.state (step t).core
    set_pointer w e =
        let first = rule.sets_only c.p c.r c.routine c.depths c.given h.place h.st h.walked.here w e in
        let loads = rule.loads_first c.p c.r c.routine c.depths c.given h.place h.st h.walked.here first.0 first.1 in
        let both : Some w ≡ Some (c.p.last + 1) = sym (ap loaded_pointer e) ∙ loads in
        let word : w ≡ c.p.last + 1 = cc in
        let sp : (step t).core.sp ≡ w % 65536 = sp_is ∙ ap (λ j. sp_after j t.core) e in
        let long : length after.state.slots ≡ length (along c h.from h.steps).state.slots = words_are instr ((along c h.from h.steps).inputs + 1) (along c h.from h.steps).state ∙ ap (λ j. words_after j (length (along c h.from h.steps).state.slots)) e in
        let flat : slice_index c.depths h.place ≡ 0 = ap (slice_index c.depths) first.1 ∙ depth_first c h.st (subst (λ k. slice_get c.routine.code k ≡ Some h.st) first.1 h.walked.here) in
        let words = h.walked.words in
        let starts = base_of_start c.p c.r c.routine c.depths c.given c.s c.entry first.0 in
        let region = (place_is c t h).region in
        omega (arith, word, sp, long, flat, words, starts, region)

    strict_pointer : (MayPass instr → ⊥) → HasPointer (frame c) after.state (step t).core
    strict_pointer strict =
        elim (sets_or_not instr) [
          | inl sets ↦ set_pointer sets.0 sets.1
          | inr none ↦ pointers_stay (frame c) (along c h.from h.steps).state t instr _ ((along c h.from h.steps).inputs + 1) h.walked.kept.state h.walked.kept.running (next_is c t h) (asks c t h on strict) none
        ]

    pass_pointer : MayPass instr → HasPointer (frame c) after.state (step t).core
    pass_pointer may =
        let passed = passes_go_on.passed t instr _ h.walked.kept.running (next_is c t h) may (subst (λ b. IsChoice instr b t.core) (untaken instr t.core may on) (is_choice instr t.core)) in
        let sp : (step t).core.sp ≡ t.core.sp = ap (λ (core : Core). core.sp) passed.core ∙ advance_sp (length (code instr)) t.core in
        let long : length after.state.slots ≡ length (along c h.from h.steps).state.slots = words_are instr ((along c h.from h.steps).inputs + 1) (along c h.from h.steps).state ∙ passes_words instr (length (along c h.from h.steps).state.slots) may in
        let points = pointer_is c t h (passes_no_set instr may) in
        omega (arith, sp, long, points)

    -- the execution goes on
    record Executed : Type 0 where
      history : History
      is : IsHistory history
      entry_is : history.entry ≡ c.s
      execution : IsExecutionOf c.p.image (frame c) history (step t) after
      pointer : HasPointer (frame c) after.state (step t).core

    executed : Executed
    executed =
        elim (may_or_not instr) [
          | inl may ↦
              let free = untaken instr t.core may on in
              record {
                history = h.h;
                is = h.walked.history;
                entry_is = h.walked.entry_is;
                execution = subst (λ b. IsExecutionOf c.p.image (frame c) h.h (step t) (gone_on instr b (along c h.from h.steps))) (sym free)
                    (passes_go_on.executed c.p.image (frame c) h.h t (along c h.from h.steps) instr _ h.walked.kept.state h.walked.kept.running (next_is c t h) may
                    (subst (λ b. IsChoice instr b t.core) free (is_choice instr t.core)) h.walked.execution);
                pointer = pass_pointer may;
              }
          | inr strict ↦
              record {
                history = with_bytes (bytes_of instr t) h.h;
                is = more_bytes instr t h.h h.walked.kept.state h.walked.history;
                entry_is = h.walked.entry_is;
                execution = steps_go_on c.p.image (frame c) h.h t (along c h.from h.steps) instr _ taken h.walked.kept.state h.walked.kept.running (next_is c t h) (asks c t h on strict) (is_choice instr t.core) h.walked.execution;
                pointer = strict_pointer strict;
              }
        ]

    pc_is : (step t).core.pc ≡ pc_after instr t.core
    pc_is = ap (λ (s : State). s.core.pc) (now c t h on) ∙ (instructions_lead (next_input t) instr t.core).pc

    walked_after : Walked c (step t) h.from there.to there.next executed.history after
    walked_after =
        let e = executed in
        let o = there in
        let n = length (along c h.from h.steps).state.slots in
        let long = words_are instr ((along c h.from h.steps).inputs + 1) (along c h.from h.steps).state in
        record {
          here = o.there;
          next = o.address ∙ sym pc_is;
          cut = h.walked.cut;
          kept = step_kept c t h on;
          entry_is = e.entry_is;
          history = e.is;
          words = ap (λ k. 2 * k) long ∙ rule.effect_words c.p c.r c.routine c.depths c.given h.place h.st h.walked.here instr (length (along c h.from h.steps).state.slots) (slice_index c.depths h.place) (slice_index c.depths o.to) h.walked.words
              (rule.depth_onward c.p c.r c.routine c.depths c.given h.place h.st h.walked.here taken o.to o.next o.leads o.there) (top_word c t h);
          shallow = let low = shallow_after instr (length (along c h.from h.steps).state.slots) c.routine.depth (push_room c t h) h.walked.shallow in omega (arith, low, long);
          pointer = λ none. e.pointer;
          execution = e.execution;
        }

    -- the run arrives at the next instruction
    pub arrived : Arrived c (step t)
    arrived =
        let o = there in
        record {
          from = h.from;
          steps = h.steps ++ last ∷ [];
          place = o.to;
          st = o.next;
          h = executed.history;
          walked = subst (Walked c (step t) h.from there.to there.next executed.history) (sym along_on) walked_after;
          plain = λ free. walks.onward h.steps last o.to h.inside o.leads free;
          ending = λ asserted. walks.to_assertion h.steps last o.to h.inside o.leads asserted;
        }
