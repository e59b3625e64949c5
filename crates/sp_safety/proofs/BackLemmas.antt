-- After a call's return the run goes on in the caller's code.
use Rattle.std.proofs.Common.{◌≡◌, inl, ℕ, ◌+◌, ◌*◌, ◌-◌, ◌/◌, ◌%◌, ◌<◌, ◌≤◌, ℤ, pos, Bool, true, false, ◌||◌, List, [], ◌∷◌, ◌++◌, map, length, Some, refl, sym, ap, subst, ◌∙◌, arith}
use Rattle.std.specs.Prelude.{All, Contains, slice_index, ◌+ℤ◌}
use Rattle.std.proofs.lemmas.Int.{ints}
use Rattle.std.proofs.lemmas.List.Elements.{All-nil, All-weaker, All-contains, All-contains_itself, All-push}
use Rattle.sp_base.specs.declared.location.Loc.{Loc}
use Rattle.sp_base.specs.Locs.{has}
use Rattle.sp_isa.specs.Code.{code}
use Rattle.sp_isa.specs.Core.{at}
use Rattle.sp_isa.specs.Outcome.{next_address}
use Rattle.sp_isa.specs.declared.instr.Instr.{Instr}
use Rattle.sp_isa.proofs.UndoLemmas.{pushed, top_word, word_pushed}
use Rattle.sp_logic.specs.View.{note_of}
use Rattle.sp_model.specs.Good.{IsEntry, HasReturned, InAllotment, Keeps, base, frame_of}
use Rattle.sp_model.specs.Note.{Holds, shown, stack_address}
use Rattle.sp_model.specs.State.{State, IsState, step}
use Rattle.sp_model.specs.Unit as runs
use Rattle.sp_prog.specs.Rules.{note_has_word}
use Rattle.sp_prog.specs.View.{listed_areas}
use Rattle.sp_prog.specs.declared.routine.Noted.{Noted}
use Rattle.sp_prog.specs.declared.routine.Routine.{Routine}
use Rattle.sp_prog.specs.declared.routine.Stmt.{Stmt}
use Rattle.sp_prog.proofs.UnitLemmas.{has_code, lists_have_their_locations}
use Rattle.sp_graph.specs.Routines.{callee_at}
use Rattle.sp_graph.specs.Walks as walks
use Rattle.sp_term.specs.Admissible.{IsOutside}
use Rattle.sp_cond.specs.Calls.{callee_of, place_at}
use Rattle.sp_cond.specs.Execution.{Execution, called, gone_by, span}
use Rattle.sp_cond.specs.Start.{callee_sets, callee_stores, has_some, has_store, is_set, is_store}
use Rattle.sp_isa.specs.Locations.{writes}
use Rattle.sp_facts.specs.Histories.{with_call}
use Rattle.sp_facts.specs.Theorems.{HasLeft, IsTrueBetween}
use Rattle.sp_facts.proofs.CallLemmas.{calls_go_on}
use Rattle.sp_safety.specs.Calls.{Calls, way_of}
use Rattle.sp_safety.proofs.AreaLemmas.{listed_apart, of_model}
use Rattle.sp_safety.proofs.AskLemmas.{place_is}
use Rattle.sp_safety.proofs.EnterLemmas as enter
use Rattle.sp_safety.proofs.FactsLemmas.{Run, Facts, Kept, Walked, unit, model, frame, setting, along}
use Rattle.sp_safety.proofs.FetchLemmas.{image_apart}
use Rattle.sp_safety.proofs.FitLemmas.{fit_wordless}
use Rattle.sp_safety.proofs.KeptLemmas.{any_false}
use Rattle.sp_safety.proofs.NoteLemmas.{Alike, seen}
use Rattle.sp_safety.proofs.OnwardLemmas.{last, along_more}
use Rattle.sp_safety.proofs.OutsideLemmas.{outside_same}
use Rattle.sp_safety.proofs.PhaseLemmas.{keeps_through}
use Rattle.sp_safety.proofs.RuleLemmas.{depth_onward}
use Rattle.sp_safety.proofs.SettleLemmas.{Arrived, all_mapped, holds_closed}
use Rattle.sp_safety.proofs.WayLemmas as way
use Rattle.sp_safety.proofs.WayLemmas.{Onward, chosen}

second_false : (a b : Bool) → (a || b) ≡ false → b ≡ false
second_false false b h = h
second_false true b h = absurd cc

no_areas : (places : List ℕ) → has_some places ≡ false → places ≡ []
no_areas [] h = refl
no_areas (p ∷ places) h = cc

whole : (n : ℕ) → n % 256 + 256 * (n / 256) ≡ n
whole n = omega arith

level_on : (e d : ℕ) → pos e ≡ pos d +ℤ pos 0 → e ≡ d
level_on e d h = grind (arith, ints)

module _ (c : Run) (t : State) (h : Facts c t) (call : way_of h.st.instr t.core ≡ Calls) where
  abbrev instr : Instr
  instr = h.st.instr

  abbrev taken : Bool
  taken = chosen h.st.instr t.core

  abbrev words : ℕ
  words = length (along c h.from h.steps).state.slots

  abbrev callee : Routine
  callee = (enter.callee_is c t h call).callee

  abbrev target : runs.Routine
  target = enter.target c t h call

  some_code : (i : runs.Stmt) → 0 < length (code i.instr)
  some_code i = omega arith

  -- a routine that is entered after the call is the callee
  pub same_target : (q : runs.Routine) → Contains (unit c).routines q → IsEntry (unit c) q (step t) → q ≡ target
  same_target q there entry =
      let codes = has_code c.p c.given.unit in
      let i = codes.begins q there in
      let j = codes.begins target (enter.target_member c t h call) in
      let one = i.2 in
      let two = j.2 in
      let a = entry.begins in
      let b = (enter.entered c t h call).begins in
      (codes.one q target i.0 j.0 (there, i.1) (enter.target_member c t h call, j.1) 0 0 (some_code i.0) (some_code j.0) (omega (arith, one, two, a, b))).0

  module _ (b : State) (state : IsState b) (running : b.core.halted ≡ false) (returned : HasReturned (unit c) target (step t) b) where
    keeps : Keeps (unit c) (model c) c.s b
    keeps = keeps_through (unit c) (model c) target c.s (step t) b (enter.enters c t h call) returned.keeps

    in_stack : (a : ℕ) → InAllotment (unit c) target (step t) a → (c.p.first ≤ a) × (a ≤ c.p.last)
    in_stack a inside =
        let low = inside.0 in
        let high = inside.1 in
        let same = enter.target_base c t h call in
        let sp = enter.sp_is c t h call in
        let points = enter.pointer c t h call in
        let fits = enter.depth_fits c t h call in
        let below = (place_is c t h).below in
        let above = (place_is c t h).above in
        (omega (arith, high, same, sp, points, fits, below), omega (arith, low, same, sp, points, above))

    outside : (z : ℤ) → IsOutside z (map span (listed_areas c.p.areas callee.changes.areas)) → shown (frame c) b.core.cells z ≡ shown (frame c) t.core.cells z
    outside z out =
        outside_same c.p callee (frame c) refl refl (step t) b returned.keeps in_stack (enter.entered c t h call).state.core.memory state.core.memory z out
        ∙ enter.shown_same c t h call z

    -- cells of the stack from the stack pointer on stay
    stack_cell : (a : ℕ) → c.p.first ≤ a → a ≤ c.p.last → t.core.sp ≤ a → slice_index b.core.cells (a % 65536) ≡ slice_index t.core.cells (a % 65536)
    stack_cell a above below over =
        let region = (place_is c t h).region in
        let same = enter.target_base c t h call in
        let sp = enter.sp_is c t h call in
        let low : a < 65536 = omega (arith, below, region) in
        returned.keeps.memory a low
        (λ area there within. (listed_apart c.p c.given.unit callee.changes a (of_model c.p callee.changes a area there within)).1 (above, below))
        (λ inside. let under = inside.0 in omega (arith, under, same, sp, over))
        ∙ enter.cell_same c t h call a low (inl over)

    word_kept : (k : ℕ) → 1 ≤ k → k ≤ words → (slice_index b.core.cells (stack_address (frame c) k % 65536) ≡ slice_index t.core.cells (stack_address (frame c) k % 65536))
        × (slice_index b.core.cells ((stack_address (frame c) k + 1) % 65536) ≡ slice_index t.core.cells ((stack_address (frame c) k + 1) % 65536))
    word_kept k some most =
        let points = enter.pointer c t h call in
        let shallow = h.walked.shallow in
        let below = (place_is c t h).below in
        let above = (place_is c t h).above in
        let region = (place_is c t h).region in
        let one : ((frame c).base - 2 * k) % 65536 ≡ stack_address (frame c) k % 65536 = omega arith in
        let two : ((frame c).base - 2 * k + 1) % 65536 ≡ (stack_address (frame c) k + 1) % 65536 = omega arith in (
          subst (λ j. slice_index b.core.cells j ≡ slice_index t.core.cells j) one (stack_cell ((frame c).base - 2 * k) (omega arith) (omega arith) (omega arith)),
          subst (λ j. slice_index b.core.cells j ≡ slice_index t.core.cells j) two (stack_cell ((frame c).base - 2 * k + 1) (omega arith) (omega arith) (omega arith)),
        )

    unlisted : (x : Loc) → has x callee.changes.locs ≡ false → at x b.core ≡ at x t.core
    unlisted x free =
        returned.unlisted x (λ there. let listed = (lists_have_their_locations callee.changes.locs x).0 there in let clash : true ≡ false = sym listed ∙ free in absurd cc)
        ∙ enter.at_same c t h call x

    left : HasLeft c.p.image (setting c) (frame c) callee words t b
    left = record { unlisted = unlisted; image_is = image_apart c.p c.r c.routine c.depths c.given c.s c.entry b keeps; outside = outside; kept = word_kept }

    -- the callee's postconditions, in the caller's words
    post : All (IsTrueBetween (frame c) words t b) callee.post
    post =
        let own = enter.callee_rules c t h call in
        let alike = enter.alike_after c t h call in
        let inner = frame_of (unit c) target (step t) in
        let before : Alike (frame_of (unit c) target (step t)) (frame c) (step t).core t.core = record { locations = λ x. sym (alike.locations x); memory = sym alike.memory } in
        let after : Alike (frame_of (unit c) target (step t)) (frame c) b.core b.core = record { locations = λ x. refl; memory = enter.shown_rebased (frame_of (unit c) target (step t)) (frame c) b.core.cells refl refl } in
        let holds = all_mapped (λ note. Holds (frame_of (unit c) target (step t)) note (step t) b) (λ (n : Noted). note_of n.note) callee.post returned.post in
        holds_closed (frame c) words t b callee.post (fit_wordless words callee.post own.post own.post_words)
        (All-weaker (Contains callee.post) (λ (n : Noted). Holds (frame c) (note_of n.note) t b)
        (λ n there.
        seen (frame_of (unit c) target (step t)) (frame c) (step t).core b.core t.core b.core before after (note_of n.note)
        (inl (All-contains (λ (m : Noted). note_has_word (note_of m.note) ≡ false) callee.post n own.post_words there))
        (All-contains (λ (m : Noted). Holds (frame_of (unit c) target (step t)) (note_of m.note) (step t) b) callee.post n holds there))
        callee.post (All-contains_itself callee.post))

    abbrev after_it : Execution
    after_it = called (setting c) instr taken (enter.callee_is c t h call).k callee (along c h.from h.steps)

    along_call : along c h.from (h.steps ++ last c t h ∷ []) ≡ after_it
    along_call =
        along_more c t h
        ∙ ap (λ a. gone_by (setting c) instr taken (place_at c.p.routines a) (callee_at c.p.routines (place_at c.p.routines a)) (along c h.from h.steps)) (enter.does c t h call).by
        ∙ ap (λ o. gone_by (setting c) instr taken o (callee_at c.p.routines o) (along c h.from h.steps)) (enter.callee_is c t h call).place_is
        ∙ ap (λ o. gone_by (setting c) instr taken (Some (enter.callee_is c t h call).k) o (along c h.from h.steps)) (enter.callee_is c t h call).there

    unset : (x : Loc) → is_set (setting c) x ≡ false → at x b.core ≡ at x c.s.core
    unset x free =
        let none = any_false (λ (s : Stmt). has x (writes s.instr) || callee_sets x (callee_of c.p.routines s.instr)) c.routine.code h.place h.st h.walked.here free in
        let quiet : callee_sets x (callee_of c.p.routines instr) ≡ false = second_false (has x (writes instr)) (callee_sets x (callee_of c.p.routines instr)) none in
        unlisted x (sym (ap (callee_sets x) (enter.callee_known c t h call)) ∙ quiet) ∙ h.walked.kept.unset x free

    unstored : has_store (setting c) ≡ false → (z : ℤ) → shown (frame c) b.core.cells z ≡ shown (frame c) c.s.core.cells z
    unstored free z =
        let none = any_false (λ (s : Stmt). is_store s.instr || callee_stores (callee_of c.p.routines s.instr)) c.routine.code h.place h.st h.walked.here free in
        let quiet : callee_stores (callee_of c.p.routines instr) ≡ false = second_false (is_store instr) (callee_stores (callee_of c.p.routines instr)) none in
        let empty = no_areas callee.changes.areas (sym (ap callee_stores (enter.callee_known c t h call)) ∙ quiet) in
        outside z (subst (λ l. IsOutside z (map span (listed_areas c.p.areas l))) (sym empty) (All-nil _)) ∙ h.walked.kept.unstored free z

    kept : Kept c b
    kept = record { state = state; running = running; keeps = keeps; unset = unset; unstored = unstored }

    there : Onward c.p c.r c.routine c.depths c.given h.place h.st h.walked.here taken (next_address instr t.core)
    there = way.after_call c.p c.r c.routine c.depths c.given h.place h.st h.walked.here t.core h.walked.next call

    pc_is : b.core.pc ≡ next_address instr t.core
    pc_is =
        let sp = enter.sp_is c t h call in
        let small = h.walked.kept.state.core.sp in
        let same = enter.target_base c t h call in
        let down : base (unit c) target (step t) ≡ (t.core.sp + 65534) % 65536 = omega (arith, sp, small, same) in
        returned.pc
        ∙ ap (λ cells. top_word cells (base (unit c) target (step t))) (enter.cells_are c t h call)
        ∙ ap (top_word (pushed (next_address instr t.core / 256) (next_address instr t.core % 256) t.core)) down
        ∙ word_pushed (next_address instr t.core / 256) (next_address instr t.core % 256) t.core h.walked.kept.state.core
        ∙ whole (next_address instr t.core)

    walked : Walked c b h.from there.to there.next (with_call b h.h) after_it
    walked =
        let o = there in
        let depth_on = depth_onward c.p c.r c.routine c.depths c.given h.place h.st h.walked.here taken o.to o.next o.leads o.there in
        let flat = level_on (slice_index c.depths o.to) (slice_index c.depths h.place) (depth_on ∙ ap (λ z. pos (slice_index c.depths h.place) +ℤ z) (enter.does c t h call).level) in
        record {
          here = o.there;
          next = o.address ∙ sym pc_is;
          cut = h.walked.cut;
          kept = kept;
          entry_is = h.walked.entry_is;
          history = record {
            entry_is = h.walked.history.entry_is;
            start_is = h.walked.history.start_is;
            calls_are = All-push IsState h.h.calls b h.walked.history.calls_are state;
            bytes = h.walked.history.bytes;
          };
          words = h.walked.words ∙ sym flat;
          shallow = h.walked.shallow;
          pointer = λ none.
              let sp = returned.sp in
              let same = enter.target_base c t h call in
              let before = enter.sp_is c t h call in
              let points = enter.pointer c t h call in
              omega (arith, sp, same, before, points);
          execution = calls_go_on c.p.image (setting c) (frame c) h.h t b (along c h.from h.steps) instr taken (enter.callee_is c t h call).k callee h.walked.kept.state (enter.does c t h call).chosen_so left post h.walked.execution;
        }

    -- the run arrives at the instruction after the call
    pub came_back : Arrived c b
    came_back =
        let o = there in
        record {
          from = h.from;
          steps = h.steps ++ last c t h ∷ [];
          place = o.to;
          st = o.next;
          h = with_call b h.h;
          walked = subst (Walked c b h.from there.to there.next (with_call b h.h)) (sym along_call) walked;
          plain = λ free. walks.onward h.steps (last c t h) o.to h.inside o.leads free;
          ending = λ asserted. walks.to_assertion h.steps (last c t h) o.to h.inside o.leads asserted;
        }
