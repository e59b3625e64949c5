-- A call of a routine's own code enters a routine.
use Rattle.std.proofs.Common.{◌≡◌, ◌⊎◌, inl, inr, ℕ, ◌+◌, ◌*◌, ◌/◌, ◌%◌, ◌<◌, ◌≤◌, ℤ, pos, negsuc, Bool, true, false, cond, ◌&&◌, List, [], ◌∷◌, ◌++◌, length, get_or, Option, None, Some, slice_get, refl, sym, ap, ap₂, subst, ◌∙◌, arith}
use Rattle.std.specs.Prelude.{All, Contains, option_to_list, slice_index, nat_eq, nat_le}
use Rattle.std.proofs.Math.Path.{fun_ext}
use Rattle.std.proofs.lemmas.Bool.{cases_order}
use Rattle.std.proofs.lemmas.Bool.Decides.{nat_tests}
use Rattle.std.proofs.lemmas.List.{append-nil}
use Rattle.std.proofs.lemmas.List.Elements.{All-map, All-nil, All-cons, All-weaker, All-contains, All-contains_itself}
use Rattle.std.proofs.lemmas.List.Quantifiers.{position-Some}
use Rattle.std.proofs.lemmas.Option.{slice_get-get_or}
use Rattle.sp_base.specs.declared.location.Loc.{Loc}
use Rattle.sp_base.specs.Locs.{has, none}
use Rattle.sp_isa.specs.Code.{code}
use Rattle.sp_isa.specs.Core.{Core, at, cell}
use Rattle.sp_isa.specs.Effect.{gives_output}
use Rattle.sp_isa.specs.Locations.{writes}
use Rattle.sp_isa.specs.Outcome.{IsApart, pc_after, sp_after, halted_after, next_address, pushes_address, stores, written}
use Rattle.sp_isa.specs.Stack.{holds}
use Rattle.sp_isa.specs.declared.instr.Cond.{Cond}
use Rattle.sp_isa.specs.declared.instr.Instr.{Instr}
use Rattle.sp_isa.specs.declared.instr.Instr.TheVariants.{Call, Ccc, Rcc, Rst}
use Rattle.sp_isa.proofs.LocationLemmas.{changes_only_sets}
use Rattle.sp_isa.proofs.OutcomeLemmas.{instructions_lead, other_cells_stay}
use Rattle.sp_logic.specs.View.{note_of}
use Rattle.sp_model.specs.Good.{IsEntry, InAllotment, Keeps, base, frame_of}
use Rattle.sp_model.specs.Note.{Frame, Holds, shown}
use Rattle.sp_model.specs.State.{State, next_input, step, executed}
use Rattle.sp_model.specs.Unit as runs
use Rattle.sp_model.proofs.StateLemmas.{steps_execute, steps_keep_states}
use Rattle.sp_prog.specs.Rules.{IsRoutine, address_of, note_has_word}
use Rattle.sp_prog.specs.View.{routine_of, stmt_of}
use Rattle.sp_prog.specs.declared.routine.Noted.{Noted}
use Rattle.sp_prog.specs.declared.routine.Routine.{Routine}
use Rattle.sp_prog.specs.declared.routine.Stmt.{Stmt}
use Rattle.sp_prog.proofs.MemberLemmas.{found, in_map}
use Rattle.sp_prog.proofs.UnitLemmas.{has_code}
use Rattle.sp_flow.specs.declared.refusal.FlowKind.TheVariants as kind
use Rattle.sp_flow.specs.Flow.{IsCallee}
use Rattle.sp_graph.specs.Control.{control_of}
use Rattle.sp_graph.specs.Depths as depths
use Rattle.sp_graph.specs.Graph.{branch_in}
use Rattle.sp_graph.specs.Routines.{callee_at, end_of_call, end_of_callee, has_notes}
use Rattle.sp_graph.specs.Structure.{call_target, IsCallOf, IsNoCallee}
use Rattle.sp_graph.specs.Successors.{next_of, routine_at}
use Rattle.sp_graph.specs.Walks as walks
use Rattle.sp_graph.specs.Walks.{IsWalk, ends}
use Rattle.sp_graph.specs.declared.graph.Branch.{Branch}
use Rattle.sp_graph.specs.declared.graph.End.TheVariants as end
use Rattle.sp_struct.proofs.RuleLemmas.{routine_within}
use Rattle.sp_trans.specs.Meaning.{HasPointer, SetsPointer, IsInStack}
use Rattle.sp_cond.specs.Calls.{called_by, callee_of, place_at}
use Rattle.sp_cond.specs.Conclusions.{pre_of}
use Rattle.sp_facts.specs.Ends.{FitNotes, HoldAll}
use Rattle.sp_facts.specs.Executions.{IsChoice}
use Rattle.sp_facts.proofs.EndLemmas.{callees_are_entered}
use Rattle.sp_safety.specs.Calls.{On, Calls, Returns, Enters, way_of}
use Rattle.sp_safety.specs.Contained.{called_address}
use Rattle.sp_safety.proofs.AccessLemmas.{unseen_pushes}
use Rattle.sp_safety.proofs.AreaLemmas.{in_model, of_model, stable_has, stable_listed}
use Rattle.sp_safety.proofs.AskLemmas.{next_is, here_at, place_is, pointer_is}
use Rattle.sp_safety.proofs.FactsLemmas.{Run, Facts, unit, model, frame, setting, along, at_end, node_is}
use Rattle.sp_safety.proofs.FetchLemmas.{at_address, still_loaded}
use Rattle.sp_safety.proofs.FitLemmas.{fit_wordless}
use Rattle.sp_safety.proofs.GivenLemmas.{graph, stmt_in}
use Rattle.sp_safety.proofs.NoteLemmas.{Alike, seen}
use Rattle.sp_safety.proofs.OnwardLemmas.{last}
use Rattle.sp_safety.proofs.ReturnLemmas.{branch_by, branch_of_node, has_none}
use Rattle.sp_safety.proofs.RuleLemmas.{room_for_call}
use Rattle.sp_safety.proofs.WayLemmas.{chosen}

-- ---- what a call does

taken_call : (b : Bool) → cond b Calls On ≡ Calls → b ≡ true
taken_call true h = refl
taken_call false h = cc

no_return : (b : Bool) → cond b Returns On ≡ Calls → ⊥
no_return true h = cc
no_return false h = cc

pub record CallOf (i : Instr) (core : Core) : Type 0 where
  pub w : ℕ
  pub target : call_target (control_of i) ≡ Some w
  pub called : called_address i ≡ Some w
  pub by : called_by (control_of i) (chosen i core) ≡ Some w
  pub pc : pc_after i core ≡ w % 65536
  pub sp : sp_after i core ≡ (core.sp + 65534) % 65536
  pub rests : halted_after i core ≡ core.halted
  pub stores_are : stores i core ≡ pushes_address (next_address i core) core
  pub silent : gives_output i core ≡ None
  pub writes_none : writes i ≡ none
  pub choice : IsChoice i true core
  pub chosen_so : IsChoice i (chosen i core) core
  pub level : depths.effect i ≡ pos 0
  pub sets_none : ¬ SetsPointer i

pub call_is : (i : Instr) (core : Core) → way_of i core ≡ Calls → CallOf i core
call_is (Call w) core h = record {
  w = w;
  target = refl;
  called = refl;
  by = refl;
  pc = refl;
  sp = refl;
  rests = refl;
  stores_are = refl;
  silent = refl;
  writes_none = refl;
  choice = tt;
  chosen_so = tt;
  level = refl;
  sets_none = λ x. x;
}
call_is (Rst n) core h = record {
  w = 8 * n;
  target = refl;
  called = refl;
  by = refl;
  pc = refl;
  sp = refl;
  rests = refl;
  stores_are = refl;
  silent = refl;
  writes_none = refl;
  choice = tt;
  chosen_so = tt;
  level = refl;
  sets_none = λ x. x;
}
call_is (Ccc c w) core h =
    let so = taken_call (holds c core) h in
    record {
      w = w;
      target = refl;
      called = refl;
      by = ap (λ b. cond b (Some w) None) so;
      pc = ap (λ b. cond b (w % 65536) (next_address (Ccc c w) core)) so;
      sp = ap (λ b. cond b ((core.sp + 65534) % 65536) core.sp) so;
      rests = refl;
      stores_are = ap (λ b. cond b (pushes_address (next_address (Ccc c w) core) core) []) so;
      silent = refl;
      writes_none = refl;
      choice = so;
      chosen_so = refl;
      level = refl;
      sets_none = λ x. x;
    }
call_is (Rcc c) core h = absurd (no_return (holds c core) h)
call_is i core h = cc

module _ (routines : List Routine) (stmts : List Stmt) (place : ℕ) where
  abbrev away : ℕ → Option Branch
  away w = Some (record { end = end_of_call routines w; to = next_of stmts place })

  away_if : (c : Cond) (w : ℕ) (b : Bool) → b ≡ true → branch_by routines stmts place (Ccc c w) b ≡ away w
  away_if c w true h = refl
  away_if c w false h = cc

  goes_away : (i : Instr) (core : Core) (w : ℕ) → way_of i core ≡ Calls → call_target (control_of i) ≡ Some w → branch_by routines stmts place i (chosen i core) ≡ away w
  goes_away (Call v) core w h e = let same : v ≡ w = cc in ap away same
  goes_away (Rst n) core w h e = let same : 8 * n ≡ w = cc in ap away same
  goes_away (Ccc c v) core w h e = let same : v ≡ w = cc in away_if c v (holds c core) (taken_call (holds c core) h) ∙ ap away same
  goes_away (Rcc c) core w h e = absurd (no_return (holds c core) h)
  goes_away i core w h e = cc

-- frames of one stack region show the same memory
rebased : (f g : Frame) (cells : List ℕ) → f.first ≡ g.first → f.last ≡ g.last → (z : ℤ) → shown f cells z ≡ shown g cells z
rebased f g cells first last_same (pos a) = ap₂ (λ x y. cond (nat_le x a && nat_le a y) (pos 0) (pos (slice_index cells a))) first last_same
rebased f g cells first last_same (negsuc a) = refl

pub shown_rebased : (f g : Frame) (cells : List ℕ) → f.first ≡ g.first → f.last ≡ g.last → shown f cells ≡ shown g cells
shown_rebased f g cells first last_same = fun_ext (rebased f g cells first last_same)

no_pre : (notes : List Noted) → has_notes notes ≡ false → notes ≡ []
no_pre [] h = refl
no_pre (n ∷ notes) h = cc

module _ (c : Run) (t : State) (h : Facts c t) (call : way_of h.st.instr t.core ≡ Calls) where
  abbrev instr : Instr
  instr = h.st.instr

  abbrev words : ℕ
  words = length (along c h.from h.steps).state.slots

  pub does : CallOf instr t.core
  does = call_is instr t.core call

  -- ---- which routine it is

  pub record Callee : Type 0 where
    pub k : ℕ
    pub callee : Routine
    pub place_is : routine_at c.p.routines does.w ≡ Some k
    pub there : slice_get c.p.routines k ≡ Some callee
    pub straight : callee.start ≡ false
    pub address : address_of callee ≡ does.w

  callee_by : (o : Option ℕ) → routine_at c.p.routines does.w ≡ o → Callee
  callee_by None is = absurd (c.given.structured.calls h.st.line.0 (c.r, h.place, c.routine, h.st, here_at c t h, refl, (does.w, does.target, subst (IsNoCallee c.p) (sym is) tt)))
  callee_by (Some k) is =
      let within = routine_within c.p.routines does.w k is in
      let there = slice_get-get_or c.p.routines k c.routine within in
      let position_is = position-Some (λ (q : Routine). nat_eq (address_of q) does.w) c.p.routines k c.routine is in
      let test : nat_eq (address_of (get_or c.p.routines k c.routine)) does.w ≡ true = position_is.1 in
      record {
        k = k;
        callee = get_or c.p.routines k c.routine;
        place_is = is;
        there = there;
        straight = by (get_or c.p.routines k c.routine).start refl;
        address = equal (address_of (get_or c.p.routines k c.routine)) does.w test;
      }
    where
      equal : (m n : ℕ) → nat_eq m n ≡ true → m ≡ n
      equal m n e = grind (arith, nat_tests)

      by : (b : Bool) → (get_or c.p.routines k c.routine).start ≡ b → b ≡ false
      by true starts = absurd (c.given.structured.calls h.st.line.0 (c.r, h.place, c.routine, h.st, here_at c t h, refl, (does.w, does.target, subst (IsNoCallee c.p) (sym is) (get_or c.p.routines k c.routine, slice_get-get_or c.p.routines k c.routine (routine_within c.p.routines does.w k is), starts))))
      by false starts = refl

  pub callee_is : Callee
  callee_is = callee_by (routine_at c.p.routines does.w) refl

  abbrev pub target : runs.Routine
  target = routine_of c.p.areas callee_is.callee

  pub callee_rules : IsRoutine c.p callee_is.callee
  callee_rules = All-contains (IsRoutine c.p) c.p.routines callee_is.callee c.given.unit.routines (found c.p.routines callee_is.k callee_is.callee callee_is.there)

  pub target_member : Contains (unit c).routines target
  target_member = in_map (routine_of c.p.areas) c.p.routines callee_is.callee (found c.p.routines callee_is.k callee_is.callee callee_is.there)

  call_of : IsCallOf c.p h.st callee_is.k
  call_of = (does.w, does.target, callee_is.place_is)

  callee_of_flow : IsCallee c.p h.st callee_is.callee
  callee_of_flow = (callee_is.k, call_of, callee_is.there)

  pub callee_known : callee_of c.p.routines instr ≡ Some callee_is.callee
  callee_known =
      ap (λ o. callee_at c.p.routines (place_at c.p.routines o)) does.target ∙ ap (callee_at c.p.routines) callee_is.place_is ∙ callee_is.there

  -- ---- the state after the call

  now : step t ≡ executed instr t
  now = steps_execute t instr _ h.walked.kept.running (next_is c t h)

  pub pointer : HasPointer (frame c) (along c h.from h.steps).state t.core
  pointer = pointer_is c t h does.sets_none

  pub depth_fits : 2 * words + (2 + callee_is.callee.depth) ≤ c.routine.depth
  depth_fits = room_for_call c.p c.r c.routine c.depths c.given h.place h.st h.walked.here words callee_is.k callee_is.callee h.walked.words call_of callee_is.there

  pub sp_is : (step t).core.sp + 2 ≡ t.core.sp
  sp_is =
      let sp : (step t).core.sp ≡ (t.core.sp + 65534) % 65536 = ap (λ (s : State). s.core.sp) now ∙ (instructions_lead (next_input t) instr t.core).sp ∙ does.sp in
      let points = pointer in
      let fits = depth_fits in
      let below = (place_is c t h).below in
      let above = (place_is c t h).above in
      let region = (place_is c t h).region in
      omega arith

  pub cells_are : (step t).core.cells ≡ written (pushes_address (next_address instr t.core) t.core) t.core.cells
  cells_are = ap (λ (s : State). s.core.cells) now ∙ (instructions_lead (next_input t) instr t.core).cells ∙ ap (λ s. written s t.core.cells) does.stores_are

  pub at_same : (x : Loc) → at x (step t).core ≡ at x t.core
  at_same x = ap (λ (s : State). at x s.core) now ∙ changes_only_sets (next_input t) instr t.core x (ap (has x) does.writes_none ∙ has_none x)

  -- only the two cells below the stack pointer are written
  pub cell_same : (a : ℕ) → a < 65536 → (t.core.sp ≤ a) ⊎ (a + 2 < t.core.sp) → cell a (step t).core ≡ cell a t.core
  cell_same a low out =
      let sp = sp_is in
      let small = h.walked.kept.state.core.sp in
      let one : a % 65536 ≡ (t.core.sp + 65535) % 65536 → ⊥ = λ e. elim out [ inl l ↦ omega (arith, l, e, sp, small, low) | inr l ↦ omega (arith, l, e, sp, small, low) ] in
      let two : a % 65536 ≡ (t.core.sp + 65534) % 65536 → ⊥ = λ e. elim out [ inl l ↦ omega (arith, l, e, sp, small, low) | inr l ↦ omega (arith, l, e, sp, small, low) ] in
      ap (λ (s : State). cell a s.core) now
      ∙ other_cells_stay (next_input t) instr t.core a
      (subst (IsApart a) (sym does.stores_are) (one, (two, tt)))

  pub shown_same : (z : ℤ) → shown (frame c) (step t).core.cells z ≡ shown (frame c) t.core.cells z
  shown_same z =
      let sp = sp_is in
      let points = pointer in
      let fits = depth_fits in
      let below = (place_is c t h).below in
      let above = (place_is c t h).above in
      let region = (place_is c t h).region in
      ap (λ cells. shown (frame c) cells z) cells_are
      ∙ unseen_pushes (frame c) t.core z (next_address instr t.core / 256) (next_address instr t.core % 256)
      (All-cons (IsInStack (frame c)) ((t.core.sp + 65535) % 65536) ((t.core.sp + 65534) % 65536 ∷ []) (omega arith, omega arith)
      (All-cons (IsInStack (frame c)) ((t.core.sp + 65534) % 65536) [] (omega arith, omega arith) (All-nil (IsInStack (frame c)))))

  pub call_keeps : Keeps (unit c) (model c) c.s (step t)
  call_keeps =
      let keeps = h.walked.kept.keeps in
      record {
        memory = λ a low out apart. cell_kept a low apart ∙ keeps.memory a low out apart;
        outputs = (keeps.outputs.0, ap (λ (s : State). s.outputs) now ∙ ap (λ o. t.outputs ++ option_to_list o) does.silent ∙ append-nil t.outputs ∙ keeps.outputs.1, keeps.outputs.2);
      }
    where
      cell_kept : (a : ℕ) → a < 65536 → ¬ InAllotment (unit c) (model c) c.s a → cell a (step t).core ≡ cell a t.core
      cell_kept a low apart =
          elim (cases_order a t.core.sp) [
            | inl e ↦ cell_same a low (inl (omega (arith, e)))
            | inr (inr l) ↦ cell_same a low (inl (omega (arith, l)))
            | inr (inl l) ↦
                let points = pointer in
                let fits = depth_fits in
                elim (cases_order (a + 2) t.core.sp) [
                  | inl e ↦ absurd (apart (omega (arith, points, l), omega (arith, points, fits, e)))
                  | inr (inl m) ↦ cell_same a low (inr m)
                  | inr (inr m) ↦ absurd (apart (omega (arith, points, l), omega (arith, points, fits, m)))
                ]
          ]

  -- ---- the callee's preconditions

  walk_away : has_notes callee_is.callee.pre ≡ true → IsWalk (graph c.p c.routine) h.from (ends h.from h.steps end.Call h.place)
  walk_away some =
      walks.on_branch h.steps (last c t h) (record { end = end_of_call c.p.routines does.w; to = next_of c.routine.code h.place }) end.Call h.inside
      (ap (λ o. branch_in o (chosen instr t.core)) (node_is c h.place h.st h.walked.here) ∙ branch_of_node c.p.routines c.routine.code h.place h.st (chosen instr t.core) ∙ goes_away c.p.routines c.routine.code h.place instr t.core does.w call does.target)
      (ap (λ o. end_of_callee (callee_at c.p.routines o)) callee_is.place_is ∙ ap end_of_callee callee_is.there ∙ ap (λ b. cond b (Some end.Call) None) some)

  pre_by : (b : Bool) → has_notes callee_is.callee.pre ≡ b → HoldAll (frame c) callee_is.callee.pre t t
  pre_by true some =
      subst (λ o. HoldAll (frame c) (pre_of o) t t) callee_known
      (callees_are_entered c.p.image (setting c) (frame c) h.h t (along c h.from h.steps) h.st
      (at_end c t h.from h.steps h.place h.st h.h h.walked end.Call (walk_away some) does.choice)
      (subst (λ o. FitNotes words (pre_of o)) (sym callee_known) (fit_wordless words callee_is.callee.pre callee_rules.pre callee_rules.pre_words)))
  pre_by false free = subst (λ notes. HoldAll (frame c) notes t t) (sym (no_pre callee_is.callee.pre free)) (All-nil _)

  abbrev inner : Frame
  inner = frame_of (unit c) target (step t)

  pub alike_after : Alike (frame c) inner t.core (step t).core
  alike_after = record {
    locations = λ x. sym (at_same x);
    memory = fun_ext (λ z. sym (shown_same z)) ∙ shown_rebased (frame c) inner (step t).core.cells refl refl;
  }

  entry_pre : All (λ note. Holds inner note (step t) (step t)) target.pre
  entry_pre =
      let holds = pre_by (has_notes callee_is.callee.pre) refl in
      All-map (λ note. Holds inner note (step t) (step t)) (λ (n : Noted). note_of n.note) callee_is.callee.pre
      (All-weaker (Contains callee_is.callee.pre) (λ (n : Noted). Holds inner (note_of n.note) (step t) (step t))
      (λ n there.
      seen (frame c) inner t.core t.core (step t).core (step t).core alike_after alike_after (note_of n.note)
      (inl (All-contains (λ m. note_has_word (note_of m.note) ≡ false) callee_is.callee.pre n callee_rules.pre_words there))
      (All-contains (λ (m : Noted). Holds (frame c) (note_of m.note) t t) callee_is.callee.pre n holds there))
      callee_is.callee.pre (All-contains_itself callee_is.callee.pre))

  -- ---- the entry

  low_target : does.w < 65536
  low_target =
      let codes = has_code c.p c.given.unit in
      let first = codes.begins target target_member in
      let bytes = (codes.codes target first.0 (target_member, first.1)).1 in
      let some : 0 < length (code first.0.instr) = omega arith in
      let within = at_address c.p.image c.given.unit.image (first.0.address + 0) (slice_index (code first.0.instr) 0) (bytes 0 some) in
      let same = first.2 in
      let address = callee_is.address in
      omega (arith, within, same, address)

  pub target_base : base (unit c) target (step t) ≡ (step t).core.sp
  target_base = ap (λ b. cond b (c.p.last + 1) (step t).core.sp) callee_is.straight

  pub entered : IsEntry (unit c) target (step t)
  entered =
      let sp = sp_is in
      let points = pointer in
      let fits = depth_fits in
      let below = (place_is c t h).below in
      let above = (place_is c t h).above in
      let lead = instructions_lead (next_input t) instr t.core in
      let low = low_target in
      let small : does.w % 65536 ≡ does.w = omega (arith, low) in
      record {
        state = steps_keep_states t h.walked.kept.state;
        loaded = still_loaded c.p c.r c.routine c.depths c.given c.s c.entry (step t) call_keeps;
        begins = ap (λ (s : State). s.core.pc) now ∙ lead.pc ∙ does.pc ∙ small ∙ sym callee_is.address;
        running = ap (λ (s : State). s.core.halted) now ∙ lead.halted ∙ does.rests ∙ h.walked.kept.running;
        pre = entry_pre;
        room = λ straight. record { below = omega (arith, sp, points, fits, below); above = omega (arith, sp, points, above) };
      }

  -- it enters the routine
  pub enters : Enters (unit c) (model c) target c.s (step t)
  enters =
      let sp = sp_is in
      let points = pointer in
      let fits = depth_fits in
      let same = target_base in
      record {
        calls = (target_member, (stmt_of h.st, stmt_in c.p c.r c.routine c.depths c.given h.place h.st h.walked.here, does.called ∙ ap (λ a. Some a) (sym callee_is.address)));
        straight = callee_is.straight;
        entry = entered;
        areas = λ a area there within.
            in_model c.p c.routine.changes a
            (stable_listed c.p c.routine.changes a (λ other. c.given.flow h.st.line.0 (kind.Writes a) (c.r, h.place, c.routine, h.st, here_at c t h, refl, (inr (callee_is.callee, callee_of_flow, of_model c.p callee_is.callee.changes a area there within), other))));
        ins = λ port there. stable_has c.routine.ins port (λ other. c.given.flow h.st.line.0 (kind.Port port) (c.r, h.place, c.routine, h.st, here_at c t h, refl, inl (inr (callee_is.callee, callee_of_flow, there), other)));
        outs = λ port there. stable_has c.routine.outs port (λ other. c.given.flow h.st.line.0 (kind.Port port) (c.r, h.place, c.routine, h.st, here_at c t h, refl, inr (inr (callee_is.callee, callee_of_flow, there), other)));
        keeps = call_keeps;
        below = omega (arith, sp, points, same);
        above = omega (arith, sp, points, same, fits);
      }
