-- A return of a routine's own code is its return step, and returns rightly.
use Rattle.std.proofs.Common.{◌≡◌, inl, ℕ, ◌+◌, ◌*◌, ◌%◌, ◌<◌, ◌≤◌, Bool, true, false, cond, List, [], ◌++◌, length, Option, None, Some, refl, sym, ap, ap₂, subst, ◌∙◌, arith}
use Rattle.std.specs.Prelude.{All, Contains, option_to_list, slice_index}
use Rattle.std.proofs.lemmas.List.{append-nil}
use Rattle.std.proofs.lemmas.List.Elements.{All-map, All-weaker, All-contains, All-contains_itself}
use Rattle.sp_base.specs.declared.location.Loc.{Loc}
use Rattle.sp_base.specs.declared.location.Loc.TheVariants as loc
use Rattle.sp_base.specs.declared.locs.Locs.{Locs}
use Rattle.sp_base.specs.Locs.{has, none}
use Rattle.sp_isa.specs.Core.{Core, at, cell, word}
use Rattle.sp_isa.specs.Effect.{gives_output, returns as takes_return}
use Rattle.sp_isa.specs.Locations.{writes}
use Rattle.sp_isa.specs.Outcome.{pc_after, sp_after, next_address, stores, written}
use Rattle.sp_isa.specs.Stack.{holds}
use Rattle.sp_isa.specs.declared.instr.Cond.{Cond}
use Rattle.sp_isa.specs.declared.instr.Instr.{Instr}
use Rattle.sp_isa.specs.declared.instr.Instr.TheVariants.{Ccc, Ret, Rcc}
use Rattle.sp_isa.proofs.CoreLemmas.{low_cell}
use Rattle.sp_isa.proofs.LocationLemmas.{changes_only_sets}
use Rattle.sp_isa.proofs.OutcomeLemmas.{instructions_lead}
use Rattle.sp_logic.specs.View.{note_of}
use Rattle.sp_model.specs.Good.{IsReturnStep, HasReturned, Keeps, base}
use Rattle.sp_model.specs.Note.{Holds, shown}
use Rattle.sp_model.specs.State.{State, next_input, step, executed}
use Rattle.sp_model.proofs.StateLemmas.{steps_execute}
use Rattle.sp_prog.specs.Rules.{note_has_word}
use Rattle.sp_prog.specs.View.{locs_of}
use Rattle.sp_prog.specs.declared.routine.Noted.{Noted}
use Rattle.sp_prog.specs.declared.routine.Routine.{Routine}
use Rattle.sp_prog.specs.declared.routine.Stmt.{Stmt}
use Rattle.sp_prog.proofs.UnitLemmas.{lists_have_their_locations}
use Rattle.sp_graph.specs.Control.{control_of}
use Rattle.sp_graph.specs.Graph.{branch_in, branch_of}
use Rattle.sp_graph.specs.Routines.{node_of, untaken_by, taken_by}
use Rattle.sp_graph.specs.Structure.{returns}
use Rattle.sp_graph.specs.Walks as walks
use Rattle.sp_graph.specs.Walks.{IsWalk, ends}
use Rattle.sp_graph.specs.declared.graph.Branch.{Branch}
use Rattle.sp_graph.specs.declared.graph.End.TheVariants as end
use Rattle.sp_facts.specs.Ends.{HasKeptItsWord}
use Rattle.sp_facts.specs.Executions.{IsChoice}
use Rattle.sp_facts.proofs.EndLemmas.{returns_keep_their_word}
use Rattle.sp_safety.specs.Calls.{On, Calls, Returns, way_of}
use Rattle.sp_safety.proofs.AreaLemmas.{of_model, listed_apart}
use Rattle.sp_safety.proofs.AskLemmas.{next_is, place_is}
use Rattle.sp_safety.proofs.FactsLemmas.{Run, Facts, unit, model, frame, setting, along, at_end, node_is}
use Rattle.sp_safety.proofs.FitLemmas.{fit_wordless}
use Rattle.sp_safety.proofs.GivenLemmas.{graph, rules}
use Rattle.sp_safety.proofs.NoteLemmas.{seen}
use Rattle.sp_safety.proofs.OnwardLemmas.{last}
use Rattle.sp_safety.proofs.RuleLemmas.{no_word, no_start}
use Rattle.sp_safety.proofs.WayLemmas.{chosen}

pub has_none : (x : Loc) → has x none ≡ false
unfolding has none
has_none loc.A = refl
has_none loc.B = refl
has_none loc.C = refl
has_none loc.D = refl
has_none loc.E = refl
has_none loc.H = refl
has_none loc.L = refl
has_none loc.S = refl
has_none loc.Z = refl
has_none loc.Ac = refl
has_none loc.P = refl
has_none loc.Cy = refl

-- ---- what a return does

taken_return : (b : Bool) → cond b Returns On ≡ Returns → b ≡ true
taken_return true h = refl
taken_return false h = cc

no_call : (b : Bool) → cond b Calls On ≡ Returns → ⊥
no_call true h = cc
no_call false h = cc

record Return (i : Instr) (core : Core) : Type 0 where
  pc : pc_after i core ≡ word core.sp core % 65536
  sp : sp_after i core ≡ (core.sp + 2) % 65536
  stores_none : stores i core ≡ []
  silent : gives_output i core ≡ None
  writes_none : writes i ≡ none
  control : returns (control_of i) ≡ true
  returns_so : takes_return i core ≡ true
  choice : IsChoice i true core

return_is : (i : Instr) (core : Core) → way_of i core ≡ Returns → Return i core
return_is Ret core h = record { pc = refl; sp = refl; stores_none = refl; silent = refl; writes_none = refl; control = refl; returns_so = refl; choice = tt }
return_is (Rcc c) core h =
    let yes_taken = taken_return (holds c core) h in
    record {
      pc = ap (λ b. cond b (word core.sp core % 65536) (next_address (Rcc c) core)) yes_taken;
      sp = ap (λ b. cond b ((core.sp + 2) % 65536) core.sp) yes_taken;
      stores_none = refl;
      silent = refl;
      writes_none = refl;
      control = refl;
      returns_so = yes_taken;
      choice = yes_taken;
    }
return_is (Ccc c w) core h = absurd (no_call (holds c core) h)
return_is i core h = cc

module _ (routines : List Routine) (stmts : List Stmt) (place : ℕ) where
  abbrev pub branch_by : Instr → Bool → Option Branch
  branch_by i false = untaken_by routines stmts place (control_of i)
  branch_by i true = taken_by routines stmts place (control_of i)

  abbrev home : Option Branch
  home = Some (record { end = Some end.Return; to = None })

  home_if : (c : Cond) (b : Bool) → b ≡ true → branch_by (Rcc c) b ≡ home
  home_if c true h = refl
  home_if c false h = cc

  goes_home : (i : Instr) (core : Core) → way_of i core ≡ Returns → branch_by i (chosen i core) ≡ home
  goes_home Ret core h = refl
  goes_home (Rcc c) core h = home_if c (holds c core) (taken_return (holds c core) h)
  goes_home (Ccc c w) core h = absurd (no_call (holds c core) h)
  goes_home i core h = cc

  pub branch_of_node : (s : Stmt) (b : Bool) → branch_of (node_of routines stmts place s) b ≡ branch_by s.instr b
  branch_of_node s true = refl
  branch_of_node s false = refl

-- locations that aren't listed aren't in the set
pub not_in_set : (locs : Locs) (x : Loc) → ¬ Contains (locs_of locs) x → has x locs ≡ false
not_in_set locs x h = by (has x locs) refl
  where
    by : (b : Bool) → has x locs ≡ b → b ≡ false
    by true is = absurd (h ((lists_have_their_locations locs x).1 is))
    by false is = refl

module _ (c : Run) (t : State) (h : Facts c t) (ret : way_of h.st.instr t.core ≡ Returns) where
  abbrev instr : Instr
  instr = h.st.instr

  is : Return instr t.core
  is = return_is instr t.core ret

  straight : c.routine.start ≡ false
  straight = no_start c.p c.r c.routine c.depths c.given h.place h.st h.walked.here is.control

  at_base : t.core.sp ≡ base (unit c) (model c) c.s
  at_base =
      let none = no_word c.p c.r c.routine c.depths c.given h.place h.st h.walked.here (length (along c h.from h.steps).state.slots) h.walked.words is.control in
      let points = h.walked.pointer (λ starts. let clash : true ≡ false = sym starts ∙ straight in absurd cc) in
      omega (arith, none, points)

  -- it is the return step
  pub is_return : IsReturnStep (unit c) (model c) c.s t
  is_return = record { running = h.walked.kept.running; returns = ((instr, _), next_is c t h, is.returns_so); at_base = at_base }

  now : step t ≡ executed instr t
  now = steps_execute t instr _ h.walked.kept.running (next_is c t h)

  cells_same : (step t).core.cells ≡ t.core.cells
  cells_same = ap (λ (s : State). s.core.cells) now ∙ (instructions_lead (next_input t) instr t.core).cells ∙ ap (λ w. written w t.core.cells) is.stores_none

  at_same : (x : Loc) → at x (step t).core ≡ at x t.core
  at_same x = ap (λ (s : State). at x s.core) now ∙ changes_only_sets (next_input t) instr t.core x (ap (has x) is.writes_none ∙ has_none x)

  walk_home : IsWalk (graph c.p c.routine) h.from (ends h.from h.steps end.Return h.place)
  walk_home =
      walks.on_branch h.steps (last c t h) (record { end = Some end.Return; to = None }) end.Return h.inside
      (ap (λ o. branch_in o (chosen instr t.core)) (node_is c h.place h.st h.walked.here) ∙ branch_of_node c.p.routines c.routine.code h.place h.st (chosen instr t.core) ∙ goes_home c.p.routines c.routine.code h.place instr t.core ret) refl

  its_word : HasKeptItsWord (setting c) (frame c) h.h.entry t
  its_word =
      let own = rules c.p c.r c.routine c.depths c.given in
      returns_keep_their_word c.p.image (setting c) (frame c) h.h t (along c h.from h.steps) h.st
      (at_end c t h.from h.steps h.place h.st h.h h.walked end.Return walk_home is.choice)
      (fit_wordless (length (along c h.from h.steps).state.slots) c.routine.post own.post own.post_words)

  -- a cell of the stack region from the base on is as at the entry
  above_base : (a : ℕ) → a < 65536 → c.p.first ≤ a → a ≤ c.p.last → base (unit c) (model c) c.s ≤ a → cell a t.core ≡ cell a c.s.core
  above_base a low above below over =
      h.walked.kept.keeps.memory a low
      (λ area there within. (listed_apart c.p c.given.unit c.routine.changes a (of_model c.p c.routine.changes a area there within)).1 (above, below))
      (λ inside. let under = inside.0 in omega (arith, under, over))

  word_same : word (base (unit c) (model c) c.s) t.core ≡ word (base (unit c) (model c) c.s) c.s.core
  word_same =
      let room = place_is c t h in
      let called = room.called straight in
      let below = room.below in
      let region = room.region in
      ap₂ (λ m n. m + 256 * n) (above_base (base (unit c) (model c) c.s) (omega (arith, called, region)) (omega (arith, below)) (omega (arith, called)) (omega arith))
      (above_base (base (unit c) (model c) c.s + 1) (omega (arith, called, region)) (omega (arith, below)) called (omega arith))

  low_word : word t.core.sp t.core < 65536
  low_word =
      let one = low_cell t.core.sp t.core h.walked.kept.state.core in
      let two = low_cell (t.core.sp + 1) t.core h.walked.kept.state.core in
      omega (arith, one, two)

  return_keeps : Keeps (unit c) (model c) c.s (step t)
  return_keeps =
      let keeps = h.walked.kept.keeps in
      record {
        memory = λ a low out apart. ap (λ cells. slice_index cells (a % 65536)) cells_same ∙ keeps.memory a low out apart;
        outputs = (keeps.outputs.0, ap (λ (s : State). s.outputs) now ∙ ap (λ o. t.outputs ++ option_to_list o) is.silent ∙ append-nil t.outputs ∙ keeps.outputs.1, keeps.outputs.2);
      }

  post_after : (n : Noted) → Contains c.routine.post n → Holds (frame c) (note_of n.note) c.s t → Holds (frame c) (note_of n.note) c.s (step t)
  post_after n there holds =
      seen (frame c) (frame c) c.s.core t.core c.s.core (step t).core (record { locations = λ x. refl; memory = refl })
      (record { locations = λ x. sym (at_same x); memory = ap (shown (frame c)) (sym cells_same) }) (note_of n.note)
      (inl (All-contains (λ m. note_has_word (note_of m.note) ≡ false) c.routine.post n (rules c.p c.r c.routine c.depths c.given).post_words there)) holds

  -- and the state after it is right
  pub returned : HasReturned (unit c) (model c) c.s (step t)
  returned =
      let word_is = its_word in
      let lead = instructions_lead (next_input t) instr t.core in
      let post = subst (λ s. All (λ (n : Noted). Holds (frame c) (note_of n.note) s t) c.routine.post) h.walked.entry_is word_is.post in
      record {
        keeps = return_keeps;
        post = All-map (λ note. Holds (frame c) note c.s (step t)) (λ (n : Noted). note_of n.note) c.routine.post
            (All-weaker (Contains c.routine.post) (λ (n : Noted). Holds (frame c) (note_of n.note) c.s (step t))
            (λ n there. post_after n there (All-contains (λ (m : Noted). Holds (frame c) (note_of m.note) c.s t) c.routine.post n post there)) c.routine.post (All-contains_itself c.routine.post));
        sp =
            let sp = ap (λ (s : State). s.core.sp) now ∙ lead.sp ∙ is.sp in
            let same = at_base in
            let room = place_is c t h in
            let called = room.called straight in
            let region = room.region in
            omega (arith, sp, same, called, region);
        pc =
            let pc : (step t).core.pc ≡ word t.core.sp t.core % 65536 = ap (λ (s : State). s.core.pc) now ∙ lead.pc ∙ is.pc in
            let low = low_word in
            let level : word t.core.sp t.core % 65536 ≡ word t.core.sp t.core = omega (arith, low) in
            pc ∙ level ∙ ap (λ a. word a t.core) at_base ∙ word_same;
        unlisted = λ y free. at_same y ∙ subst (λ (s : State). at y t.core ≡ at y s.core) h.walked.entry_is (word_is.unlisted y (not_in_set c.routine.changes.locs y free));
      }
