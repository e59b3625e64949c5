-- A run that arrives at an instruction: what is asserted there is true, and a walk goes on or begins.
use Rattle.std.proofs.Common.{◌≡◌, ◌⊎◌, inl, inr, ℕ, zero, suc, ◌+◌, ◌*◌, ◌/◌, ◌<◌, Bool, true, false, List, [], ◌∷◌, map, length, Option, None, Some, slice_get, refl, sym, ap, subst, ◌∙◌, arith}
use Rattle.std.specs.Prelude.{All, Contains, slice_index, pos}
use Rattle.std.proofs.lemmas.List.{append-nil}
use Rattle.std.proofs.lemmas.List.Elements.{All-nil, All-weaker, All-contains, All-contains_itself}
use Rattle.sp_logic.specs.View.{note_of}
use Rattle.sp_model.specs.Note.{Frame, Holds, IsClosed}
use Rattle.sp_model.specs.State.{State, IsState}
use Rattle.sp_prog.specs.Rules.{first_address}
use Rattle.sp_prog.proofs.MemberLemmas.{in_map}
use Rattle.sp_prog.specs.declared.routine.Noted.{Noted}
use Rattle.sp_prog.specs.declared.routine.Stmt.{Stmt}
use Rattle.sp_graph.specs.Depths.{HasDepth}
use Rattle.sp_graph.specs.Graph.{asserted_in}
use Rattle.sp_graph.specs.Least as least
use Rattle.sp_graph.specs.Least.{WalkTo, Before}
use Rattle.sp_graph.specs.Routines.{graph_of, has_notes}
use Rattle.sp_graph.specs.Walks as walks
use Rattle.sp_graph.specs.Walks.{Inside, IsCut, IsWalk, ends}
use Rattle.sp_graph.specs.declared.graph.End.TheVariants as end
use Rattle.sp_graph.specs.declared.walk.Step.{Step}
use Rattle.sp_graph.proofs.NodeLemmas.{stmt_at}
use Rattle.sp_struct.proofs.LeastLemmas.{one_depth}
use Rattle.sp_trans.specs.Formulas.{NoteFits}
use Rattle.sp_cond.specs.Execution.{asserts_in}
use Rattle.sp_cond.specs.Start.{fresh_words}
use Rattle.sp_facts.specs.Ends.{FitNotes, HoldAll}
use Rattle.sp_facts.specs.Histories.{History, history}
use Rattle.sp_facts.specs.Theorems.{HasKept, IsTrueBetween, IsTrueNote}
use Rattle.sp_facts.proofs.AssertionLemmas.{assertions_begin}
use Rattle.sp_facts.proofs.EndLemmas.{assertions_hold}
use Rattle.sp_facts.proofs.EntryLemmas.{entries_begin}
use Rattle.sp_safety.proofs.FactsLemmas.{Run, Facts, Kept, Walked, frame, setting, along, at_end, node_is}
use Rattle.sp_safety.proofs.FetchLemmas.{image_apart, allotted, base_of_called}
use Rattle.sp_safety.proofs.FitLemmas.{fit_asserts, fit_wordless}
use Rattle.sp_safety.proofs.GivenLemmas.{graph, rules}
use Rattle.sp_safety.proofs.OutsideLemmas.{outside_same}
use Rattle.sp_safety.proofs.RuleLemmas.{depth_at}

-- the run has come to an instruction, before its assertions are looked at
pub record Arrived (c : Run) (t : State) : Type 0 where
  pub from : Option ℕ
  pub steps : List Step
  pub place : ℕ
  pub st : Stmt
  pub h : History
  pub walked : Walked c t from place st h (along c from steps)
  pub plain : asserted_in (slice_get (graph c.p c.routine) place) ≡ false → Inside (graph c.p c.routine) from steps place
  pub ending : asserted_in (slice_get (graph c.p c.routine) place) ≡ true → IsWalk (graph c.p c.routine) from (ends from steps end.Assert place)

no_notes : (notes : List Noted) → has_notes notes ≡ false → notes ≡ []
no_notes [] h = refl
no_notes (n ∷ notes) h = cc

some_long : (k : ℕ) → length (fresh_words k) ≡ k
unfolding fresh_words
some_long zero = refl
some_long (suc k) = ap suc (some_long k)

pub holds_closed : (f : Frame) (words : ℕ) (s t : State) (notes : List Noted) → FitNotes words notes → HoldAll f notes s t → All (IsTrueBetween f words s t) notes
holds_closed f words s t notes fit holds =
    All-weaker (Contains notes) (IsTrueBetween f words s t)
    (λ n there. record {
      closed = (All-contains (λ m. IsClosed (note_of m.note) × NoteFits words (note_of m.note)) notes n fit there).0;
      fits = (All-contains (λ m. IsClosed (note_of m.note) × NoteFits words (note_of m.note)) notes n fit there).1;
      holds = All-contains (λ m. Holds f (note_of m.note) s t) notes n holds there;
    }) notes (All-contains_itself notes)

-- what is true of all of a mapped list
pub all_mapped : {A B : Type 0} (Q : B → Type 0) (g : A → B) (xs : List A) → All Q (map g xs) → All (λ x. Q (g x)) xs
all_mapped Q g xs h = All-weaker (Contains xs) (λ x. Q (g x)) (λ x there. All-contains Q (map g xs) (g x) h (in_map g xs x there)) xs (All-contains_itself xs)

module _ (c : Run) where
  pre_notes : All (IsTrueNote (frame c) c.s) c.routine.pre
  pre_notes =
      let own = rules c.p c.r c.routine c.depths c.given in
      let fit = fit_wordless 0 c.routine.pre own.pre own.pre_words in
      let holds = all_mapped (λ note. Holds (frame c) note c.s c.s) (λ (n : Noted). note_of n.note) c.routine.pre c.entry.pre in
      All-weaker (Contains c.routine.pre) (IsTrueNote (frame c) c.s)
      (λ n there. record {
        closed = (All-contains (λ m. IsClosed (note_of m.note) × NoteFits 0 (note_of m.note)) c.routine.pre n fit there).0;
        fits = (All-contains (λ m. IsClosed (note_of m.note) × NoteFits 0 (note_of m.note)) c.routine.pre n fit there).1;
        holds = All-contains (λ m. Holds (frame c) (note_of m.note) c.s c.s) c.routine.pre n holds there;
      }) c.routine.pre (All-contains_itself c.routine.pre)

  -- ---- the entry

  kept_first : Kept c c.s
  kept_first = record {
    state = c.entry.state;
    running = c.entry.running;
    keeps = record { memory = λ a low out apart. refl; outputs = ([], sym (append-nil c.s.outputs), All-nil _) };
    unset = λ x free. refl;
    unstored = λ free z. refl;
  }

  -- the depth at the entry
  pub depth_first : (st : Stmt) → slice_get c.routine.code 0 ≡ Some st → slice_index c.depths 0 ≡ 0
  depth_first st here =
      let is : HasDepth (graph_of c.p c.r) c.routine.code 0 (pos 0) = ([], record { walk = least.entry; least = shortest }, refl) in
      let same = one_depth (graph_of c.p c.r) c.routine.code 0 (pos (slice_index c.depths 0)) (pos 0) (depth_at c.p c.r c.routine c.depths c.given 0 st here) is in
      cc
    where
      shortest : (others : List ℕ) → WalkTo (graph_of c.p c.r) others 0 → ([] ≡ others) ⊎ Before [] others
      shortest [] walk = inl refl
      shortest (k ∷ others) walk = inr (inl (omega arith))

  first_is : (code : List Stmt) (st : Stmt) → slice_get code 0 ≡ Some st → st.addr ≡ first_address code
  first_is [] st here = cc
  first_is (x ∷ code) st here = let same : x ≡ st = cc in ap (λ (y : Stmt). y.addr) (sym same)

  start_pointer : (c.routine.start ≡ true → ⊥) → (b : Bool) → c.routine.start ≡ b → c.s.core.sp + 2 * 0 ≡ (frame c).base
  start_pointer none true starts = absurd (none starts)
  start_pointer none false straight = let same = base_of_called c.p c.r c.routine c.depths c.given c.s c.entry straight in omega (arith, same)

  pub entered : Arrived c c.s
  entered =
      let first = stmt_at c.routine.code 0 (rules c.p c.r c.routine c.depths c.given).some in
      let flat = depth_first first.0 first.1 in
      record {
        from = None;
        steps = [];
        place = 0;
        st = first.0;
        h = history c.s c.s [] [];
        walked = record {
          here = first.1;
          next = first_is c.routine.code first.0 first.1 ∙ sym c.entry.begins;
          cut = tt;
          kept = kept_first;
          entry_is = refl;
          history = record { entry_is = c.entry.state; start_is = c.entry.state; calls_are = All-nil IsState; bytes = All-nil (λ byte. byte < 256) };
          words = sym flat;
          shallow = omega arith;
          pointer = λ none. start_pointer (λ starts. none starts refl) c.routine.start refl;
          execution = entries_begin c.p.image (setting c) (frame c) c.s pre_notes;
        };
        plain = λ free. walks.entry refl free;
        ending = λ asserted. walks.entry_asserted refl asserted;
      }

  -- ---- assertions

  module _ (t : State) (a : Arrived c t) where
    has_is : (b : Bool) → asserted_in (slice_get (graph c.p c.routine) a.place) ≡ b → has_notes a.st.asserts ≡ b
    has_is b is = sym (ap asserted_in (node_is c a.place a.st a.walked.here)) ∙ is

    go_on : asserted_in (slice_get (graph c.p c.routine) a.place) ≡ false → Facts c t
    go_on free = record {
      from = a.from;
      steps = a.steps;
      place = a.place;
      st = a.st;
      h = a.h;
      inside = a.plain free;
      walked = a.walked;
      asserted = subst (λ notes. HoldAll (frame c) notes c.s t) (sym (no_notes a.st.asserts (has_is false free))) (All-nil _);
    }

    true_there : asserted_in (slice_get (graph c.p c.routine) a.place) ≡ true → HoldAll (frame c) a.st.asserts c.s t
    true_there asserted =
        subst (λ s. HoldAll (frame c) a.st.asserts s t) a.walked.entry_is
        (assertions_hold c.p.image (setting c) (frame c) a.h t (along c a.from a.steps) a.st
        (at_end c t a.from a.steps a.place a.st a.h a.walked end.Assert (a.ending asserted) tt)
        (fit_asserts c.p c.r c.routine c.depths c.given a.place a.st a.walked.here (length (along c a.from a.steps).state.slots) a.walked.words))

    -- what the run has kept
    pub kept_here : HasKept c.p.image (setting c) (frame c) c.s t
    kept_here = record {
      unset = a.walked.kept.unset;
      unstored = a.walked.kept.unstored;
      image_is = image_apart c.p c.r c.routine c.depths c.given c.s c.entry t a.walked.kept.keeps;
      outside = outside_same c.p c.routine (frame c) refl refl c.s t a.walked.kept.keeps (allotted c.p c.r c.routine c.depths c.given c.s c.entry)
          c.entry.state.core.memory a.walked.kept.state.core.memory;
    }

    anew : asserted_in (slice_get (graph c.p c.routine) a.place) ≡ true → Facts c t
    anew asserted =
        let holds = true_there asserted in
        let words = a.walked.words in
        let half = slice_index c.depths a.place / 2 in
        let even : 2 * (slice_index c.depths a.place / 2) ≡ slice_index c.depths a.place = omega (arith, words) in
        let long = some_long (slice_index c.depths a.place / 2) in
        let shallow = a.walked.shallow in
        record {
          from = Some a.place;
          steps = [];
          place = a.place;
          st = a.st;
          h = history c.s t [] [];
          inside = walks.assertion a.place refl;
          walked = record {
            here = a.walked.here;
            next = a.walked.next;
            cut = asserted;
            kept = a.walked.kept;
            entry_is = refl;
            history = record { entry_is = c.entry.state; start_is = a.walked.kept.state; calls_are = All-nil IsState; bytes = All-nil (λ byte. byte < 256) };
            words = omega (arith, even, long);
            shallow = omega (arith, even, long, shallow, words);
            pointer = λ none. let points = a.walked.pointer none in omega (arith, points, even, long, words);
            execution = assertions_begin c.p.image (setting c) (frame c) c.s t a.place kept_here pre_notes
                (subst (λ o. All (IsTrueBetween (frame c) (slice_index c.depths a.place / 2) c.s t) (asserts_in o)) (sym a.walked.here)
                (holds_closed (frame c) (slice_index c.depths a.place / 2) c.s t a.st.asserts
                (fit_asserts c.p c.r c.routine c.depths c.given a.place a.st a.walked.here (slice_index c.depths a.place / 2) even) holds));
          };
          asserted = holds;
        }

    pub settled : Facts c t
    settled = by (asserted_in (slice_get (graph c.p c.routine) a.place)) refl
      where
        by : (b : Bool) → asserted_in (slice_get (graph c.p c.routine) a.place) ≡ b → Facts c t
        by true is = anew is
        by false is = go_on is
