-- An instruction that goes on keeps what its routine doesn't list.
use Rattle.std.proofs.Common.{◌≡◌, ◌≢◌, inl, inr, ℕ, zero, suc, ◌<◌, ℤ, Bool, true, false, cond, ◌||◌, List, [], ◌∷◌, ◌++◌, Option, None, Some, slice_get, refl, sym, ap, subst, ◌∙◌, arith, append_assoc}
use Rattle.std.specs.Prelude.{All, Contains, option_to_list}
use Rattle.std.specs.List.{list_any}
use Rattle.std.proofs.lemmas.List.Elements.{All-nil, All-cons, All-append, All-weaker}
use Rattle.sp_base.specs.declared.location.Loc.{Loc}
use Rattle.sp_base.specs.Locs.{has}
use Rattle.sp_isa.specs.Core.{Core, at, cell}
use Rattle.sp_isa.specs.Effect.{effect, gives_output}
use Rattle.sp_isa.specs.Locations.{writes}
use Rattle.sp_isa.specs.Outcome.{halted_after}
use Rattle.sp_isa.specs.declared.instr.Instr.{Instr}
use Rattle.sp_isa.specs.declared.instr.Instr.TheVariants.{Out, Hlt}
use Rattle.sp_isa.proofs.LocationLemmas.{changes_only_sets}
use Rattle.sp_isa.proofs.OutcomeLemmas.{instructions_lead, other_cells_stay}
use Rattle.sp_model.specs.Good.{InArea, InAllotment}
use Rattle.sp_model.specs.Note.{shown}
use Rattle.sp_model.specs.State.{State, next_input, step, executed}
use Rattle.sp_model.specs.Unit as runs
use Rattle.sp_model.proofs.StateLemmas.{steps_execute, steps_keep_states}
use Rattle.sp_prog.specs.declared.routine.Stmt.{Stmt}
use Rattle.sp_flow.specs.declared.refusal.FlowKind.TheVariants as kind
use Rattle.sp_flow.specs.Flow.{IsListed, ports_out}
use Rattle.sp_trans.specs.Meaning.{IsInStack}
use Rattle.sp_cond.specs.Calls.{callee_of}
use Rattle.sp_cond.specs.Conclusions.{readable}
use Rattle.sp_cond.specs.Start.{is_set, has_store, is_store, callee_sets, callee_stores}
use Rattle.sp_safety.specs.Calls.{On, way_of}
use Rattle.sp_safety.proofs.AccessLemmas.{accessed_at, apart_stores, unseen_stores, touched}
use Rattle.sp_safety.proofs.AreaLemmas.{LiesIn, in_model, listed_apart, stable_has}
use Rattle.sp_safety.proofs.AskLemmas.{i, here_at, next_is, accessed_in, written_in, touched_allotted}
use Rattle.sp_safety.proofs.FactsLemmas.{Run, Facts, Kept, unit, model, frame, setting}
use Rattle.sp_safety.proofs.FetchLemmas.{allotted}

either_false : (a b : Bool) → (a || b) ≡ false → (a ≡ false) × (b ≡ false)
either_false false b h = (refl, h)
either_false true b h = absurd cc

-- none of a list passes a test that no element passes
pub any_false : {A : Type 0} (f : A → Bool) (xs : List A) (k : ℕ) (x : A) → slice_get xs k ≡ Some x → list_any f xs ≡ false → f x ≡ false
any_false f [] k x e h = cc
any_false f (y ∷ xs) zero x e h = let same : y ≡ x = cc in ap f (sym same) ∙ (either_false (f y) (list_any f xs) h).0
any_false f (y ∷ xs) (suc k) x e h = any_false f xs k x e (either_false (f y) (list_any f xs) h).1

still_running : (i : Instr) (core : Core) → way_of i core ≡ On → halted_after i core ≡ core.halted
still_running Hlt core on = cc
still_running i core on = refl

puts : (i : Instr) (core : Core) (o : ℕ × ℕ) → gives_output i core ≡ Some o → Contains (ports_out i) o.0
puts (Out port) core o e = let same : (port, core.a) ≡ o = cc in (0, omega arith, ap (λ (q : ℕ × ℕ). q.0) same)
puts i core o e = cc

all_option : (Q : ℕ × ℕ → Type 0) (o : Option (ℕ × ℕ)) → ((q : ℕ × ℕ) → o ≡ Some q → Q q) → All Q (option_to_list o)
all_option Q None h = All-nil Q
all_option Q (Some q) h = All-cons Q q [] (h q refl) (All-nil Q)

module _ (c : Run) (t : State) (h : Facts c t) (on : way_of h.st.instr t.core ≡ On) where
  abbrev instr : Instr
  instr = h.st.instr

  pub now : step t ≡ executed instr t
  now = steps_execute t instr _ h.walked.kept.running (next_is c t h)

  -- no changed cell is written that the routine doesn't list
  memory_kept : (a : ℕ) → a < 65536 → ((area : runs.Area) → Contains (model c).changes.areas area → ¬ InArea a area) → ¬ InAllotment (unit c) (model c) c.s a → cell a (effect (next_input t) instr t.core) ≡ cell a t.core
  memory_kept a low out apart =
      let listed = λ (l : IsListed c.p c.routine.changes a). let area = in_model c.p c.routine.changes a l in out area.0 area.1 area.2 in
      other_cells_stay (next_input t) instr t.core a
      (apart_stores t.core a low instr h.walked.kept.state.core on
      (λ is stored e. listed (subst (λ w. LiesIn c.p.areas w c.routine.changes.areas) (sym e)
      (subst (λ b. LiesIn c.p.areas (accessed_at instr t.core) (cond b c.routine.changes.areas (readable c.routine.reads c.routine.changes))) stored (accessed_in c t h is))))
      (λ w there. ((listed_apart c.p c.given.unit c.routine.changes w (written_in c t h w there)).0, (λ e. listed (subst (IsListed c.p c.routine.changes) (sym e) (written_in c t h w there)))))
      (All-weaker (InAllotment (unit c) (model c) c.s) (λ w. a ≢ w) (λ w inside e. apart (subst (InAllotment (unit c) (model c) c.s) (sym e) inside)) (touched instr t.core) (touched_allotted c t h)))

  out_port : (o : ℕ × ℕ) → gives_output instr t.core ≡ Some o → Contains c.routine.outs o.0
  out_port o e =
      stable_has c.routine.outs o.0 (λ other. c.given.flow h.st.line.0 (kind.Port o.0) (c.r, h.place, c.routine, h.st, here_at c t h, refl, inr (inl (puts instr t.core o e), other)))

  unset_kept : (x : Loc) → is_set (setting c) x ≡ false → at x (effect (next_input t) instr t.core) ≡ at x t.core
  unset_kept x free =
      let none = any_false (λ (s : Stmt). has x (writes s.instr) || callee_sets x (callee_of c.p.routines s.instr)) c.routine.code h.place h.st h.walked.here free in
      changes_only_sets (next_input t) instr t.core x (either_false (has x (writes instr)) (callee_sets x (callee_of c.p.routines instr)) none).0

  unstored_kept : has_store (setting c) ≡ false → (z : ℤ) → shown (frame c) (effect (next_input t) instr t.core).cells z ≡ shown (frame c) t.core.cells z
  unstored_kept free z =
      let none = any_false (λ (s : Stmt). is_store s.instr || callee_stores (callee_of c.p.routines s.instr)) c.routine.code h.place h.st h.walked.here free in
      ap (λ cells. shown (frame c) cells z) (instructions_lead (next_input t) instr t.core).cells
      ∙ unseen_stores (frame c) t.core z instr on (either_false (is_store instr) (callee_stores (callee_of c.p.routines instr)) none).0
      (All-weaker (InAllotment (unit c) (model c) c.s) (IsInStack (frame c)) (λ w inside. allotted c.p c.r c.routine c.depths c.given c.s c.entry w inside) (touched instr t.core) (touched_allotted c t h))

  -- the step keeps
  pub step_kept : Kept c (step t)
  step_kept =
      let keeps = h.walked.kept.keeps in
      record {
        state = steps_keep_states t h.walked.kept.state;
        running = ap (λ (s : State). s.core.halted) now ∙ (instructions_lead (next_input t) instr t.core).halted ∙ still_running instr t.core on ∙ h.walked.kept.running;
        keeps = record {
          memory = λ a low out apart. ap (λ (s : State). cell a s.core) now ∙ memory_kept a low out apart ∙ keeps.memory a low out apart;
          outputs = (
            keeps.outputs.0 ++ option_to_list (gives_output instr t.core),
            ap (λ (s : State). s.outputs) now ∙ ap (λ o. o ++ option_to_list (gives_output instr t.core)) keeps.outputs.1 ∙ append_assoc c.s.outputs keeps.outputs.0 (option_to_list (gives_output instr t.core)),
            All-append (λ o. Contains c.routine.outs o.0) keeps.outputs.0 (option_to_list (gives_output instr t.core)) keeps.outputs.2
                (all_option (λ o. Contains c.routine.outs o.0) (gives_output instr t.core) out_port),
          );
        };
        unset = λ x free. ap (λ (s : State). at x s.core) now ∙ unset_kept x free ∙ h.walked.kept.unset x free;
        unstored = λ free z. ap (λ (s : State). shown (frame c) s.core.cells z) now ∙ unstored_kept free z ∙ h.walked.kept.unstored free z;
      }
