-- A whole call is a step of the execution.
use Rattle.std.proofs.Common.{◌≡◌, ℕ, ◌+◌, ◌≤◌, Bool, true, false, cond, List, [], ◌∷◌, ◌++◌, length, map, Some, refl, sym, ap, subst, ◌∙◌, pos, ℤ, arith, length-append, slice_get}
use Rattle.std.specs.List.{AllByRecursion}
use Rattle.std.proofs.lemmas.List.Elements.{All-nil}
use Rattle.sp_base.specs.declared.location.Loc.{Loc}
use Rattle.sp_base.specs.declared.location.Loc.TheVariants as loc
use Rattle.sp_base.specs.Image.{ImageMap}
use Rattle.sp_base.specs.Locs.{has}
use Rattle.sp_isa.specs.Core.{at}
use Rattle.sp_model.specs.Note.{Frame, shown}
use Rattle.sp_model.specs.State.{State}
use Rattle.sp_prog.specs.declared.routine.Routine.{Routine}
use Rattle.sp_term.specs.declared.var.Var.TheVariants as var
use Rattle.sp_prog.specs.View.{listed_areas}
use Rattle.sp_term.specs.Admissible.{Change, IsOutside, MeetsChange}
use Rattle.sp_term.specs.Sorts.{Int, Memory}
use Rattle.sp_term.specs.Tree.{Tree, Variable}
use Rattle.sp_term.specs.Value.{Env, IsTrueIn, map_of}
use Rattle.sp_trans.specs.ClosedTerms.{IsClosedTerm, IsSymbolic}
use Rattle.sp_trans.specs.Meaning.{Gives, AreWords, IsValueOf}
use Rattle.sp_trans.specs.Symbolic.{Word, Symbolic, term_at}
use Rattle.sp_cond.specs.Calls.{after_call, memory_after}
use Rattle.sp_cond.specs.Execution.{call_change, span, choice, condition_in, formulas_of}
use Rattle.sp_cond.specs.Start.{Setting}
use Rattle.sp_facts.specs.Histories.{Agrees, IsSnapshot, with_call}
use Rattle.sp_facts.specs.Theorems.{HasLeft, CallsGoOn}
use Rattle.sp_facts.proofs.AdmissibleLemmas.{shows_image}
use Rattle.sp_facts.proofs.BetweenLemmas.{between_true}
use Rattle.sp_facts.proofs.EnvironmentLemmas.{fewer_calls}
use Rattle.sp_facts.proofs.StepLemmas.{choice_true}

-- ---- The state after a call is symbolic

closed_if : (b : Bool) (x : Loc) (n : ℕ) (t : Tree) → IsClosedTerm Int t → IsClosedTerm Int (cond b (Variable (var.After x (n + 1))) t)
closed_if true x n t h = record { sort = (refl, omega arith); closed = λ k. refl }
closed_if false x n t h = h

closed_after : (places : List ℕ) (n : ℕ) (t : Tree) → IsClosedTerm Memory t → IsClosedTerm Memory (memory_after places (n + 1) t)
closed_after [] n t h = h
closed_after (p ∷ places) n t h = record { sort = (refl, omega arith); closed = λ k. refl }

module _ (q : Routine) (n : ℕ) (g : Symbolic) (h : IsSymbolic g) where
  closed_at : (x : Loc) → IsClosedTerm Int (term_at x (after_call q (n + 1) g))
  closed_at loc.A = closed_if (has loc.A q.changes.locs) loc.A n g.a (h.locations loc.A)
  closed_at loc.B = closed_if (has loc.B q.changes.locs) loc.B n g.b (h.locations loc.B)
  closed_at loc.C = closed_if (has loc.C q.changes.locs) loc.C n g.c (h.locations loc.C)
  closed_at loc.D = closed_if (has loc.D q.changes.locs) loc.D n g.d (h.locations loc.D)
  closed_at loc.E = closed_if (has loc.E q.changes.locs) loc.E n g.e (h.locations loc.E)
  closed_at loc.H = closed_if (has loc.H q.changes.locs) loc.H n g.h (h.locations loc.H)
  closed_at loc.L = closed_if (has loc.L q.changes.locs) loc.L n g.l (h.locations loc.L)
  closed_at loc.S = closed_if (has loc.S q.changes.locs) loc.S n g.s (h.locations loc.S)
  closed_at loc.Z = closed_if (has loc.Z q.changes.locs) loc.Z n g.z (h.locations loc.Z)
  closed_at loc.Ac = closed_if (has loc.Ac q.changes.locs) loc.Ac n g.ac (h.locations loc.Ac)
  closed_at loc.P = closed_if (has loc.P q.changes.locs) loc.P n g.p (h.locations loc.P)
  closed_at loc.Cy = closed_if (has loc.Cy q.changes.locs) loc.Cy n g.cy (h.locations loc.Cy)

  after_symbolic : IsSymbolic (after_call q (n + 1) g)
  after_symbolic = record { locations = closed_at; memory = closed_after q.changes.areas n g.memory h.memory; slots = h.slots }

-- ---- Its value

module _ (image : ImageMap) (u : Setting) (f : Frame) (q : Routine) (s t : State) (g : Symbolic) (left : HasLeft image u f q (length g.slots) s t) (e : Env) (j : ℕ)
    (value : IsValueOf f e g s.core) (now : IsSnapshot f e (λ x. var.After x j) (var.MemAfter j) t) where
  given_if : (b : Bool) (x : Loc) (term : Tree) → has x q.changes.locs ≡ b → Gives e term (at x s.core) → Gives e (cond b (Variable (var.After x j)) term) (at x t.core)
  given_if true x term is h = record { is = now.locations x }
  given_if false x term is h = record { is = h.is ∙ ap pos (sym (left.unlisted x is)) }

  given : (x : Loc) → Gives e (term_at x (after_call q j g)) (at x t.core)
  given loc.A = given_if (has loc.A q.changes.locs) loc.A g.a refl (value.locations loc.A)
  given loc.B = given_if (has loc.B q.changes.locs) loc.B g.b refl (value.locations loc.B)
  given loc.C = given_if (has loc.C q.changes.locs) loc.C g.c refl (value.locations loc.C)
  given loc.D = given_if (has loc.D q.changes.locs) loc.D g.d refl (value.locations loc.D)
  given loc.E = given_if (has loc.E q.changes.locs) loc.E g.e refl (value.locations loc.E)
  given loc.H = given_if (has loc.H q.changes.locs) loc.H g.h refl (value.locations loc.H)
  given loc.L = given_if (has loc.L q.changes.locs) loc.L g.l refl (value.locations loc.L)
  given loc.S = given_if (has loc.S q.changes.locs) loc.S g.s refl (value.locations loc.S)
  given loc.Z = given_if (has loc.Z q.changes.locs) loc.Z g.z refl (value.locations loc.Z)
  given loc.Ac = given_if (has loc.Ac q.changes.locs) loc.Ac g.ac refl (value.locations loc.Ac)
  given loc.P = given_if (has loc.P q.changes.locs) loc.P g.p refl (value.locations loc.P)
  given loc.Cy = given_if (has loc.Cy q.changes.locs) loc.Cy g.cy refl (value.locations loc.Cy)

  memory_given : (places : List ℕ) → q.changes.areas ≡ places → (z : ℤ) → map_of e (memory_after places j g.memory) z ≡ shown f t.core.cells z
  memory_given [] is z = value.memory z ∙ sym (left.outside z (subst (λ l. IsOutside z (map span (listed_areas u.unit.areas l))) (sym is) (All-nil _)))
  memory_given (p ∷ places) is z = now.memory z

  words_kept : (ws : List Word) → length ws ≤ length g.slots → AreWords f e ws s.core.cells → AreWords f e ws t.core.cells
  words_kept [] le h = tt
  words_kept (w ∷ ws) le h =
      let same = left.kept (length ws + 1) (omega arith) (omega (arith, le)) in (
        record { low = record { is = h.0.low.is ∙ ap pos (sym same.0) }; high = record { is = h.0.high.is ∙ ap pos (sym same.1) } },
        words_kept ws (omega (arith, le)) h.1,
      )

  after_value : IsValueOf f e (after_call q j g) t.core
  after_value = record { locations = given; memory = memory_given q.changes.areas refl; slots = words_kept g.slots (omega arith) value.slots }

  call_meets : (places : List ℕ) → q.changes.areas ≡ places → AllByRecursion (MeetsChange image e) (call_change u.unit.areas places j g.memory)
  call_meets [] is = tt
  call_meets (p ∷ places) is = (
    record {
      loaded = λ a byte there. now.memory (pos a) ∙ shows_image image f t left.image_is a byte there;
      same = λ z out. now.memory z ∙ left.outside z (subst (λ l. IsOutside z (map span (listed_areas u.unit.areas l))) (sym is) out) ∙ sym (value.memory z);
    },
    tt,
  )

both_trees : (P : Tree → Type 0) (xs ys : List Tree) → AllByRecursion P xs → AllByRecursion P ys → AllByRecursion P (xs ++ ys)
both_trees P [] ys h k = k
both_trees P (x ∷ xs) ys h k = (h.0, both_trees P xs ys h.1 k)

both_changes : (P : Change → Type 0) (xs ys : List Change) → AllByRecursion P xs → AllByRecursion P ys → AllByRecursion P (xs ++ ys)
both_changes P [] ys h k = k
both_changes P (x ∷ xs) ys h k = (h.0, both_changes P xs ys h.1 k)

last_at : (xs : List State) (x : State) → slice_get (xs ++ x ∷ []) (length xs) ≡ Some x
last_at [] x = refl
last_at (y ∷ xs) x = last_at xs x

pub calls_go_on : CallsGoOn
calls_go_on image u f h s t x i taken place q state is left post ex = record {
  counted = ex.counted;
  called = let more = length-append h.calls (t ∷ []) in let same = ex.called in omega (arith, more, same);
  symbolic = after_symbolic q (length x.calls) x.state ex.symbolic;
  value = λ e k. after_value image u f q s t x.state left e (length x.calls + 1) (ex.value e (fewer_calls f h t e k)) (snapshot e k);
  hypotheses = λ e k.
      let before = ex.value e (fewer_calls f h t e k) in
      both_trees (IsTrueIn e) (x.hypotheses ++ choice i taken x.state) (formulas_of x.state (after_call q (length x.calls + 1) x.state) q.post)
      (both_trees (IsTrueIn e) x.hypotheses (choice i taken x.state) (ex.hypotheses e (fewer_calls f h t e k)) (choice_true f e x.state s.core state.core before (condition_in i) taken is))
      (between_true f e x.state (after_call q (length x.calls + 1) x.state) s t ex.symbolic (after_symbolic q (length x.calls) x.state ex.symbolic) before
      (after_value image u f q s t x.state left e (length x.calls + 1) before (snapshot e k)) q.post post);
  changed = λ e k.
      both_changes (MeetsChange image e) x.changes (call_change u.unit.areas q.changes.areas (length x.calls + 1) x.state.memory) (ex.changed e (fewer_calls f h t e k))
      (call_meets image u f q s t x.state left e (length x.calls + 1) (ex.value e (fewer_calls f h t e k)) (snapshot e k) q.changes.areas refl);
}
  where
    snapshot : (e : Env) → Agrees f (with_call t h) e → IsSnapshot f e (λ y. var.After y (length x.calls + 1)) (var.MemAfter (length x.calls + 1)) t
    snapshot e k = subst (λ n. IsSnapshot f e (λ y. var.After y (n + 1)) (var.MemAfter (n + 1)) t) (sym ex.called) (k.after_call (length h.calls) t (last_at h.calls t))
