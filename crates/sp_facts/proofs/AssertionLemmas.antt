-- At an asserted instruction whose assertions are true the empty walk from there begins.
use Rattle.std.proofs.Common.{◌≡◌, ℕ, zero, suc, ◌≤◌, ◌+◌, ◌/◌, ◌%◌, Bool, true, false, List, [], ◌∷◌, ◌++◌, length, All, Some, refl, sym, ap, subst, ◌∙◌, pos, ℤ, arith, cond}
use Rattle.std.specs.Prelude.{slice_index}
use Rattle.std.specs.List.{AllByRecursion}
use Rattle.std.proofs.lemmas.List.Elements.{All-nil, All-cons}
use Rattle.sp_base.specs.declared.location.Loc.{Loc}
use Rattle.sp_base.specs.declared.location.Loc.TheVariants as loc
use Rattle.sp_base.specs.Image.{ImageMap}
use Rattle.sp_isa.specs.Core.{at}
use Rattle.sp_model.specs.Note.{Frame, shown, stack_address}
use Rattle.sp_model.specs.State.{State}
use Rattle.sp_term.specs.declared.var.Var.TheVariants as var
use Rattle.sp_term.specs.Admissible.{MeetsChange}
use Rattle.sp_term.specs.Sorts.{Int, Memory}
use Rattle.sp_term.specs.Tree.{Tree, Variable}
use Rattle.sp_term.specs.Value.{Env, IsTrueIn, map_of}
use Rattle.sp_trans.specs.ClosedTerms.{IsClosedTerm, IsClosedWord, IsSymbolic}
use Rattle.sp_trans.specs.Meaning.{Gives, AreWords, IsValueOf}
use Rattle.sp_trans.specs.Symbolic.{Symbolic, term_at}
use Rattle.sp_cond.specs.Execution.{change, formulas_of, start_asserts}
use Rattle.sp_cond.specs.Start.{Setting, is_set, has_store, start_var, start_memory, start_state, fresh_words, entry_state}
use Rattle.sp_facts.specs.Histories.{history, Agrees}
use Rattle.sp_facts.specs.Theorems.{HasKept, IsTrueBetween, AssertionsBegin}
use Rattle.sp_facts.proofs.AdmissibleLemmas.{shows_image}
use Rattle.sp_facts.proofs.BetweenLemmas.{between_true}
use Rattle.sp_facts.proofs.EntryLemmas.{entry_symbolic, entry_value, pre_true}

closed_var : (b : Bool) (x : Loc) → IsClosedTerm Int (Variable (start_var b x))
closed_var true x = record { sort = (refl, tt); closed = λ k. refl }
closed_var false x = record { sort = (refl, tt); closed = λ k. refl }

closed_memory : (b : Bool) → IsClosedTerm Memory (Variable (start_memory b))
closed_memory true = record { sort = (refl, tt); closed = λ k. refl }
closed_memory false = record { sort = (refl, tt); closed = λ k. refl }

some : (k : ℕ) → 1 ≤ suc k
some k = omega arith

closed_words : (k : ℕ) → All IsClosedWord (fresh_words k)
unfolding fresh_words
closed_words zero = All-nil IsClosedWord
closed_words (suc k) =
    All-cons IsClosedWord (record { high = Variable (var.SlotHigh (suc k)); low = Variable (var.SlotLow (suc k)) }) (fresh_words k)
    (record { high = record { sort = (refl, some k); closed = λ j. refl }; low = record { sort = (refl, some k); closed = λ j. refl } }) (closed_words k)

long : (k : ℕ) → length (fresh_words k) ≡ k
unfolding fresh_words
long zero = refl
long (suc k) = ap suc (long k)

module _ (u : Setting) (place : ℕ) where
  abbrev begins : Symbolic
  begins = start_state u (Some place)

  closed_at : (x : Loc) → IsClosedTerm Int (term_at x begins)
  closed_at loc.A = closed_var (is_set u loc.A) loc.A
  closed_at loc.B = closed_var (is_set u loc.B) loc.B
  closed_at loc.C = closed_var (is_set u loc.C) loc.C
  closed_at loc.D = closed_var (is_set u loc.D) loc.D
  closed_at loc.E = closed_var (is_set u loc.E) loc.E
  closed_at loc.H = closed_var (is_set u loc.H) loc.H
  closed_at loc.L = closed_var (is_set u loc.L) loc.L
  closed_at loc.S = closed_var (is_set u loc.S) loc.S
  closed_at loc.Z = closed_var (is_set u loc.Z) loc.Z
  closed_at loc.Ac = closed_var (is_set u loc.Ac) loc.Ac
  closed_at loc.P = closed_var (is_set u loc.P) loc.P
  closed_at loc.Cy = closed_var (is_set u loc.Cy) loc.Cy

  pub start_symbolic : IsSymbolic begins
  start_symbolic = record { locations = closed_at; memory = closed_memory (has_store u); slots = closed_words (slice_index u.depths place / 2) }

  module _ (image : ImageMap) (f : Frame) (s t : State) (kept : HasKept image u f s t) (e : Env) (k : Agrees f (history s t [] []) e) where
    var_given : (b : Bool) (x : Loc) → is_set u x ≡ b → Gives e (Variable (start_var b x)) (at x t.core)
    var_given true x is = record { is = k.at_start.locations x }
    var_given false x is = record { is = k.at_entry.locations x ∙ ap pos (sym (kept.unset x is)) }

    given : (x : Loc) → Gives e (term_at x begins) (at x t.core)
    given loc.A = var_given (is_set u loc.A) loc.A refl
    given loc.B = var_given (is_set u loc.B) loc.B refl
    given loc.C = var_given (is_set u loc.C) loc.C refl
    given loc.D = var_given (is_set u loc.D) loc.D refl
    given loc.E = var_given (is_set u loc.E) loc.E refl
    given loc.H = var_given (is_set u loc.H) loc.H refl
    given loc.L = var_given (is_set u loc.L) loc.L refl
    given loc.S = var_given (is_set u loc.S) loc.S refl
    given loc.Z = var_given (is_set u loc.Z) loc.Z refl
    given loc.Ac = var_given (is_set u loc.Ac) loc.Ac refl
    given loc.P = var_given (is_set u loc.P) loc.P refl
    given loc.Cy = var_given (is_set u loc.Cy) loc.Cy refl

    memory_given : (b : Bool) → has_store u ≡ b → (z : ℤ) → map_of e (Variable (start_memory b)) z ≡ shown f t.core.cells z
    memory_given true is z = k.at_start.memory z
    memory_given false is z = k.at_entry.memory z ∙ sym (kept.unstored is z)

    words_given : (n : ℕ) → AreWords f e (fresh_words n) t.core.cells
    unfolding fresh_words
    words_given zero = tt
    words_given (suc n) =
        let count = long n in
        let same : suc n ≡ length (fresh_words n) + 1 = omega (arith, count) in (
          record {
            low = record { is = k.slot_low (suc n) ∙ ap (λ m. pos (slice_index t.core.cells (stack_address f m % 65536))) same };
            high = record { is = k.slot_high (suc n) ∙ ap (λ m. pos (slice_index t.core.cells ((stack_address f m + 1) % 65536))) same };
          },
          words_given n,
        )

    pub start_value : IsValueOf f e begins t.core
    start_value = record { locations = given; memory = memory_given (has_store u) refl; slots = words_given (slice_index u.depths place / 2) }

    start_meets : (b : Bool) → AllByRecursion (MeetsChange image e) (cond b (change u.unit.areas var.Mem (Variable var.MemEntry) u.routine.changes.areas ∷ []) [])
    start_meets true = (
      record {
        loaded = λ a byte there. k.at_start.memory (pos a) ∙ shows_image image f t kept.image_is a byte there;
        same = λ z out. k.at_start.memory z ∙ kept.outside z out ∙ sym (k.at_entry.memory z);
      },
      tt,
    )
    start_meets false = tt

all_both : (P : Tree → Type 0) (xs ys : List Tree) → AllByRecursion P xs → AllByRecursion P ys → AllByRecursion P (xs ++ ys)
all_both P [] ys h k = k
all_both P (x ∷ xs) ys h k = (h.0, all_both P xs ys h.1 k)

pub assertions_begin : AssertionsBegin
assertions_begin image u f s t place kept pre asserts = record {
  counted = refl;
  called = refl;
  symbolic = start_symbolic u place;
  value = λ e k. start_value u place image f s t kept e k;
  hypotheses = λ e k.
      let words = slice_index u.depths place / 2 in
      let entry = entry_value f (history s t [] []) e k in
      all_both (IsTrueIn e) (formulas_of entry_state entry_state u.routine.pre) (formulas_of entry_state (start_state u (Some place)) (start_asserts u (Some place)))
      (pre_true f s e entry u.routine.pre pre)
      (between_true f e entry_state (start_state u (Some place)) s t entry_symbolic (start_symbolic u place) entry (start_value u place image f s t kept e k) (start_asserts u (Some place))
      (subst (λ n. All (IsTrueBetween f n s t) (start_asserts u (Some place))) (sym (long (slice_index u.depths place / 2))) asserts));
  changed = λ e k. start_meets u place image f s t kept e k (has_store u);
}
