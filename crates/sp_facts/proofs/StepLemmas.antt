-- A step of an instruction that calls nothing is a step of the execution.
use Rattle.std.proofs.Common.{◌≡◌, ℕ, ◌+◌, ◌<◌, Bool, true, false, ◌==◌, List, [], ◌∷◌, ◌++◌, length, slice_get, Option, Some, None, refl, ap, ◌∙◌, pos, ℤ, arith, length-append}
use Rattle.std.proofs.lemmas.Int.{ints}
use Rattle.std.specs.List.{AllByRecursion}
use Rattle.std.specs.Ordering.{int_eq}
use Rattle.std.proofs.lemmas.Bool.Decides.{nat_tests}
use Rattle.sp_isa.specs.declared.instr.Cond.{Cond}
use Rattle.sp_isa.specs.declared.instr.Cond.TheVariants as when
use Rattle.sp_isa.specs.declared.instr.Instr.{Instr}
use Rattle.sp_isa.specs.declared.instr.Instr.TheVariants.{In}
use Rattle.sp_base.specs.declared.location.Loc.TheVariants as loc
use Rattle.sp_isa.specs.Core.{Core, IsCore, at}
use Rattle.sp_isa.specs.Stack.{holds}
use Rattle.sp_model.specs.Note.{Frame}
use Rattle.sp_model.specs.State.{State, next_input}
use Rattle.sp_term.specs.declared.var.Var.TheVariants as var
use Rattle.sp_term.specs.Tree.{Tree}
use Rattle.sp_term.specs.Value.{Env, IsTrueIn, int_of}
use Rattle.sp_trans.specs.Meaning.{IsValueOf, IsIn}
use Rattle.sp_trans.specs.Symbolic.{Symbolic, term_at}
use Rattle.sp_trans.proofs.StepLemmas.{steps_are_translated}
use Rattle.sp_trans.proofs.ClosedLemmas.{states_stay_symbolic}
use Rattle.sp_cond.specs.Execution.{condition_in, flag_of, flag_value, choice, choice_by, bytes_taken}
use Rattle.sp_facts.specs.Executions.{IsChoiceBy, bytes_of}
use Rattle.sp_facts.specs.Histories.{History, Agrees, with_bytes}
use Rattle.sp_facts.specs.Theorems.{StepsGoOn}
use Rattle.sp_facts.proofs.EnvironmentLemmas.{fewer_bytes}

-- ---- Choices

is_zero : (n : ℕ) → (n == 0) ≡ true → n ≡ 0
is_zero n h = grind (arith, nat_tests)

not_zero : (n : ℕ) → n < 2 → (n == 0) ≡ false → n ≡ 1
not_zero n lt h = grind (arith, nat_tests)

is_one : (n : ℕ) → (n == 1) ≡ true → n ≡ 1
is_one n h = grind (arith, nat_tests)

not_one : (n : ℕ) → n < 2 → (n == 1) ≡ false → n ≡ 0
not_one n lt h = grind (arith, nat_tests)

-- the flag has what the choice says
flag_is : (w : Cond) (taken : Bool) (core : Core) → IsCore core → holds w core ≡ taken → at (flag_of w) core ≡ flag_value w taken
flag_is when.Nz true core h e = is_zero core.z e
flag_is when.Nz false core h e = not_zero core.z (h.locations loc.Z) e
flag_is when.Z true core h e = is_one core.z e
flag_is when.Z false core h e = not_one core.z (h.locations loc.Z) e
flag_is when.Nc true core h e = is_zero core.cy e
flag_is when.Nc false core h e = not_zero core.cy (h.locations loc.Cy) e
flag_is when.C true core h e = is_one core.cy e
flag_is when.C false core h e = not_one core.cy (h.locations loc.Cy) e
flag_is when.Po true core h e = is_zero core.p e
flag_is when.Po false core h e = not_zero core.p (h.locations loc.P) e
flag_is when.Pe true core h e = is_one core.p e
flag_is when.Pe false core h e = not_one core.p (h.locations loc.P) e
flag_is when.P true core h e = is_zero core.s e
flag_is when.P false core h e = not_zero core.s (h.locations loc.S) e
flag_is when.M true core h e = is_one core.s e
flag_is when.M false core h e = not_one core.s (h.locations loc.S) e

equal_ints : (z : ℤ) (n : ℕ) → z ≡ pos n → int_eq z (pos n) ≡ true
equal_ints z n e = ap (λ y. int_eq y (pos n)) e ∙ same n
  where
    same : (m : ℕ) → int_eq (pos m) (pos m) ≡ true
    same m = grind (arith, ints, nat_tests)

-- the choice that the flags make is true
pub choice_true : (f : Frame) (e : Env) (g : Symbolic) (core : Core) → IsCore core → IsValueOf f e g core → (o : Option Cond) (taken : Bool) → IsChoiceBy o taken core → AllByRecursion (IsTrueIn e) (choice_by o taken g)
choice_true f e g core h value None taken is = tt
choice_true f e g core h value (Some w) taken is = (
  equal_ints (int_of e (term_at (flag_of w) g)) (flag_value w taken) ((value.locations (flag_of w)).is ∙ ap pos (flag_is w taken core h is)),
  tt,
)

-- ---- Steps

pub all_both : (P : Tree → Type 0) (xs ys : List Tree) → AllByRecursion P xs → AllByRecursion P ys → AllByRecursion P (xs ++ ys)
all_both P [] ys h k = k
all_both P (x ∷ xs) ys h k = (h.0, all_both P xs ys h.1 k)

bytes_long : (i : Instr) (s : State) → length (bytes_of i s) ≡ bytes_taken i
bytes_long (In port) s = refl
bytes_long _ s = refl

last_at : (xs : List ℕ) (x : ℕ) → slice_get (xs ++ x ∷ []) (length xs) ≡ Some x
last_at [] x = refl
last_at (y ∷ xs) x = last_at xs x

-- the variable of an IN is the byte that it takes
taken_is : (f : Frame) (h : History) (s : State) (e : Env) (i : Instr) (count : ℕ) → count ≡ length h.taken → Agrees f (with_bytes (bytes_of i s) h) e → IsIn i → e.int (var.In (count + 1)) ≡ pos (next_input s)
taken_is f h s e (In port) count same k is = ap (λ n. e.int (var.In (n + 1))) same ∙ k.inputs (length h.taken) (next_input s) (last_at h.taken (next_input s))
taken_is f h s e _ count same k is = absurd is

pub steps_go_on : StepsGoOn
steps_go_on image f h s x i n taken state running next asks is ex = record {
  counted =
      let more = length-append h.taken (bytes_of i s) in
      let long = bytes_long i s in
      let same = ex.counted in
      omega (arith, more, long, same);
  called = ex.called;
  symbolic = states_stay_symbolic i (x.inputs + 1) x.state (λ isin. omega arith) ex.symbolic;
  value = λ e k.
      let shorter = fewer_bytes f h (bytes_of i s) e k in
      steps_are_translated f e x.state s i n (x.inputs + 1) state running next asks (taken_is f h s e i x.inputs ex.counted k) (ex.value e shorter);
  hypotheses = λ e k.
      let shorter = fewer_bytes f h (bytes_of i s) e k in
      all_both (IsTrueIn e) x.hypotheses (choice i taken x.state) (ex.hypotheses e shorter) (choice_true f e x.state s.core state.core (ex.value e shorter) (condition_in i) taken is);
  changed = λ e k. ex.changed e (fewer_bytes f h (bytes_of i s) e k);
}
