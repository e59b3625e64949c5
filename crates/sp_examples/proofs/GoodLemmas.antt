-- What is claimed of a state, from the instruction that it fetches.
use Rattle.std.proofs.Common.{◌≡◌, ◌≢◌, ℕ, zero, suc, ◌+◌, ◌%◌, ◌<◌, true, false, List, [], ◌∷◌, refl, sym, ap, subst, ◌∙◌, arith, Some, None}
use Rattle.std.specs.Prelude.{All, Contains, is_some, ⊤}
use Rattle.std.proofs.lemmas.List.Elements.{All-nil}
use Rattle.sp_base.specs.declared.location.Loc.{Loc}
use Rattle.sp_isa.specs.declared.instr.Instr.{Instr}
use Rattle.sp_isa.specs.declared.instr.Instr.TheVariants.{Ret}
use Rattle.sp_isa.specs.Core.{Core, IsCore, at, cell, word, with_sp, with_pc}
use Rattle.sp_isa.specs.Stack.{ret}
use Rattle.sp_isa.specs.Effect.{effect, takes_input, returns}
use Rattle.sp_model.specs.Note.{Note, Holds}
use Rattle.sp_model.specs.State.{State, IsState, next_instr, step}
use Rattle.sp_model.specs.Unit.{Stmt, Routine, Unit}
use Rattle.sp_model.specs.Good.{Keeps, base, frame_of, IsGoodAt, IsInCode, IsReturnStep, HasReturned}
use Rattle.sp_examples.proofs.RunLemmas.{step_quiet}
use Rattle.sp_examples.proofs.KeepsLemmas.{keeps_still}

pub same_some : {A : Type 0} (x y : A) → Some x ≡ Some y → x ≡ y
same_some x y h = cc

-- an annotation of the routine is true at t, for the run that began at s
abbrev pub Says : Unit → Routine → State → State → Note → Type 0
Says u r s t note = Holds (frame_of u r s) note s t

-- the assertions at an address are true
abbrev pub AssertsHold : Unit → Routine → State → State → Type 0
AssertsHold u r s t = (i : Stmt) → Contains r.code i → i.address ≡ t.core.pc → All (Says u r s t) i.asserts

-- a routine without assertions
abbrev pub HasNoAsserts : List Stmt → Type 0
HasNoAsserts [] = ⊤
HasNoAsserts (i ∷ is) = (i.asserts ≡ []) × HasNoAsserts is

no_asserts : (is : List Stmt) → HasNoAsserts is → (i : Stmt) → Contains is i → i.asserts ≡ []
no_asserts [] h i (k, less, is) = absurd (omega arith)
no_asserts (j ∷ js) h i (zero, less, is) = subst (λ (x : Stmt). x.asserts ≡ []) is h.0
no_asserts (j ∷ js) h i (suc k, less, is) = no_asserts js h.1 i (k, omega arith, is)

pub unasserted : (u : Unit) (r : Routine) (s t : State) → HasNoAsserts r.code → AssertsHold u r s t
unasserted u r s t h i there is = subst (λ notes. All (Says u r s t) notes) (sym (no_asserts r.code h i there)) (All-nil (Says u r s t))

no_return : true ≡ false → ⊥
no_return h = cc

pub not_return : (u : Unit) (r : Routine) (s t : State) (i : Instr) (n : ℕ) → next_instr t.core ≡ Some (i, n) → returns i t.core ≡ false → IsReturnStep u r s t → ⊥
not_return u r s t i n is stays h = no_return (sym (ap (λ (x : Instr × ℕ). returns x.0 t.core) (same_some (i, n) h.returns.0 (sym is ∙ h.returns.1)) ∙ h.returns.2) ∙ stays)

-- a state whose next instruction doesn't return
pub good_step : (u : Unit) (r : Routine) (s t : State) (i : Instr) (n : ℕ) → next_instr t.core ≡ Some (i, n) → Keeps u r s t → IsInCode u t.core → AssertsHold u r s t → ((port : ℕ) → takes_input i ≡ Some port → Contains r.ins port) → returns i t.core ≡ false → IsGoodAt u r s t
good_step u r s t i n is keeps in_code asserts ins stays = record {
  keeps = keeps;
  in_code = in_code;
  not_stuck = λ running. ap is_some is;
  asserts = asserts;
  inputs = λ running j fetched port takes. ins port (ap (λ (x : Instr × ℕ). takes_input x.0) (same_some (i, n) j (sym is ∙ fetched)) ∙ takes);
  returned = λ h. absurd (not_return u r s t i n is stays h);
}

-- a state whose next instruction doesn't return here, since SP isn't the base
pub good_away : (u : Unit) (r : Routine) (s t : State) (i : Instr) (n : ℕ) → next_instr t.core ≡ Some (i, n) → Keeps u r s t → IsInCode u t.core → AssertsHold u r s t → takes_input i ≡ None → t.core.sp ≢ base u r s → IsGoodAt u r s t
good_away u r s t i n is keeps in_code asserts none away = record {
  keeps = keeps;
  in_code = in_code;
  not_stuck = λ running. ap is_some is;
  asserts = asserts;
  inputs = λ running j fetched port takes. absurd (none_some port (sym none ∙ ap (λ (x : Instr × ℕ). takes_input x.0) (same_some (i, n) j (sym is ∙ fetched)) ∙ takes));
  returned = λ h. absurd (away h.at_base);
}
  where
    none_some : (port : ℕ) → None ≡ Some port → ⊥
    none_some port h = cc

-- ---- returns
-- the state after a RET
abbrev pub back : State → State
back t = record t { core = ret t.core }

byte_below : (core : Core) (a : ℕ) → IsCore core → cell a core < 256
byte_below core a k = k.bytes (a % 65536) 0 (omega (arith, k.memory))

word_below : (core : Core) (a : ℕ) → IsCore core → word a core < 65536
word_below core a k = let low = byte_below core a k in let high = byte_below core (a + 1) k in omega arith

-- what a return at the base leaves
pub returned_from : (u : Unit) (r : Routine) (s t : State) → IsState s → Keeps u r s t → t.core.sp ≡ base u r s → base u r s + 2 < 65536 → word (base u r s) t.core ≡ word (base u r s) s.core → All (Says u r s (back t)) r.post → ((x : Loc) → ¬ Contains r.changes.locs x → at x (back t).core ≡ at x s.core) → HasReturned u r s (back t)
unfolding ret with_sp with_pc
returned_from u r s t state keeps here room word_is post unlisted = record {
  keeps = keeps_still u r s t (back t) keeps refl refl;
  post = post;
  sp = ap (λ a. (a + 2) % 65536) here ∙ omega arith;
  pc =
      let low : word (base u r s) s.core < 65536 = word_below s.core (base u r s) state.core in
      let small : word (base u r s) s.core % 65536 ≡ word (base u r s) s.core = omega arith in
      ap (λ a. word a t.core % 65536) here ∙ ap (λ w. w % 65536) word_is ∙ small;
  unlisted = unlisted;
}

pub step_ret : (t : State) → t.core.halted ≡ false → next_instr t.core ≡ Some (Ret, 1) → step t ≡ back t
unfolding effect
step_ret t running is = step_quiet t Ret 1 running is refl refl

pub return_step : (u : Unit) (r : Routine) (s t : State) → t.core.halted ≡ false → next_instr t.core ≡ Some (Ret, 1) → t.core.sp ≡ base u r s → IsReturnStep u r s t
return_step u r s t running is here = record { running = running; returns = ((Ret, 1), is, refl); at_base = here }

pub good_return : (u : Unit) (r : Routine) (s t : State) → t.core.halted ≡ false → next_instr t.core ≡ Some (Ret, 1) → Keeps u r s t → IsInCode u t.core → AssertsHold u r s t → HasReturned u r s (back t) → IsGoodAt u r s t
unfolding effect
good_return u r s t running is keeps in_code asserts returned = record {
  keeps = keeps;
  in_code = in_code;
  not_stuck = λ running. ap is_some is;
  asserts = asserts;
  inputs = λ running j fetched port takes. absurd (none_some port (ap (λ (x : Instr × ℕ). takes_input x.0) (same_some (Ret, 1) j (sym is ∙ fetched)) ∙ takes));
  returned = λ h. subst (HasReturned u r s) (sym (step_quiet t Ret 1 running is refl refl)) returned;
}
  where
    none_some : (port : ℕ) → None ≡ Some port → ⊥
    none_some port h = cc
