-- Runs with calls, by induction on ranks and on the number of steps.
use Rattle.std.proofs.Common.{◌≡◌, ◌≢◌, ℕ, zero, suc, ◌+◌, ◌%◌, ◌<◌, ◌≤◌, Bool, true, false, cond, ◌++◌, length, refl, sym, ap, subst, ◌∙◌, arith, ◌⊎◌, inl, inr, add-suc, add-zero, append_assoc}
use Rattle.std.specs.Prelude.{nat_lt, nat_eq, Option, Some, None, Contains, slice_index, IsSome}
use Rattle.std.proofs.lemmas.Bool.Decides.{nat_tests}
use Rattle.std.proofs.lemmas.List.Elements.{All-append}
use Rattle.sp_isa.specs.Code.{code}
use Rattle.sp_isa.specs.Core.{Core, advance, with_pc, with_sp}
use Rattle.sp_isa.specs.Effect.{effect, returns}
use Rattle.sp_isa.specs.Stack.{ret, holds}
use Rattle.sp_isa.specs.declared.instr.Instr.{Instr}
use Rattle.sp_isa.specs.declared.instr.Instr.TheVariants.{Ret, Rcc}
use Rattle.sp_model.specs.Good.{IsEntry, Keeps, IsReturnStep, HasReturned, IsGoodAt, base, frame_of}
use Rattle.sp_model.specs.State.{State, step, run, next_instr, next_input}
use Rattle.sp_model.specs.Unit.{Stmt, Routine, Unit}
use Rattle.sp_model.proofs.StateLemmas.{runs_compose, steps_execute, stopped_states_stay}
use Rattle.sp_prog.specs.Laws.{HasCode}
use Rattle.sp_safety.specs.Calls.{Way, On, Calls, Returns, Halts, way_of, Leads, Enters, ComesTo, begun, onward, back, IsRightInOwnCode}
use Rattle.sp_safety.specs.Contained.{CallsTo, IsReached, itself, through, IsInReach, HasNotReturned, HasStack}
use Rattle.sp_safety.specs.Theorems.{HasRanks, RunsAreSafe}
use Rattle.sp_safety.proofs.HaltLemmas.{HasHalted, halts, holds_halted}

-- what is shown of each state of a run, by its routine's rank; a start routine has no stack to keep to
record IsFine (u : Unit) (r : Routine) (s t : State) : Type 0 where
  good : IsGoodAt u r s t
  stack : r.start ≡ false → HasStack u r s t
  code : IsInReach u r t.core

abbrev AreFine : Unit → Routine → Type 0
AreFine u r = (s : State) → IsEntry u r s → (n : ℕ) → HasNotReturned u r s n → IsFine u r s (run s n)

-- ---- Return steps

more : (u : Unit) (r : Routine) (s : State) (n : ℕ) → HasNotReturned u r s n → ¬ IsReturnStep u r s (run s n) → HasNotReturned u r s (suc n)
more u r s n none here k less =
    elim (nat_lt k n) as (λ b. nat_lt k n ≡ b → ¬ IsReturnStep u r s (run s k)) [
      | true ↦ λ e. none k (grind (arith, nat_tests))
      | false ↦ λ e. let same : k ≡ n = grind (arith, nat_tests) in subst (λ m. ¬ IsReturnStep u r s (run s m)) (sym same) here
    ] refl

some_is : {A : Type 0} (x y : A) → Some x ≡ Some y → x ≡ y
some_is x y h = cc

no_return : (u : Unit) (r : Routine) (s t : State) (i : Instr × ℕ) → next_instr t.core ≡ Some i → returns i.0 t.core ≡ false → ¬ IsReturnStep u r s t
no_return u r s t i is none h =
    let same : h.returns.0 ≡ i = some_is _ _ (sym h.returns.1 ∙ is) in
    let yes : returns i.0 t.core ≡ true = subst (λ (p : Instr × ℕ). returns p.0 t.core ≡ true) same h.returns.2 in
    cc

returning_at : (u : Unit) (r : Routine) (s t : State) (i : Instr × ℕ) (yes near : Bool) → t.core.halted ≡ false → next_instr t.core ≡ Some i → returns i.0 t.core ≡ yes → nat_eq t.core.sp (base u r s) ≡ near → IsReturnStep u r s t ⊎ ¬ IsReturnStep u r s t
returning_at u r s t i false near running is ret at = inr (no_return u r s t i is ret)
returning_at u r s t i true false running is ret at = inr (λ h. let same = h.at_base in let other : t.core.sp ≢ base u r s = grind (arith, nat_tests) in other same)
returning_at u r s t i true true running is ret at = inl (record { running = running; returns = (i, is, ret); at_base = grind (arith, nat_tests) })

returning_by : (u : Unit) (r : Routine) (s t : State) (halted : Bool) (next : Option (Instr × ℕ)) → t.core.halted ≡ halted → next_instr t.core ≡ next → IsReturnStep u r s t ⊎ ¬ IsReturnStep u r s t
returning_by u r s t true next running is = inr (λ h. let no = h.running in cc)
returning_by u r s t false None running is = inr (λ h. let some = h.returns.1 in cc)
returning_by u r s t false (Some i) running is = returning_at u r s t i (returns i.0 t.core) (nat_eq t.core.sp (base u r s)) running is refl refl

-- a state takes the return step, or doesn't
returning : (u : Unit) (r : Routine) (s t : State) → IsReturnStep u r s t ⊎ ¬ IsReturnStep u r s t
returning u r s t = returning_by u r s t t.core.halted (next_instr t.core) refl refl

ret_halted : (core : Core) → (ret core).halted ≡ core.halted
unfolding ret with_sp with_pc
ret_halted core = refl

rcc_halted : (b : Bool) (core : Core) → (cond b (ret core) (advance 1 core)).halted ≡ core.halted
unfolding advance with_pc
rcc_halted true core = ret_halted core
rcc_halted false core = refl

return_halted : (i : Instr) (input : ℕ) (core : Core) → returns i core ≡ true → (effect input i core).halted ≡ core.halted
unfolding effect
return_halted Ret input core h = ret_halted core
return_halted (Rcc when) input core h = rcc_halted (holds when core) core
return_halted i input core h = cc

return_runs : (u : Unit) (r : Routine) (s t : State) → IsReturnStep u r s t → (step t).core.halted ≡ false
return_runs u r s t h = ap (λ (c : State). c.core.halted) (steps_execute t h.returns.0.0 h.returns.0.1 h.running h.returns.1) ∙ return_halted h.returns.0.0 (next_input t) t.core h.returns.2 ∙ h.running

-- ---- What a callee keeps, its caller keeps

pub keeps_through : (u : Unit) (r q : Routine) (s s' t : State) → Enters u r q s s' → Keeps u q s' t → Keeps u r s t
keeps_through u r q s s' t h after =
    let below = h.below in
    let above = h.above in
    record {
      memory = λ a low out apart.
          after.memory a low (λ area there within. let own = h.areas a area there within in out own.0 own.1 own.2) (λ i. let near = i.0 in let deep = i.1 in apart (omega arith, omega arith))
          ∙ h.keeps.memory a low out apart;
      outputs = (
        h.keeps.outputs.0 ++ after.outputs.0,
        after.outputs.1 ∙ ap (λ o. o ++ after.outputs.0) h.keeps.outputs.1 ∙ append_assoc s.outputs h.keeps.outputs.0 after.outputs.0,
        All-append (λ o. Contains r.outs o.0) h.keeps.outputs.0 after.outputs.0 h.keeps.outputs.2 (λ k d less. h.outs _ (after.outputs.2 k d less)),
      );
    }

-- ---- Ranks

reached_rank : (u : Unit) (rank : Routine → ℕ) → HasRanks u rank → (r : Routine) → Contains u.routines r → (q : Routine) → IsReached u r q → Contains u.routines q × (rank q ≤ rank r)
reached_rank u rank ranked r there _ itself = (there, omega arith)
reached_rank u rank ranked r there _ (through m q h call) =
    let rest = reached_rank u rank ranked r there m h in
    let less = ranked m q rest.0 call in
    let most = rest.1 in
    (call.0, omega arith)

joined : (u : Unit) (r q : Routine) → CallsTo u r q → (o : Routine) → IsReached u q o → IsReached u r o
joined u r q call _ itself = through r q itself call
joined u r q call _ (through m o h more) = through m o (joined u r q call m h) more

some_code : (i : Instr) → 0 < length (code i)
some_code i = omega arith

-- ---- Phases

-- what is given of a routine: its own code is right, and the runs of those with lower ranks are fine
record Given (u : Unit) (rank : Routine → ℕ) (r : Routine) : Type 0 where
  code : HasCode u
  ranked : HasRanks u rank
  member : Contains u.routines r
  own : IsRightInOwnCode u r
  lower : (q : Routine) → Contains u.routines q → rank q < rank r → AreFine u q

-- after k steps a routine was called, and it hasn't returned since
record InCall (u : Unit) (r : Routine) (s : State) (n : ℕ) : Type 0 where
  k : ℕ
  since : ℕ
  steps : suc k + since ≡ n
  comes : ComesTo u r s k
  calls : Leads Calls (run s k)
  callee : Routine
  enters : Enters u r callee s (run s (suc k))
  unreturned : HasNotReturned u callee (run s (suc k)) since

-- after k steps came a HLT, and the run has halted since
record Stopped (u : Unit) (r : Routine) (s : State) (n : ℕ) : Type 0 where
  k : ℕ
  comes : ComesTo u r s k
  halts : Leads Halts (run s k)
  since : run s n ≡ step (run s k)

abbrev Phase : Unit → Routine → State → ℕ → Type 0
Phase u r s n = ComesTo u r s n ⊎ (InCall u r s n ⊎ Stopped u r s n)

module _ (u : Unit) (rank : Routine → ℕ) (r : Routine) (given : Given u rank r) (s : State) (entry : IsEntry u r s) where
  own_fine : (n : ℕ) → ComesTo u r s n → IsFine u r s (run s n)
  own_fine n h =
      let right = given.own s entry n h in
      record {
        good = right.good;
        stack = right.stack;
        code = record { of = r; of_unit = given.member; reached = itself; stmt = right.stmt; within = right.own; there = right.there };
      }

  own_step_by : (n : ℕ) → ComesTo u r s n → ¬ IsReturnStep u r s (run s n) → (w : Way) → Leads w (run s n) → Phase u r s (suc n)
  own_step_by n h none On leads = inl (onward n h leads)
  own_step_by n h none Calls leads =
      let call = (given.own s entry n h).calls leads in
      inr (inl (record {
        k = n;
        since = 0;
        steps = add-zero (suc n);
        comes = h;
        calls = leads;
        callee = call.0;
        enters = call.1;
        unreturned = λ k less. absurd (omega arith);
      }))
  own_step_by n h none Returns leads = absurd (none ((given.own s entry n h).returns leads))
  own_step_by n h none Halts leads = inr (inr (record { k = n; comes = h; halts = leads; since = refl }))

  leads_by : (t : State) → t.core.halted ≡ false → (o : Option (Instr × ℕ)) → next_instr t.core ≡ o → IsSome o → (w : Way) × Leads w t
  leads_by t running None is some = let no : false ≡ true = some in absurd cc
  leads_by t running (Some i) is some = (way_of i.0 t.core, record { running = running; instr = i.0; size = i.1; next = is; way_is = refl })

  own_step : (n : ℕ) → ComesTo u r s n → ¬ IsReturnStep u r s (run s n) → Phase u r s (suc n)
  own_step n h none =
      let right = given.own s entry n h in
      let leads = leads_by (run s n) right.running (next_instr (run s n).core) refl (right.good.not_stuck right.running) in
      own_step_by n h none leads.0 leads.1

  -- ---- while a callee runs

  module _ (n : ℕ) (h : InCall u r s n) where
    there : run (run s (suc h.k)) h.since ≡ run s n
    there = sym (runs_compose s (suc h.k) h.since) ∙ ap (run s) h.steps

    callee_lower : rank h.callee < rank r
    callee_lower = given.ranked r h.callee given.member h.enters.calls

    callee_fine : IsFine u h.callee (run s (suc h.k)) (run s n)
    callee_fine =
        subst (IsFine u h.callee (run s (suc h.k))) there
        (given.lower h.callee h.enters.calls.0 callee_lower (run s (suc h.k)) h.enters.entry h.since h.unreturned)

    -- the callee's code isn't the caller's
    elsewhere : (i : Stmt) → Contains r.code i → i.address ≡ (run s n).core.pc → ⊥
    elsewhere i within at =
        let code = callee_fine.code in
        let rest = reached_rank u rank given.ranked h.callee h.enters.calls.0 code.of code.reached in
        let one = given.code.one r code.of i code.stmt (given.member, within) (code.of_unit, code.within) 0 0 (some_code i.instr) (some_code code.stmt.instr)
        (add-zero i.address ∙ at ∙ sym code.there ∙ sym (add-zero code.stmt.address)) in
        let same : rank r ≡ rank code.of = ap rank one.0 in
        let most = rest.1 in
        let less = callee_lower in
        omega arith

    call_fine : IsFine u r s (run s n)
    call_fine =
        let fine = callee_fine in
        let code = callee_fine.code in
        let below = h.enters.below in
        let above = h.enters.above in
        record {
          good = record {
            keeps = keeps_through u r h.callee s (run s (suc h.k)) (run s n) h.enters fine.good.keeps;
            in_code = fine.good.in_code;
            not_stuck = fine.good.not_stuck;
            asserts = λ i within at. absurd (elsewhere i within at);
            inputs = λ running i is port takes. h.enters.ins port (fine.good.inputs running i is port takes);
            returned = λ ret. let points = ret.at_base in let stack = (fine.stack h.enters.straight).below in absurd (omega arith);
          };
          stack = λ straight.
              let lower = (fine.stack h.enters.straight).below in
              let upper = (fine.stack h.enters.straight).above in
              record { below = omega arith; above = omega arith };
          code = record {
            of = code.of;
            of_unit = code.of_unit;
            reached = joined u r h.callee h.enters.calls code.of code.reached;
            stmt = code.stmt;
            within = code.within;
            there = code.there;
          };
        }

    came_back : IsReturnStep u h.callee (run s (suc h.k)) (run (run s (suc h.k)) h.since) → ComesTo u r s (suc n)
    came_back is =
        let now = subst (IsReturnStep u h.callee (run s (suc h.k))) there is in
        subst (λ m. ComesTo u r s (suc m)) h.steps
        (back h.k h.since h.callee h.comes (record {
          calls = h.calls;
          enters = h.enters;
          returned = subst (λ m. HasReturned u h.callee (run s (suc h.k)) (run s (suc m))) (sym h.steps) (callee_fine.good.returned now);
          running = subst (λ m. (run s (suc m)).core.halted ≡ false) (sym h.steps) (return_runs u h.callee (run s (suc h.k)) (run s n) now);
        }))

    call_step : Phase u r s (suc n)
    call_step =
        elim (returning u h.callee (run s (suc h.k)) (run (run s (suc h.k)) h.since)) [
          | inl is ↦ inl (came_back is)
          | inr none ↦ inr (inl (record {
            k = h.k;
            since = suc h.since;
            steps = add-suc (suc h.k) h.since ∙ ap suc h.steps;
            comes = h.comes;
            calls = h.calls;
            callee = h.callee;
            enters = h.enters;
            unreturned = more u h.callee (run s (suc h.k)) h.since h.unreturned none;
          }))
        ]

  -- ---- a halted run

  module _ (n : ℕ) (h : Stopped u r s n) where
    halted_now : HasHalted (run s h.k) (run s n)
    halted_now = subst (HasHalted (run s h.k)) (sym h.since) (halts (run s h.k) h.halts)

    stopped_step : Stopped u r s (suc n)
    stopped_step = record { k = h.k; comes = h.comes; halts = h.halts; since = stopped_states_stay (run s n) (inl halted_now.halted) ∙ h.since }

    never : {A : Type 0} → (run s n).core.halted ≡ false → A
    never running = let clash : true ≡ false = sym halted_now.halted ∙ running in absurd cc

    stopped_fine : IsFine u r s (run s n)
    stopped_fine =
        let now = halted_now in
        let right = given.own s entry h.k h.comes in
        let keeps = right.good.keeps in
        record {
          good = record {
            keeps = record {
              memory = λ a low out apart. ap (λ m. slice_index m (a % 65536)) now.cells ∙ keeps.memory a low out apart;
              outputs = (keeps.outputs.0, now.outputs ∙ keeps.outputs.1, keeps.outputs.2);
            };
            in_code = (r, given.member, (right.stmt, right.own, right.there ∙ sym now.pc));
            not_stuck = λ running. never running;
            asserts = λ i within at k d less. holds_halted (frame_of u r s) s (run s h.k) (run s n) now _ (right.good.asserts i within (at ∙ now.pc) k d less);
            inputs = λ running i is port takes. never running;
            returned = λ ret. never ret.running;
          };
          stack = λ straight. let stack = right.stack straight in let lower = stack.below in let upper = stack.above in let same = now.sp in record { below = omega arith; above = omega arith };
          code = record { of = r; of_unit = given.member; reached = itself; stmt = right.stmt; within = right.own; there = right.there ∙ sym now.pc };
        }

  -- ---- all steps

  phase : (n : ℕ) → HasNotReturned u r s n → Phase u r s n
  phase zero none = inl begun
  phase (suc n) none =
      elim (phase n (λ k less. none k (omega arith))) [
        | inl own ↦ own_step n own (none n (omega arith))
        | inr (inl call) ↦ call_step n call
        | inr (inr stopped) ↦ inr (inr (stopped_step n stopped))
      ]

  fine_in : (n : ℕ) → Phase u r s n → IsFine u r s (run s n)
  fine_in n (inl own) = own_fine n own
  fine_in n (inr (inl call)) = call_fine n call
  fine_in n (inr (inr stopped)) = stopped_fine n stopped

-- ---- All routines

module _ (u : Unit) (rank : Routine → ℕ) (code : HasCode u) (ranked : HasRanks u rank) (every : (r : Routine) → Contains u.routines r → IsRightInOwnCode u r) where
  fine_below : (bound : ℕ) (r : Routine) → Contains u.routines r → rank r < bound → AreFine u r
  fine_below zero r there less s entry n none = absurd (omega arith)
  fine_below (suc bound) r there less s entry n none =
      let given : Given u rank r = record { code = code; ranked = ranked; member = there; own = every r there; lower = λ q k below. fine_below bound q k (omega arith) } in
      fine_in u rank r given s entry n (phase u rank r given s entry n none)

  fine : (r : Routine) → Contains u.routines r → AreFine u r
  fine r there = fine_below (suc (rank r)) r there (omega arith)

pub runs_are_safe : RunsAreSafe
runs_are_safe u rank code ranked every = record {
  good = λ r there s entry n i below none. (fine u rank code ranked every r there s entry i none).good;
  contained = λ r there straight s entry n none.
      let f = fine u rank code ranked every r there s entry n none in
      record { stack = f.stack straight; code = f.code };
}
