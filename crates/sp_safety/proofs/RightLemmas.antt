-- Each state of a run in its routine's own code is right.
use Rattle.std.proofs.Common.{◌≡◌, inl, ℕ, zero, suc, ◌+◌, true, false, cond, Some, refl, sym, ap, subst, ◌∙◌, arith}
use Rattle.std.specs.Prelude.{All, Contains, is_some}
use Rattle.std.proofs.lemmas.List.Elements.{All-map}
use Rattle.sp_isa.specs.Core.{Core}
use Rattle.sp_isa.specs.Effect.{takes_input, returns as takes_return}
use Rattle.sp_isa.specs.declared.instr.Instr.{Instr}
use Rattle.sp_isa.specs.declared.instr.Instr.TheVariants.{Ret, Rcc, In}
use Rattle.sp_logic.specs.View.{note_of}
use Rattle.sp_model.specs.Good.{IsReturnStep, HasReturned, IsGoodAt}
use Rattle.sp_model.specs.Note.{Holds}
use Rattle.sp_model.specs.State.{State, IsState, next_instr, run, step}
use Rattle.sp_model.specs.Unit as runs
use Rattle.sp_model.proofs.StateLemmas.{steps_keep_states}
use Rattle.sp_prog.specs.View.{stmt_of}
use Rattle.sp_prog.specs.declared.routine.Noted.{Noted}
use Rattle.sp_flow.specs.declared.refusal.FlowKind.TheVariants as kind
use Rattle.sp_flow.specs.Flow.{ports_in}
use Rattle.sp_safety.specs.Calls.{Way, On, Calls, Returns, Leads, IsWholeCall, ComesTo, begun, onward, back, IsRight, way_of}
use Rattle.sp_safety.specs.Contained.{HasStack}
use Rattle.sp_safety.proofs.AreaLemmas.{stable_has}
use Rattle.sp_safety.proofs.AskLemmas.{next_is, here_at}
use Rattle.sp_safety.proofs.BackLemmas.{same_target, came_back}
use Rattle.sp_safety.proofs.EnterLemmas.{target, enters}
use Rattle.sp_safety.proofs.FactsLemmas.{Run, Facts, unit, model, frame}
use Rattle.sp_safety.proofs.GivenLemmas.{member, only, stmt_in}
use Rattle.sp_safety.proofs.OnwardLemmas.{arrived}
use Rattle.sp_safety.proofs.ReturnLemmas.{is_return, returned}
use Rattle.sp_safety.proofs.SettleLemmas.{entered, settled}

same_pair : (a b : Instr × ℕ) → Some a ≡ Some b → a.0 ≡ b.0
same_pair a b h = let both : a ≡ b = cc in ap (λ (q : Instr × ℕ). q.0) both

way_returns : (i : Instr) (core : Core) → takes_return i core ≡ true → way_of i core ≡ Returns
way_returns Ret core h = refl
way_returns (Rcc c) core h = ap (λ b. cond b Returns On) h
way_returns i core h = cc

takes_port : (i : Instr) (port : ℕ) → takes_input i ≡ Some port → Contains (ports_in i) port
takes_port (In p) port h = let same : p ≡ port = cc in (0, omega arith, same)
takes_port i port h = cc

run_state : (s : State) → IsState s → (n : ℕ) → IsState (run s n)
run_state s h zero = h
run_state s h (suc n) = steps_keep_states (run s n) (run_state s h n)

module _ (c : Run) where
  -- the way is that of the walk's instruction
  own_way : (t : State) (h : Facts c t) (w : Way) → Leads w t → way_of h.st.instr t.core ≡ w
  own_way t h w l = ap (λ i. way_of i t.core) (same_pair _ _ (sym (next_is c t h) ∙ l.next)) ∙ l.way_is

  -- ---- facts at each such state

  come_on : (t : State) → Facts c t → Leads On t → Facts c (step t)
  come_on t h l = settled c (step t) (arrived c t h (own_way t h On l))

  come_back : (n m : ℕ) (q : runs.Routine) → Facts c (run c.s n) → IsWholeCall (unit c) (model c) c.s n m q → Facts c (run c.s (suc (suc n + m)))
  come_back n m q h w =
      let call = own_way (run c.s n) h Calls w.calls in
      let same = same_target c (run c.s n) h call q w.enters.calls.0 w.enters.entry in
      settled c (run c.s (suc (suc n + m)))
      (came_back c (run c.s n) h call (run c.s (suc (suc n + m))) (run_state c.s c.entry.state (suc (suc n + m))) w.running
      (subst (λ r. HasReturned (unit c) r (run c.s (suc n)) (run c.s (suc (suc n + m)))) same w.returned))

  facts : (n : ℕ) → ComesTo (unit c) (model c) c.s n → Facts c (run c.s n)
  facts _ begun = settled c c.s (entered c)
  facts _ (onward n h l) = come_on (run c.s n) (facts n h) l
  facts _ (back n m q h w) = come_back n m q (facts n h) w

  -- ---- what they give

  module _ (t : State) (h : Facts c t) where
    stack : c.routine.start ≡ false → HasStack (unit c) (model c) c.s t
    stack straight =
        let points = h.walked.pointer (λ starts. let clash : true ≡ false = sym starts ∙ straight in absurd cc) in
        let shallow = h.walked.shallow in
        record { below = omega arith; above = omega arith }

    asserts : (i : runs.Stmt) → Contains (model c).code i → i.address ≡ t.core.pc → All (λ note. Holds (frame c) note c.s t) i.asserts
    asserts i within at =
        let one = only c.p c.r c.routine c.depths c.given h.place h.st h.walked.here (model c) i (member c.p c.r c.routine c.depths c.given) within (at ∙ sym h.walked.next) in
        subst (λ (j : runs.Stmt). All (λ note. Holds (frame c) note c.s t) j.asserts) one.1
        (All-map (λ note. Holds (frame c) note c.s t) (λ (n : Noted). note_of n.note) h.st.asserts h.asserted)

    inputs : (i : Instr × ℕ) → next_instr t.core ≡ Some i → (port : ℕ) → takes_input i.0 ≡ Some port → Contains c.routine.ins port
    inputs i is port takes =
        let same = same_pair _ _ (sym is ∙ next_is c t h) in
        stable_has c.routine.ins port (λ other. c.given.flow h.st.line.0 (kind.Port port) (
          c.r,
          h.place,
          c.routine,
          h.st,
          here_at c t h,
          refl,
          inl (inl (takes_port h.st.instr port (ap takes_input (sym same) ∙ takes)), other),
        ))

    return_way : IsReturnStep (unit c) (model c) c.s t → way_of h.st.instr t.core ≡ Returns
    return_way ret =
        let same = same_pair _ _ (sym ret.returns.1 ∙ next_is c t h) in
        way_returns h.st.instr t.core (ap (λ i. takes_return i t.core) (sym same) ∙ ret.returns.2)

    good : IsGoodAt (unit c) (model c) c.s t
    good = record {
      keeps = h.walked.kept.keeps;
      in_code = (model c, member c.p c.r c.routine c.depths c.given, (stmt_of h.st, stmt_in c.p c.r c.routine c.depths c.given h.place h.st h.walked.here, h.walked.next));
      not_stuck = λ running. ap is_some (next_is c t h);
      asserts = asserts;
      inputs = λ running i is port takes. inputs i is port takes;
      returned = λ ret. returned c t h (return_way ret);
    }

    right : IsRight (unit c) (model c) c.s t
    right = record {
      good = good;
      running = h.walked.kept.running;
      stmt = stmt_of h.st;
      own = stmt_in c.p c.r c.routine c.depths c.given h.place h.st h.walked.here;
      there = h.walked.next;
      stack = stack;
      returns = λ l. is_return c t h (own_way t h Returns l);
      calls = λ l. (target c t h (own_way t h Calls l), enters c t h (own_way t h Calls l));
    }

  -- each state of the run in its own code is right
  pub all_right : (n : ℕ) → ComesTo (unit c) (model c) c.s n → IsRight (unit c) (model c) c.s (run c.s n)
  all_right n h = right (run c.s n) (facts n h)
