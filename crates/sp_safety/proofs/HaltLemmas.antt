-- A halted run is as it was at its HLT.
use Rattle.std.proofs.Common.{◌≡◌, inr, ◌+◌, ◌*◌, ◌%◌, Bool, true, false, cond, refl, ap, subst, sym, ◌∙◌}
use Rattle.std.specs.Prelude.{slice_index}
use Rattle.std.proofs.lemmas.List.{append-nil}
use Rattle.sp_base.specs.declared.location.Loc.{Loc}
use Rattle.sp_base.specs.declared.location.Loc.TheVariants as loc
use Rattle.sp_isa.specs.Core.{Core, at, with_halted}
use Rattle.sp_isa.specs.Effect.{effect}
use Rattle.sp_isa.specs.declared.instr.Instr.{Instr}
use Rattle.sp_isa.specs.declared.instr.Instr.TheVariants.{Ccc, Rcc, Hlt}
use Rattle.sp_isa.specs.Stack.{holds}
use Rattle.sp_model.specs.Note.{Frame, Note, Holds, shown, stack_address}
use Rattle.sp_model.specs.State.{State, step, executed}
use Rattle.sp_model.proofs.StateLemmas.{steps_execute}
use Rattle.sp_safety.specs.Calls.{Way, On, Calls, Returns, Halts, Leads, way_of}
use Rattle.sp_safety.proofs.NoteLemmas.{seen}

on_not : On ≡ Halts → ⊥
on_not h = cc

calls_not : Calls ≡ Halts → ⊥
calls_not h = cc

returns_not : Returns ≡ Halts → ⊥
returns_not h = cc

never_halts : (b : Bool) (w : Way) → (w ≡ Halts → ⊥) → cond b w On ≡ Halts → ⊥
never_halts true w other = other
never_halts false w other = on_not

is_halt : (i : Instr) (core : Core) → way_of i core ≡ Halts → i ≡ Hlt
is_halt Hlt core h = refl
is_halt (Ccc c w) core h = absurd (never_halts (holds c core) Calls calls_not h)
is_halt (Rcc c) core h = absurd (never_halts (holds c core) Returns returns_not h)
is_halt i core h = cc

-- t' is t, halted
pub record HasHalted (t t' : State) : Type 0 where
  pub halted : t'.core.halted ≡ true
  pub pc : t'.core.pc ≡ t.core.pc
  pub sp : t'.core.sp ≡ t.core.sp
  pub cells : t'.core.cells ≡ t.core.cells
  pub locations : (x : Loc) → at x t'.core ≡ at x t.core
  pub outputs : t'.outputs ≡ t.outputs

halted_at : (x : Loc) (core : Core) → at x (with_halted true core) ≡ at x core
unfolding with_halted
halted_at loc.A core = refl
halted_at x core = refl

executed_halt : (t : State) → HasHalted t (executed Hlt t)
unfolding effect with_halted
executed_halt t = record { halted = refl; pc = refl; sp = refl; cells = refl; locations = λ x. halted_at x t.core; outputs = append-nil t.outputs }

pub halts : (t : State) → Leads Halts t → HasHalted t (step t)
halts t h =
    subst (HasHalted t) (sym (steps_execute t h.instr h.size h.running h.next ∙ ap (λ i. executed i t) (is_halt h.instr t.core h.way_is))) (executed_halt t)

-- what is true at the HLT is true after it
pub holds_halted : (f : Frame) (s t t' : State) → HasHalted t t' → (n : Note) → Holds f n s t → Holds f n s t'
holds_halted f s t t' h n is =
    seen f f s.core t.core s.core t'.core (record { locations = λ x. refl; memory = refl })
    (record { locations = λ x. sym (h.locations x); memory = ap (shown f) (sym h.cells) }) n
    (inr (λ k. ap (λ cells. slice_index cells (stack_address f k % 65536) + 256 * slice_index cells ((stack_address f k + 1) % 65536)) (sym h.cells))) is
