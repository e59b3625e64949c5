-- Where runs end, and their texts.
use Rattle.std.proofs.Common.{◌≡◌, ◌⊎◌, ℕ, zero, suc, ◌+◌, ◌<◌, true, false, refl, sym, ap, subst, inl, inr, arith}
use Rattle.sp_isa.specs.Decode.{decode, form}
use Rattle.sp_model.specs.State.{State, run, step}
use Rattle.sp_run.specs.Run.{EndsAfter, HasStopped}
use Rattle.sp_run_laws.specs.Runs.{EndsAtStop, HasTexts}

-- a run of one step more is the run after its first step
run_first : (s : State) (k : ℕ) → run s (suc k) ≡ run (step s) k
run_first s zero = refl
run_first s (suc k) = ap step (run_first s k)

ends_here : (s : State) (limit : ℕ) → (0 ≡ limit) ⊎ HasStopped s.core → EndsAfter s limit 0
ends_here s limit ended = record { within = omega arith; going = λ k low. absurd (omega arith); ended = ended }

none : (s : State) (steps : ℕ) → EndsAfter s 0 steps → steps ≡ 0
none s steps h = let within = h.within in omega arith

stopped_ends : (s : State) (limit steps : ℕ) → HasStopped s.core → EndsAfter s limit steps → steps ≡ 0
stopped_ends s limit zero stopped h = refl
stopped_ends s limit (suc steps) stopped h = absurd (h.going 0 (omega arith) stopped)

goes_on : (s : State) (limit steps : ℕ) → (¬ HasStopped s.core) → EndsAfter s (limit + 1) steps → (more : ℕ) × (steps ≡ more + 1)
    × EndsAfter (step s) limit more
goes_on s limit zero going h = elim h.ended [ inl last ↦ absurd (omega arith) | inr stopped ↦ absurd (going stopped) ]
goes_on s limit (suc more) going h = (
  more,
  omega arith,
  record {
    within = let within = h.within in omega arith;
    going = λ k low stopped. h.going (suc k) (omega arith) (subst (λ (t : State). HasStopped t.core) (sym (run_first s k)) stopped);
    ended = elim h.ended [
      | inl last ↦ inl (omega arith)
      | inr stopped ↦ inr (subst (λ (t : State). HasStopped t.core) (run_first s more) stopped)
    ];
  },
)

comes_from : (s : State) (limit steps : ℕ) → (¬ HasStopped s.core) → (more : ℕ) × (steps ≡ more + 1) × EndsAfter (step s) limit more
    → EndsAfter s (limit + 1) steps
comes_from s limit zero going h = let one = h.1 in absurd (omega arith)
comes_from s limit (suc steps) going h =
    let same : h.0 ≡ steps = let one = h.1 in omega arith in
    let after : EndsAfter (step s) limit steps = subst (EndsAfter (step s) limit) same h.2 in
    record {
      within = let within = after.within in omega arith;
      going = λ k low. before after going k low;
      ended = elim after.ended [
        | inl last ↦ inl (omega arith)
        | inr stopped ↦ inr (subst (λ (t : State). HasStopped t.core) (sym (run_first s steps)) stopped)
      ];
    }
  where
    before : EndsAfter (step s) limit steps → (¬ HasStopped s.core) → (k : ℕ) → k < suc steps → ¬ HasStopped (run s k).core
    before after going zero low = going
    before after going (suc k) low =
        λ stopped. after.going k (omega arith) (subst (λ (t : State). HasStopped t.core) (run_first s k) stopped)

running : false ≡ true → ⊥
running e = cc

pub ends_at_stop : EndsAtStop
unfolding decode form
ends_at_stop = record {
  no_step = λ s steps. (none s steps, λ e. subst (EndsAfter s 0) (sym e) (ends_here s 0 (inl refl)));
  stopped = λ s limit steps stopped.
      (stopped_ends s limit steps stopped, λ e. subst (EndsAfter s limit) (sym e) (ends_here s limit (inr stopped)));
  going = λ s limit steps going. (goes_on s limit steps going, comes_from s limit steps going);
  halted = inl refl;
  stuck = inr refl;
  at_nop = λ h. elim h [ inl e ↦ running e | inr e ↦ absurd cc ];
  at_halt = λ h. elim h [ inl e ↦ running e | inr e ↦ absurd cc ];
}

pub has_texts : HasTexts
has_texts = record { halted = refl; stuck = refl; running = refl; without = refl }
