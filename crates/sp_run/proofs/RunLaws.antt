-- A run of an image has one text.
use Rattle.std.proofs.Common.{◌≡◌, ◌∙◌, sym, ap, subst, inl, inr, ℕ, ◌<◌, arith}
use Rattle.std.proofs.lemmas.Bool.{cases_lt}
use Rattle.std.proofs.lemmas.List.{ext_get_or}
use Rattle.std.proofs.lemmas.List.Elements.{All-get_or}
use Rattle.sp_base.specs.declared.location.Loc.TheVariants as loc
use Rattle.sp_base.specs.Image.{ImageMap}
use Rattle.sp_isa.specs.Core.{Core, IsBlank}
use Rattle.sp_hex.proofs.LoadLaws.{one_core}
use Rattle.sp_model.specs.State.{State, run}
use Rattle.sp_run.specs.declared.settings.Options.{Options}
use Rattle.sp_run.specs.Start.{with_counter, with_settings, IsStartCore, IsStart}
use Rattle.sp_run.specs.Texts.{run_text}
use Rattle.sp_run.specs.Run.{EndsAfter, OneRunText}

one_blank : (one other : Core) → IsBlank one → IsBlank other → ◌≡◌ {A = Core} one other
one_blank one other h g =
    let cells : one.cells ≡ other.cells = ext_get_or 0 one.cells other.cells (h.memory ∙ sym g.memory) (λ i lt.
    All-get_or (λ byte. byte ≡ 0) one.cells i 0 lt h.bytes ∙ sym (All-get_or (λ byte. byte ≡ 0) other.cells i 0 (omega (arith, h.memory, g.memory)) g.bytes)) in
    λ j. record {
      b = (h.locations loc.B ∙ sym (g.locations loc.B)) j;
      c = (h.locations loc.C ∙ sym (g.locations loc.C)) j;
      d = (h.locations loc.D ∙ sym (g.locations loc.D)) j;
      e = (h.locations loc.E ∙ sym (g.locations loc.E)) j;
      h = (h.locations loc.H ∙ sym (g.locations loc.H)) j;
      l = (h.locations loc.L ∙ sym (g.locations loc.L)) j;
      a = (h.locations loc.A ∙ sym (g.locations loc.A)) j;
      s = (h.locations loc.S ∙ sym (g.locations loc.S)) j;
      z = (h.locations loc.Z ∙ sym (g.locations loc.Z)) j;
      ac = (h.locations loc.Ac ∙ sym (g.locations loc.Ac)) j;
      p = (h.locations loc.P ∙ sym (g.locations loc.P)) j;
      cy = (h.locations loc.Cy ∙ sym (g.locations loc.Cy)) j;
      sp = (h.sp ∙ sym g.sp) j;
      pc = (h.pc ∙ sym g.pc) j;
      halted = (h.running ∙ sym g.running) j;
      cells = cells j;
    }

one_start_core : (image : ImageMap) (options : Options) (one other : Core) → IsStartCore image options one → IsStartCore image options other → one ≡ other
one_start_core image options one other h g =
    let blank : h.blank ≡ g.blank = one_blank h.blank g.blank h.all_zero g.all_zero in
    let loaded : h.loaded ≡ g.loaded = one_core image g.blank h.loaded g.loaded g.all_zero.memory (subst (λ k. Rattle.sp_hex.specs.Load.IsLoaded image k h.loaded) blank h.has_image) g.has_image in
    h.set ∙ ap (λ k. with_counter options.pc (with_settings options.settings k)) loaded ∙ sym g.set

one_start : (image : ImageMap) (options : Options) (one other : State) → IsStart image options one → IsStart image options other → ◌≡◌ {A = State} one other
one_start image options one other h g =
    λ j. record {
      core = one_start_core image options one.core other.core h.core g.core j;
      inputs = (h.inputs ∙ sym g.inputs) j;
      outputs = (h.outputs ∙ sym g.outputs) j;
    }

-- a run that ends after so many steps doesn't go on to more
not_longer : (s : State) (limit steps more : ℕ) → EndsAfter s limit steps → EndsAfter s limit more → steps < more → ⊥
not_longer s limit steps more h g lt = elim h.ended [
  | inl last ↦ absurd (omega (arith, g.within))
  | inr stopped ↦ g.going steps lt stopped
]

one_end : (s : State) (limit steps more : ℕ) → EndsAfter s limit steps → EndsAfter s limit more → steps ≡ more
one_end s limit steps more h g = elim (cases_lt steps more) [
  | inl lt ↦ absurd (not_longer s limit steps more h g lt)
  | inr le ↦ elim (cases_lt more steps) [
    | inl lt ↦ absurd (not_longer s limit more steps g h lt)
    | inr other ↦ omega arith
  ]
]

pub one_run_text : OneRunText
one_run_text image options one other h g =
    let start = one_start image options h.start g.start h.starts g.starts in
    let steps = one_end g.start options.steps h.steps g.steps (subst (λ (s : State). EndsAfter s options.steps h.steps) start h.ends) g.ends in
    h.exact ∙ ap (λ (s : State). run_text options.steps h.steps (run s h.steps)) start ∙ ap (λ n. run_text options.steps n (run g.start n)) steps ∙ sym g.exact
