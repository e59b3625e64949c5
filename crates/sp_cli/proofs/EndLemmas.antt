-- How a command ends, from how its text was put.
use Rattle.std.proofs.Common.{◌≡◌, ◌⊎◌, ℕ, List, [], refl, sym, ap, subst, ◌∙◌, Some, inl, inr}
use Rattle.std.specs.Prelude.{Option, IsTrue}
use Rattle.sp_base.specs.Files.{Store, Output, IsFrontOf}
use Rattle.sp_cli.specs.declared.status.Status.{Status}
use Rattle.sp_cli.specs.declared.status.Status.TheVariants as status
use Rattle.sp_cli.specs.declared.refusal.Refusal.{Refusal}
use Rattle.sp_cli.specs.declared.product.Product.{Product}
use Rattle.sp_cli.specs.Command.{Command, image_name, held_by}
use Rattle.sp_cli.specs.Inputs.{Held}
use Rattle.sp_cli.specs.Space.{Took, HoldsImage, HoldsFront, IsTextOf, ImageAfter, SinkAfterUsage}
use Rattle.sp_cli.specs.Stages.{Stands, Accepts}
use Rattle.sp_cli.specs.Texts.{refusal_text, usage_text}
use Rattle.sp_cli.specs.code.After.{Says, After}
use Rattle.sp_cli.specs.code.Made.{IsProduct, IsProductOf, IsRefusal}
use Rattle.sp_cli.specs.code.Put.{PutEnds}
use Rattle.sp_cli.proofs.StageLemmas.{refusals_are_one}

refused_text : (c : Command) (held : Held) (r : Refusal) → Stands c held r → IsTextOf status.Refused c held (refusal_text r)
refused_text c held r h = record { before = []; last = refusal_text r; are_before = refl; is_last = (r, h, refl); whole = refl }

report_text : (c : Command) (held : Held) (p : Product) → IsProductOf c held p → IsTextOf status.Done c held p.report.items
report_text c held p h = record { before = []; last = p.report.items; are_before = refl; is_last = (h.accepts, h.report); whole = refl }

-- ---- A refusal is put

module _ (c : Command) (files left : Store) (before after : Output) (r : Refusal) (h : IsRefusal files c r) (same : (q : List ℕ) → left.contents q ≡ files.contents q) where
  pub after_refusal : (result : Status) → PutEnds status.Refused (refusal_text r) before after result → After c result files left before after
  after_refusal result (inl (is, took)) = subst (λ s. After c s files left before after) (sym is) (record {
    held = h.held;
    are_held = h.are_held;
    says = (refusal_text r, refused_text c h.held r h.stands, took);
    image = λ name _ _. same name;
    sink = λ told. (refusal_text r, refused_text c h.held r h.stands, took told);
  })
  after_refusal result (inr (inl (is, rose, took))) = subst (λ s. After c s files left before after) (sym is) (record {
    held = h.held;
    are_held = h.are_held;
    says = tt;
    image = λ name _ _. inl ((status.Refused, refusal_text r, (λ e. cc), refused_text c h.held r h.stands), same name);
    sink = λ told. (refusal_text r, (status.Refused, refused_text c h.held r h.stands), took told);
  })
  after_refusal result (inr (inr (is, took))) = subst (λ s. After c s files left before after) (sym is) (record {
    held = h.held;
    are_held = h.are_held;
    says = tt;
    image = λ name _ _. inl (same name);
    sink = λ told. inr (refusal_text r, (status.Refused, refused_text c h.held r h.stands), took told);
  })

-- ---- The command ends before a put, for a fault of a read or want of memory

abbrev held_or_not : Store → Command → Held
held_or_not files c = held_by files.contents c

pub after_read_fault : (c : Command) (files left : Store) (before after : Output) → ((q : List ℕ) → left.contents q ≡ files.contents q) → after ≡ before → After c status.ReadFault files left before after
after_read_fault c files left before after same still = record {
  held = held_or_not files c;
  are_held = λ _. refl;
  says = tt;
  image = λ name _ _. same name;
  sink = λ _. ap (λ (o : Output). o.taken) still;
}

pub after_memory : (c : Command) (files left : Store) (before after : Output) → ((name : List ℕ) → image_name c ≡ Some name → IsTrue files.told → left.contents name ≡ files.contents name) → after ≡ before → After c status.Memory files left before after
after_memory c files left before after same still = record {
  held = held_or_not files c;
  are_held = λ _. refl;
  says = tt;
  image = λ name named told. inl (same name named told);
  sink = λ _. inl (ap (λ (o : Output). o.taken) still);
}

-- ---- An image was written, or not whole, and the report is put

module _ (c : Command) (files mid left : Store) (before after : Output) (p : Product) (h : IsProduct files c p) (text : List ℕ) (is_text : text ≡ p.image.items) where
  holds : (name : List ℕ) (written : Option (List ℕ)) → image_name c ≡ Some name → written ≡ Some text → HoldsImage c h.held written
  holds name written named e =
      let image = h.product.image name named in
      record { image = image.image; right = image.right; written = e ∙ ap (λ t. Some t) (is_text ∙ image.is); stands = image.stands }

  front : (name : List ℕ) (written : Option (List ℕ)) (begun : List ℕ) → image_name c ≡ Some name → IsFrontOf begun text → written ≡ Some begun → HoldsFront c h.held written
  front name written begun named is e =
      let image = h.product.image name named in
      record { image = image.image; front = begun; right = image.right; is_front = subst (IsFrontOf begun) (is_text ∙ image.is) is; written = e }

  pub after_report : (report : List ℕ) → report ≡ p.report.items → ((name : List ℕ) → image_name c ≡ Some name → IsTrue files.told → left.contents name ≡ Some text)
      → (result : Status) → PutEnds status.Done report before after result → After c result files left before after
  after_report report same written result (inl (is, took)) = subst (λ s. After c s files left before after) (sym is) (record {
    held = h.held;
    are_held = h.are_held;
    says = (report, subst (IsTextOf status.Done c h.held) (sym same) (report_text c h.held p h.product), took);
    image = λ name named told. holds name _ named (written name named told);
    sink = λ told. (report, subst (IsTextOf status.Done c h.held) (sym same) (report_text c h.held p h.product), took told);
  })
  after_report report same written result (inr (inl (is, rose, took))) = subst (λ s. After c s files left before after) (sym is) (record {
    held = h.held;
    are_held = h.are_held;
    says = tt;
    image = λ name named told. inr (h.product.accepts, holds name _ named (written name named told));
    sink = λ told. (report, (status.Done, subst (IsTextOf status.Done c h.held) (sym same) (report_text c h.held p h.product)), took told);
  })
  after_report report same written result (inr (inr (is, took))) = subst (λ s. After c s files left before after) (sym is) (record {
    held = h.held;
    are_held = h.are_held;
    says = tt;
    image = λ name named told. inr (holds name _ named (written name named told));
    sink = λ told. inr (report, (status.Done, subst (IsTextOf status.Done c h.held) (sym same) (report_text c h.held p h.product)), took told);
  })

  pub after_write_fault : ((q : List ℕ) → mid.contents q ≡ files.contents q) → ((name : List ℕ) → image_name c ≡ Some name → IsTrue files.told → (left.contents name ≡ mid.contents name) ⊎ ((begun : List ℕ) × IsFrontOf begun text × (left.contents name ≡ Some begun)))
      → after ≡ before → After c status.WriteFault files left before after
  after_write_fault same answer still = record {
    held = h.held;
    are_held = h.are_held;
    says = h.product.accepts;
    image = λ name named told. elim (answer name named told) [
      | inl e ↦ inl (e ∙ same name)
      | inr f ↦ inr (front name _ f.0 named f.1 f.2)
    ];
    sink = λ _. ap (λ (o : Output). o.taken) still;
  }

-- ---- The words are in no form

pub put_as_usage : (before after : Output) (result : Status) → PutEnds status.Usage usage_text before after result → result ≡ status.Usage → Took before after usage_text
put_as_usage before after result (inl h) is = h.1
put_as_usage before after result (inr (inl h)) is = let e : status.SinkFault ≡ status.Usage = sym h.0 ∙ is in cc
put_as_usage before after result (inr (inr h)) is = let e : status.Memory ≡ status.Usage = sym h.0 ∙ is in cc

pub sink_as_usage : (before after : Output) (result : Status) → IsTrue before.told → PutEnds status.Usage usage_text before after result → SinkAfterUsage result before after
sink_as_usage before after result told (inl h) = subst (λ s. SinkAfterUsage s before after) (sym h.0) (h.1 told)
sink_as_usage before after result told (inr (inl h)) = subst (λ s. SinkAfterUsage s before after) (sym h.0) (h.2 told)
sink_as_usage before after result told (inr (inr h)) = subst (λ s. SinkAfterUsage s before after) (sym h.0) (h.1 told)

-- ---- What a status says, where files tell what they hold

module _ (c : Command) (s : Status) (files left : Store) (before after : Output) (h : After c s files left before after) where
  pub image_held : (name : List ℕ) → image_name c ≡ Some name → IsTrue files.told → ImageAfter s c (held_by files.contents c) (files.contents name) (left.contents name)
  image_held name named told = subst (λ held. ImageAfter s c held (files.contents name) (left.contents name)) (h.are_held told) (h.image name named told)

  says : IsTrue files.told → Says s c (held_by files.contents c) before after
  says told = subst (λ held. Says s c held before after) (h.are_held told) h.says

no_refusal : (c : Command) (held : Held) (text : List ℕ) → Accepts c held → IsTextOf status.Refused c held text → ⊥
no_refusal c held text a h = refusals_are_one.none c held h.is_last.0 a h.is_last.1

never_long : (c : Command) (held : Held) (text : List ℕ) → IsTextOf status.TooLong c held text → ⊥
never_long c held text h = h.is_last.1

-- nothing but Done and want of memory is left of a command that accepts
only_done : (c : Command) (held : Held) (before after : Output) (R W S : Type 0) (s : Status) → Says s c held before after → Accepts c held
    → (s ≡ status.ReadFault → R) → (s ≡ status.WriteFault → W) → (s ≡ status.SinkFault → S) → ¬ R → ¬ W → ¬ S → (s ≡ status.Done) ⊎ (s ≡ status.Memory)
only_done c held before after R W S status.Done says a r w p nr nw np = inl refl
only_done c held before after R W S status.Memory says a r w p nr nw np = inr refl
only_done c held before after R W S status.Refused says a r w p nr nw np = absurd (no_refusal c held says.0 a says.1)
only_done c held before after R W S status.Usage says a r w p nr nw np = absurd says
only_done c held before after R W S status.TooLong says a r w p nr nw np = absurd (never_long c held says.0 says.1)
only_done c held before after R W S status.ReadFault says a r w p nr nw np = absurd (nr (r refl))
only_done c held before after R W S status.WriteFault says a r w p nr nw np = absurd (nw (w refl))
only_done c held before after R W S status.SinkFault says a r w p nr nw np = absurd (np (p refl))

only_refused : (c : Command) (held : Held) (before after : Output) (R S : Type 0) (s : Status) (q : Refusal) → Says s c held before after → Stands c held q
    → (s ≡ status.ReadFault → R) → (s ≡ status.SinkFault → S) → ¬ R → ¬ S → (s ≡ status.Refused) ⊎ (s ≡ status.Memory)
only_refused c held before after R S status.Done q says h r p nr np = absurd (refusals_are_one.none c held q says.1.is_last.0 h)
only_refused c held before after R S status.Memory q says h r p nr np = inr refl
only_refused c held before after R S status.Refused q says h r p nr np = inl refl
only_refused c held before after R S status.Usage q says h r p nr np = absurd says
only_refused c held before after R S status.TooLong q says h r p nr np = absurd (never_long c held says.0 says.1)
only_refused c held before after R S status.ReadFault q says h r p nr np = absurd (nr (r refl))
only_refused c held before after R S status.WriteFault q says h r p nr np = absurd (refusals_are_one.none c held q says h)
only_refused c held before after R S status.SinkFault q says h r p nr np = absurd (np (p refl))

module _ (c : Command) (s : Status) (files left : Store) (before after : Output) (h : After c s files left before after) (told : IsTrue files.told) where
  pub done_or_memory : {R W S : Type 0} → Accepts c (held_by files.contents c) → (s ≡ status.ReadFault → R) → (s ≡ status.WriteFault → W) → (s ≡ status.SinkFault → S) → ¬ R → ¬ W → ¬ S → (s ≡ status.Done) ⊎ (s ≡ status.Memory)
  done_or_memory {R = R} {W = W} {S = S} a r w p nr nw np = only_done c (held_by files.contents c) before after R W S s (says c s files left before after h told) a r w p nr nw np

  pub refused_or_memory : {R S : Type 0} (q : Refusal) → Stands c (held_by files.contents c) q → (s ≡ status.ReadFault → R) → (s ≡ status.SinkFault → S) → ¬ R → ¬ S → (s ≡ status.Refused) ⊎ (s ≡ status.Memory)
  refused_or_memory {R = R} {S = S} q stands r p nr np = only_refused c (held_by files.contents c) before after R S s q (says c s files left before after h told) stands r p nr np
