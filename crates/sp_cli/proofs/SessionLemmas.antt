-- The calls on files of a command, from its reads and its write.
use Rattle.std.proofs.Common.{◌≡◌, ◌≢◌, ◌⊎◌, ℕ, List, [], ◌∷◌, ◌++◌, refl, sym, ap, subst, ◌∙◌, Some, None, Ok, Err, inl, inr}
use Rattle.std.specs.Prelude.{Option, Result}
use Rattle.std.proofs.lemmas.List.{append-nil, append_assoc}
use Rattle.sp_base.specs.declared.calls.Access.TheVariants.{Write}
use Rattle.sp_base.specs.declared.calls.Outcome.{Outcome}
use Rattle.sp_base.specs.declared.calls.Outcome.TheVariants as outcome
use Rattle.sp_base.specs.declared.files.WriteRefusal.TheVariants as write
use Rattle.sp_base.specs.Calls.{Call, call}
use Rattle.sp_base.specs.Files.{Output}
use Rattle.sp_cli.specs.declared.status.Status.{Status}
use Rattle.sp_cli.specs.declared.status.Status.TheVariants as status
use Rattle.sp_cli.specs.declared.refusal.Refusal.{Refusal}
use Rattle.sp_cli.specs.declared.refusal.Stop.{Stop}
use Rattle.sp_cli.specs.declared.refusal.Stop.TheVariants as stop
use Rattle.sp_cli.specs.declared.product.Product.{Product}
use Rattle.sp_cli.specs.Command.{Command, image_name, read_names}
use Rattle.sp_cli.specs.Session.{FollowsReads, AreWrites, AddsSession}
use Rattle.sp_cli.specs.code.Made.{EndsReads, AddsReads, AddsWrite}
use Rattle.sp_cli.specs.code.Put.{PutEnds}
use Rattle.sp_cli.proofs.ReadLemmas.{err}

no_write : (image : Option (List ℕ)) (s : Status) → s ≢ status.Done → s ≢ status.WriteFault → AreWrites image s []
no_write None s done fault = refl
no_write (Some name) status.Done done fault = absurd (done refl)
no_write (Some name) status.WriteFault done fault = absurd (fault refl)
no_write (Some name) status.SinkFault done fault = inl refl
no_write (Some name) status.Memory done fault = inl refl
no_write (Some name) status.Refused done fault = refl
no_write (Some name) status.Usage done fault = refl
no_write (Some name) status.ReadFault done fault = refl
no_write (Some name) status.TooLong done fault = refl

-- the statuses of a command that ends before it writes
data Early : Status → Type 0 where
  Faulty : Early status.ReadFault
  Short : Early status.Memory
  Said : Early status.Refused
  Unsaid : Early status.SinkFault

early_no_write : (image : Option (List ℕ)) (s : Status) → Early s → AreWrites image s []
early_no_write image s Faulty = no_write image status.ReadFault (λ e. cc) (λ e. cc)
early_no_write image s Short = no_write image status.Memory (λ e. cc) (λ e. cc)
early_no_write image s Said = no_write image status.Refused (λ e. cc) (λ e. cc)
early_no_write image s Unsaid = no_write image status.SinkFault (λ e. cc) (λ e. cc)

module _ (c : Command) (before after : List Call) where
  early : (result : Result Product Stop) (s : Status) (h : AddsReads (read_names c) result before after) → Early s → FollowsReads h.end s → AddsSession c s before after
  early result s h e follows = (
    h.calls,
    h.added,
    record {
      reads = h.calls;
      writes = [];
      end = h.end;
      whole = sym (append-nil h.calls);
      are_reads = h.are_reads;
      follows = follows;
      are_writes = early_no_write (image_name c) s e;
      early = λ _. refl;
    },
  )

  fault_follows : (end : Outcome) → EndsReads end (err Product stop.Fault) → FollowsReads end status.ReadFault
  fault_follows outcome.Done h = absurd (h refl)
  fault_follows outcome.Missing h = absurd (let e = h.1 in cc)
  fault_follows outcome.TooLarge h = absurd (let e = h.1 in cc)
  fault_follows outcome.Failed h = refl
  fault_follows outcome.Memory h = absurd cc

  pub fault_session : AddsReads (read_names c) (err Product stop.Fault) before after → AddsSession c status.ReadFault before after
  fault_session h = early _ status.ReadFault h Faulty (fault_follows h.end h.ends)

  memory_follows : (end : Outcome) → EndsReads end (err Product stop.Memory) → FollowsReads end status.Memory
  memory_follows outcome.Done h = λ e. cc
  memory_follows outcome.Missing h = absurd (let e = h.1 in cc)
  memory_follows outcome.TooLarge h = absurd (let e = h.1 in cc)
  memory_follows outcome.Failed h = absurd cc
  memory_follows outcome.Memory h = refl

  pub memory_session : AddsReads (read_names c) (err Product stop.Memory) before after → AddsSession c status.Memory before after
  memory_session h = early _ status.Memory h Short (memory_follows h.end h.ends)

  refused_follows : (r : Refusal) (end : Outcome) (s : Status) → EndsReads end (err Product (stop.Refused r)) → s ≢ status.ReadFault → (s ≡ status.Refused) ⊎ ((s ≡ status.SinkFault) ⊎ (s ≡ status.Memory)) → FollowsReads end s
  refused_follows r outcome.Done s h fault which = fault
  refused_follows r outcome.Missing s h fault which = which
  refused_follows r outcome.TooLarge s h fault which = which
  refused_follows r outcome.Failed s h fault which = absurd cc
  refused_follows r outcome.Memory s h fault which = absurd cc

  pub refused_session : (r : Refusal) (text : List ℕ) (out new : Output) (s : Status) → PutEnds status.Refused text out new s → AddsReads (read_names c) (err Product (stop.Refused r)) before after → AddsSession c s before after
  refused_session r text out new s (inl (is, took)) h = subst (λ s. AddsSession c s before after) (sym is) (early _ status.Refused h Said (refused_follows r h.end status.Refused h.ends (λ e. cc) (inl refl)))
  refused_session r text out new s (inr (inl (is, rose, took))) h = subst (λ s. AddsSession c s before after) (sym is) (early _ status.SinkFault h Unsaid (refused_follows r h.end status.SinkFault h.ends (λ e. cc) (inr (inl refl))))
  refused_session r text out new s (inr (inr (is, took))) h = subst (λ s. AddsSession c s before after) (sym is) (early _ status.Memory h Short (refused_follows r h.end status.Memory h.ends (λ e. cc) (inr (inr refl))))

all_read : (end : Outcome) (p : Product) → EndsReads end (Ok p) → end ≡ outcome.Done
all_read outcome.Done p h = refl
all_read outcome.Missing p h = absurd (let e = h.1 in cc)
all_read outcome.TooLarge p h = absurd (let e = h.1 in cc)
all_read outcome.Failed p h = absurd cc
all_read outcome.Memory p h = absurd cc

module _ (c : Command) (before mid after : List Call) (p : Product) (h : AddsReads (read_names c) (Ok p) before mid) where
  late : (s : Status) (writes : List Call) → s ≢ status.ReadFault → after ≡ mid ++ writes → AreWrites (image_name c) s writes → AddsSession c s before after
  late s writes fault added are = (
    h.calls ++ writes,
    added ∙ ap (λ cs. cs ++ writes) h.added ∙ append_assoc before h.calls writes,
    record {
      reads = h.calls;
      writes = writes;
      end = h.end;
      whole = refl;
      are_reads = h.are_reads;
      follows = subst (λ e. FollowsReads e s) (sym (all_read h.end p h.ends)) fault;
      are_writes = are;
      early = λ not. absurd (not (all_read h.end p h.ends));
    },
  )

  -- the statuses after an image was written whole
  written : (image : Option (List ℕ)) (s : Status) → AddsWrite image (Ok tt) mid after → (s ≡ status.Done) ⊎ ((s ≡ status.SinkFault) ⊎ (s ≡ status.Memory)) → (writes : List Call) × (after ≡ mid ++ writes) × AreWrites image s writes
  written None s w which = ([], w.1 ∙ sym (append-nil mid), refl)
  written (Some name) s (inl w) (inl is) = (call Write name outcome.Done ∷ [], w, subst (λ s. AreWrites (Some name) s (call Write name outcome.Done ∷ [])) (sym is) refl)
  written (Some name) s (inl w) (inr (inl is)) = (call Write name outcome.Done ∷ [], w, subst (λ s. AreWrites (Some name) s (call Write name outcome.Done ∷ [])) (sym is) (inr refl))
  written (Some name) s (inl w) (inr (inr is)) = (call Write name outcome.Done ∷ [], w, subst (λ s. AreWrites (Some name) s (call Write name outcome.Done ∷ [])) (sym is) (inr (outcome.Done, (λ e. cc), refl)))
  written (Some name) s (inr w) which = absurd (let e = w.0 in cc)

  which_put : (text : List ℕ) (out new : Output) (s : Status) → PutEnds status.Done text out new s → (s ≡ status.Done) ⊎ ((s ≡ status.SinkFault) ⊎ (s ≡ status.Memory))
  which_put text out new s (inl (is, took)) = inl is
  which_put text out new s (inr (inl (is, rose, took))) = inr (inl is)
  which_put text out new s (inr (inr (is, took))) = inr (inr is)

  no_fault : (s : Status) → (s ≡ status.Done) ⊎ ((s ≡ status.SinkFault) ⊎ (s ≡ status.Memory)) → s ≢ status.ReadFault
  no_fault s (inl is) = λ e. cc
  no_fault s (inr (inl is)) = λ e. cc
  no_fault s (inr (inr is)) = λ e. cc

  pub report_session : (text : List ℕ) (out new : Output) (s : Status) → PutEnds status.Done text out new s → AddsWrite (image_name c) (Ok tt) mid after → AddsSession c s before after
  report_session text out new s ends w =
      let which = which_put text out new s ends in
      let writes = written (image_name c) s w which in
      late s writes.0 (no_fault s which) writes.1 writes.2

  fault_write : (image : Option (List ℕ)) → AddsWrite image (Err write.Failed) mid after → (writes : List Call) × (after ≡ mid ++ writes) × AreWrites image status.WriteFault writes
  fault_write None w = absurd (let e = w.0 in cc)
  fault_write (Some name) (inl w) = (call Write name outcome.Failed ∷ [], w, refl)
  fault_write (Some name) (inr w) = absurd (let e = w.0 in cc)

  pub write_fault_session : AddsWrite (image_name c) (Err write.Failed) mid after → AddsSession c status.WriteFault before after
  write_fault_session w = let writes = fault_write (image_name c) w in late status.WriteFault writes.0 (λ e. cc) writes.1 writes.2

  memory_write : (image : Option (List ℕ)) → AddsWrite image (Err write.Memory) mid after → (writes : List Call) × (after ≡ mid ++ writes) × AreWrites image status.Memory writes
  memory_write None w = absurd (let e = w.0 in cc)
  memory_write (Some name) (inl w) = (call Write name outcome.Memory ∷ [], w, inr (outcome.Memory, (λ e. cc), refl))
  memory_write (Some name) (inr w) = ([], w.1 ∙ sym (append-nil mid), inl refl)

  pub write_memory_session : AddsWrite (image_name c) (Err write.Memory) mid after → AddsSession c status.Memory before after
  write_memory_session w = let writes = memory_write (image_name c) w in late status.Memory writes.0 (λ e. cc) writes.1 writes.2
