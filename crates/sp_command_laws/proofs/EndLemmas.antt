-- What stands after a command, by the cases of its status.
use Rattle.std.proofs.Common.{◌≡◌, ◌≢◌, ◌⊎◌, ℕ, List, [], ◌∷◌, ◌++◌, length, Option, Some, refl, sym, ap, subst, ◌∙◌, inl, inr}
use Rattle.std.specs.Prelude.{◌↔◌}
use Rattle.std.specs.List.{flat_map}
use Rattle.std.proofs.Math.Seq.{take-length}
use Rattle.sp_base.specs.declared.calls.Access.TheVariants.{Write}
use Rattle.sp_base.specs.declared.calls.Outcome.{Outcome}
use Rattle.sp_base.specs.declared.calls.Outcome.TheVariants as outcome
use Rattle.sp_base.specs.Calls.{Call, call}
use Rattle.sp_base.specs.Files.{IsFrontOf, Output}
use Rattle.sp_hex.specs.Hex.{text}
use Rattle.sp_cli.specs.declared.status.Status.{Status}
use Rattle.sp_cli.specs.declared.status.Status.TheVariants as status
use Rattle.sp_cli.specs.Command.{Command}
use Rattle.sp_cli.specs.Inputs.{Held}
use Rattle.sp_cli.specs.Session.{AreWrites, FollowsReads}
use Rattle.sp_cli.specs.Space.{HoldsFront, HoldsImage, ImageAfter, IsLastText, IsText, IsTextOf, SinkAfter, TookFront}
use Rattle.sp_command_laws.specs.Ends.{FollowReads, KeepPromises, MayStay, SayStatuses, WriteOnce}

-- ---- Fronts

whole_front : (bytes : List ℕ) → IsFrontOf bytes bytes
whole_front bytes = (length bytes, sym (take-length bytes))

-- a file that holds the image holds a front of it
holds_front : (c : Command) (held : Held) (file : Option (List ℕ)) → HoldsImage c held file → HoldsFront c held file
holds_front c held file h =
    record { image = h.image; front = text h.image; right = h.right; is_front = whole_front (text h.image); written = h.written }

file_after : (s : Status) (c : Command) (held : Held) (before after : Option (List ℕ)) → ImageAfter s c held before after
    → (after ≡ before) ⊎ HoldsFront c held after
file_after status.Done c held before after h = inr (holds_front c held after h)
file_after status.WriteFault c held before after h = h
file_after status.SinkFault c held before after (inl h) = inl h.1
file_after status.SinkFault c held before after (inr h) = inr (holds_front c held after h.1)
file_after status.Memory c held before after (inl h) = inl h
file_after status.Memory c held before after (inr h) = inr (holds_front c held after h)
file_after status.Refused c held before after h = inl h
file_after status.Usage c held before after h = inl h
file_after status.ReadFault c held before after h = inl h
file_after status.TooLong c held before after h = inl h

abbrev TookSome : Command → Held → Output → Output → Type 0
TookSome c held before after = (after.taken ≡ before.taken) ⊎ ((text : List ℕ) × IsText c held text × TookFront before after text)

took_whole : (s : Status) (c : Command) (held : Held) (before after : Output)
    → (text : List ℕ) × IsTextOf s c held text × (after.taken ≡ before.taken ++ text) → TookSome c held before after
took_whole s c held before after h = inr (h.0, (s, h.1), (h.0, whole_front h.0, h.2))

sink_after : (s : Status) (c : Command) (held : Held) (before after : Output) → SinkAfter s c held before after
    → TookSome c held before after
sink_after status.Done c held before after h = took_whole status.Done c held before after h
sink_after status.Refused c held before after h = took_whole status.Refused c held before after h
sink_after status.Usage c held before after h = absurd h
sink_after status.ReadFault c held before after h = inl h
sink_after status.WriteFault c held before after h = inl h
sink_after status.SinkFault c held before after h = inr h
sink_after status.Memory c held before after h = h
sink_after status.TooLong c held before after h = took_whole status.TooLong c held before after h

pub keep_promises : KeepPromises
keep_promises = record { file = file_after; sink = sink_after }

-- ---- What may stay

file_stays : (s : Status) (c : Command) (held : Held) (file : Option (List ℕ)) → s ≢ status.Done → s ≢ status.SinkFault
    → ImageAfter s c held file file
file_stays status.Done c held file other also = absurd (other refl)
file_stays status.SinkFault c held file other also = absurd (also refl)
file_stays status.WriteFault c held file other also = inl refl
file_stays status.Memory c held file other also = inl refl
file_stays status.Refused c held file other also = refl
file_stays status.Usage c held file other also = refl
file_stays status.ReadFault c held file other also = refl
file_stays status.TooLong c held file other also = refl

pub may_stay : MayStay
may_stay = record { file = file_stays; sink = λ c held output. inl refl }

-- ---- Texts

-- no text stands before the last
last_is : (s : Status) (c : Command) (held : Held) (text : List ℕ) (h : IsTextOf s c held text) → text ≡ h.last
last_is s c held text h = h.whole ∙ ap (λ before. flat_map (λ (t : List ℕ). t) before ++ h.last) h.are_before

alone : (s : Status) (c : Command) (held : Held) (text : List ℕ) → IsLastText s c held text → IsTextOf s c held text
alone s c held text h = record { before = []; last = text; are_before = refl; is_last = h; whole = refl }

last_text : (s : Status) (c : Command) (held : Held) (text : List ℕ) → IsTextOf s c held text → IsLastText s c held text
last_text s c held text h = subst (IsLastText s c held) (sym (last_is s c held text h)) h.is_last

no_text : (s : Status) (c : Command) (held : Held) (text : List ℕ) → s ≢ status.Done → s ≢ status.Refused → ¬ IsLastText s c held text
no_text status.Done c held text other also h = other refl
no_text status.Refused c held text other also h = also refl
no_text status.TooLong c held text other also h = h.1
no_text status.Usage c held text other also h = h
no_text status.ReadFault c held text other also h = h
no_text status.WriteFault c held text other also h = h
no_text status.SinkFault c held text other also h = h
no_text status.Memory c held text other also h = h

pub say_statuses : SayStatuses
say_statuses = record {
  done = λ c held text. (last_text status.Done c held text, alone status.Done c held text);
  refused = λ c held text. (last_text status.Refused c held text, alone status.Refused c held text);
  none = λ s c held text other also h. no_text s c held text other also (last_text s c held text h);
}

-- ---- Reads and writes

-- statuses that aren't the same
done_is_refused : status.Done ≡ status.Refused → ⊥
done_is_refused e = cc

done_is_sink : status.Done ≡ status.SinkFault → ⊥
done_is_sink e = cc

done_is_memory : status.Done ≡ status.Memory → ⊥
done_is_memory e = cc

fault_is_refused : status.ReadFault ≡ status.Refused → ⊥
fault_is_refused e = cc

fault_is_sink : status.ReadFault ≡ status.SinkFault → ⊥
fault_is_sink e = cc

fault_is_memory : status.ReadFault ≡ status.Memory → ⊥
fault_is_memory e = cc

done_follows : (end : Outcome) → FollowsReads end status.Done ↔ (end ≡ outcome.Done)
done_follows outcome.Done = (λ h. refl, λ e k. absurd cc)
done_follows outcome.Missing = (
  λ h. absurd (elim h [ inl e ↦ done_is_refused e | inr k ↦ elim k [ inl e ↦ done_is_sink e | inr e ↦ done_is_memory e ] ]),
  λ e. absurd cc,
)
done_follows outcome.TooLarge = (
  λ h. absurd (elim h [ inl e ↦ done_is_refused e | inr k ↦ elim k [ inl e ↦ done_is_sink e | inr e ↦ done_is_memory e ] ]),
  λ e. absurd cc,
)
done_follows outcome.Failed = (λ h. absurd cc, λ e. absurd cc)
done_follows outcome.Memory = (λ h. absurd cc, λ e. absurd cc)

fault_follows : (end : Outcome) → FollowsReads end status.ReadFault ↔ (end ≡ outcome.Failed)
fault_follows outcome.Done = (λ h. absurd (h refl), λ e. absurd cc)
fault_follows outcome.Missing = (
  λ h. absurd (elim h [ inl e ↦ fault_is_refused e | inr k ↦ elim k [ inl e ↦ fault_is_sink e | inr e ↦ fault_is_memory e ] ]),
  λ e. absurd cc,
)
fault_follows outcome.TooLarge = (
  λ h. absurd (elim h [ inl e ↦ fault_is_refused e | inr k ↦ elim k [ inl e ↦ fault_is_sink e | inr e ↦ fault_is_memory e ] ]),
  λ e. absurd cc,
)
fault_follows outcome.Failed = (λ h. refl, λ e. refl)
fault_follows outcome.Memory = (λ h. absurd cc, λ e. absurd cc)

refused_follows : (end : Outcome) → FollowsReads end status.Refused ↔ ((end ≢ outcome.Failed) × (end ≢ outcome.Memory))
refused_follows outcome.Done = (λ h. (λ e. absurd cc, λ e. absurd cc), λ h e. absurd cc)
refused_follows outcome.Missing = (λ h. (λ e. absurd cc, λ e. absurd cc), λ h. inl refl)
refused_follows outcome.TooLarge = (λ h. (λ e. absurd cc, λ e. absurd cc), λ h. inl refl)
refused_follows outcome.Failed = (λ h. absurd cc, λ h. absurd (h.0 refl))
refused_follows outcome.Memory = (λ h. absurd cc, λ h. absurd (h.1 refl))

pub follow_reads : FollowReads
follow_reads = record { done = done_follows; fault = fault_follows; refused = refused_follows }

abbrev AtMostOne : List ℕ → List Call → Type 0
AtMostOne name calls = (calls ≡ []) ⊎ ((end : Outcome) × (calls ≡ call Write name end ∷ []))

once : (s : Status) (name : List ℕ) (calls : List Call) → AreWrites (Some name) s calls → AtMostOne name calls
once status.Done name calls h = inr (outcome.Done, h)
once status.WriteFault name calls h = inr (outcome.Failed, h)
once status.SinkFault name calls (inl h) = inl h
once status.SinkFault name calls (inr h) = inr (outcome.Done, h)
once status.Memory name calls (inl h) = inl h
once status.Memory name calls (inr h) = inr (h.0, h.2)
once status.Refused name calls h = inl h
once status.Usage name calls h = inl h
once status.ReadFault name calls h = inl h
once status.TooLong name calls h = inl h

pub write_once : WriteOnce
write_once = record {
  none = λ s calls. (λ h. h, λ h. h);
  once = once;
  done = λ name calls. (λ h. h, λ h. h);
  refused = λ name calls. (λ h. h, λ h. h);
}
