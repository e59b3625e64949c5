-- The calls of commands, from how their reads ended.
use Rattle.std.proofs.Common.{◌≡◌, ◌≢◌, ◌⊎◌, ◌≤◌, List, [], ◌∷◌, ◌++◌, length, map, refl, sym, ap, subst, ◌∙◌, inl, inr, arith}
use Rattle.std.proofs.lemmas.List.{append-nil}
use Rattle.sp_base.specs.declared.calls.Access.TheVariants.{Read}
use Rattle.sp_base.specs.declared.calls.Outcome.{Outcome}
use Rattle.sp_base.specs.declared.calls.Outcome.TheVariants as outcome
use Rattle.sp_base.specs.Calls.{Call, call}
use Rattle.sp_cli.specs.declared.status.Status.{Status}
use Rattle.sp_cli.specs.declared.status.Status.TheVariants as status
use Rattle.sp_cli.specs.Command.{Command, Verify, Asm, Run, Check, image_name, read_names}
use Rattle.sp_cli.specs.Session.{AreReads, AreWrites, FollowsReads, IsSession}
use Rattle.sp_command_laws.specs.Commands.{a, b, c, done}
use Rattle.sp_command_laws.specs.Sessions.{CallFiles, written}
use Rattle.sp_command_laws.proofs.CommandLemmas.{all_read, reads_of}
use Rattle.sp_command_laws.proofs.EndLemmas.{follow_reads}

-- where the reads ended with one that was done, all were
done_reads : (command : Command) (s : Status) (calls : List Call) (h : IsSession command s calls) → h.end ≡ outcome.Done
    → h.reads ≡ map done (read_names command)
done_reads command s calls h e = all_read (read_names command) h.reads (subst (λ end. AreReads (read_names command) end h.reads) e h.are_reads)

done_calls : (command : Command) (calls : List Call) (h : IsSession command status.Done calls) → calls ≡ map done (read_names command) ++ h.writes
done_calls command calls h =
    h.whole ∙ ap (λ reads. reads ++ h.writes) (done_reads command status.Done calls h ((follow_reads.done h.end).0 h.follows))

done_is_fault : status.Done ≡ status.ReadFault → ⊥
done_is_fault e = cc

refused_is_fault : status.Refused ≡ status.ReadFault → ⊥
refused_is_fault e = cc

refused_is_memory : status.Refused ≡ status.Memory → ⊥
refused_is_memory e = cc

sink_is_fault : status.SinkFault ≡ status.ReadFault → ⊥
sink_is_fault e = cc

-- the session of a command that is done, or that ends so after its reads
session : (command : Command) (s : Status) (writes calls : List Call) → s ≢ status.ReadFault
    → AreWrites (image_name command) s writes
    → calls ≡ map done (read_names command) ++ writes → IsSession command s calls
session command s writes calls other are whole = record {
  reads = map done (read_names command);
  writes = writes;
  end = outcome.Done;
  whole = whole;
  are_reads = reads_of (read_names command) (map done (read_names command)) refl;
  follows = other;
  are_writes = are;
  early = λ none. absurd (none refl);
}

-- ---- A refusal

abbrev Refusing : List Call → Type 0
Refusing calls = (calls ≡ done a ∷ []) ⊎ ((calls ≡ call Read a outcome.Missing ∷ []) ⊎ (calls ≡ call Read a outcome.TooLarge ∷ []))

missing_is_done : outcome.Missing ≡ outcome.Done → ⊥
missing_is_done e = cc

missing_is_memory : outcome.Missing ≡ outcome.Memory → ⊥
missing_is_memory e = cc

large_is_done : outcome.TooLarge ≡ outcome.Done → ⊥
large_is_done e = cc

large_is_memory : outcome.TooLarge ≡ outcome.Memory → ⊥
large_is_memory e = cc

refusing : (end : Outcome) (reads : List Call) → AreReads (a ∷ []) end reads → FollowsReads end status.Refused → Refusing reads
refusing outcome.Done reads h follows = inl (all_read (a ∷ []) reads h)
refusing outcome.Missing reads (inl h) follows = absurd (missing_is_done h.2.0)
refusing outcome.Missing reads (inr (none, inl h)) follows = inr (inl h)
refusing outcome.Missing reads (inr (none, inr h)) follows = absurd (missing_is_memory h.0)
refusing outcome.TooLarge reads (inl h) follows = absurd (large_is_done h.2.0)
refusing outcome.TooLarge reads (inr (none, inl h)) follows = inr (inr h)
refusing outcome.TooLarge reads (inr (none, inr h)) follows = absurd (large_is_memory h.0)
refusing outcome.Failed reads h follows = absurd (refused_is_fault follows)
refusing outcome.Memory reads h follows = absurd (refused_is_memory follows)

refused_calls : (calls : List Call) → IsSession (Asm a c) status.Refused calls → Refusing calls
refused_calls calls h =
    let alone : h.reads ≡ calls = sym (append-nil h.reads) ∙ ap (λ writes. h.reads ++ writes) (sym h.are_writes) ∙ sym h.whole in
    subst Refusing alone (refusing h.end h.reads h.are_reads h.follows)

refused_session : (calls : List Call) → Refusing calls → IsSession (Asm a c) status.Refused calls
refused_session calls (inl e) = session (Asm a c) status.Refused [] calls refused_is_fault refl e
refused_session calls (inr (inl e)) = record {
  reads = call Read a outcome.Missing ∷ [];
  writes = [];
  end = outcome.Missing;
  whole = e;
  are_reads = inr (missing_is_done, inl refl);
  follows = inl refl;
  are_writes = refl;
  early = λ none. refl;
}
refused_session calls (inr (inr e)) = record {
  reads = call Read a outcome.TooLarge ∷ [];
  writes = [];
  end = outcome.TooLarge;
  whole = e;
  are_reads = inr (large_is_done, inl refl);
  follows = inl refl;
  are_writes = refl;
  early = λ none. refl;
}

-- ---- No write after a read that isn't done

short : (end : Outcome) (reads : List Call) → end ≢ outcome.Done → AreReads (a ∷ []) end reads → length reads ≤ 1
short end reads other (inl h) = absurd (other h.2.0)
short end reads other (inr (none, inl h)) = let one : length reads ≡ 1 = ap length h in omega arith
short end reads other (inr (none, inr h)) = let none : length reads ≡ 0 = ap length h.1 in omega arith

abbrev first_outcome : List Call → Outcome
first_outcome [] = outcome.Memory
first_outcome (first ∷ calls) = first.outcome

failed_is_done : outcome.Failed ≡ outcome.Done → ⊥
failed_is_done e = cc

memory_is_done : outcome.Memory ≡ outcome.Done → ⊥
memory_is_done e = cc

abbrev Late : Type 0
Late = IsSession (Asm a c) status.SinkFault (call Read a outcome.Missing ∷ written ∷ [])

too_short : (h : Late) → h.end ≢ outcome.Done → ⊥
too_short h other =
    let one : length h.reads ≤ 1 = short h.end h.reads other h.are_reads in
    let alone = h.whole ∙ ap (λ writes. h.reads ++ writes) (h.early other) ∙ append-nil h.reads in
    let two : 2 ≡ length h.reads = ap length alone in
    omega arith

not_after : (h : Late) (end : Outcome) → h.end ≡ end → ⊥
not_after h outcome.Done e =
    let calls = h.whole ∙ ap (λ reads. reads ++ h.writes) (done_reads (Asm a c) status.SinkFault _ h e) in
    missing_is_done (ap first_outcome calls)
not_after h outcome.Missing e = too_short h (λ k. missing_is_done (sym e ∙ k))
not_after h outcome.TooLarge e = too_short h (λ k. large_is_done (sym e ∙ k))
not_after h outcome.Failed e = too_short h (λ k. failed_is_done (sym e ∙ k))
not_after h outcome.Memory e = too_short h (λ k. memory_is_done (sym e ∙ k))

run_calls : (calls : List Call) → IsSession (Run c []) status.Done calls → calls ≡ done c ∷ []
run_calls calls h = done_calls (Run c []) calls h ∙ ap (λ writes. done c ∷ writes) h.are_writes

pub call_files : CallFiles
call_files = record {
  asm_done = λ calls. (
    λ h. done_calls (Asm a c) calls h ∙ ap (λ writes. done a ∷ writes) h.are_writes,
    session (Asm a c) status.Done (written ∷ []) calls done_is_fault refl,
  );
  verify_done = λ calls. (
    λ h. done_calls (Verify a b c) calls h ∙ ap (λ writes. done a ∷ done b ∷ writes) h.are_writes,
    session (Verify a b c) status.Done (written ∷ []) calls done_is_fault refl,
  );
  run_done = λ calls. (
    run_calls calls,
    session (Run c []) status.Done [] calls done_is_fault refl,
  );
  check_done = λ calls. (
    λ h. done_calls (Check a) calls h ∙ ap (λ writes. done a ∷ writes) h.are_writes,
    session (Check a) status.Done [] calls done_is_fault refl,
  );
  asm_refused = λ calls. (refused_calls calls, refused_session calls);
  after_done = session (Asm a c) status.SinkFault (written ∷ []) (done a ∷ written ∷ []) sink_is_fault (inr refl) refl;
  after_missing = λ h. not_after h h.end refl;
  added = λ before after. (
    λ h. h.1 ∙ ap (λ calls. before ++ calls) (run_calls h.0 h.2),
    λ e. (done c ∷ [], e, session (Run c []) status.Done [] (done c ∷ []) done_is_fault refl refl),
  );
}
