-- Files of commands, their limits and their reads.
use Rattle.std.proofs.Common.{◌≡◌, ℕ, ◌<◌, ◌≤◌, List, [], ◌∷◌, length, map, replicate, Option, Some, None, refl, sym, ap, subst, ◌∙◌, inl, inr}
use Rattle.std.specs.Prelude.{◌↔◌, ◌⊎◌}
use Rattle.std.specs.List.{filter_map}
use Rattle.std.proofs.lemmas.List.{length-replicate}
use Rattle.sp_base.specs.declared.calls.Access.TheVariants.{Read}
use Rattle.sp_base.specs.declared.calls.Outcome.TheVariants as outcome
use Rattle.sp_base.specs.Calls.{Call, call}
use Rattle.sp_cli.specs.declared.refusal.Input.{Input}
use Rattle.sp_cli.specs.declared.refusal.Refusal.{Refusal}
use Rattle.sp_cli.specs.declared.refusal.Refusal.TheVariants as refusal
use Rattle.sp_cli.specs.declared.refusal.Input.TheVariants.{Source, Scripts, Image}
use Rattle.sp_cli.specs.Command.{Command, Verify, Asm, Run, Check, held_by, read_names}
use Rattle.sp_cli.specs.Inputs.{IsWithin, RefusesFile, content, limit}
use Rattle.sp_cli.specs.Session.{AreReads}
use Rattle.sp_cli.specs.Stages.{stages_of}
use Rattle.sp_command_laws.specs.Commands.{LimitFiles, NameFiles, OrderReads, a, b, done, input_of}

-- ---- Names

inputs_are : (files : List ℕ → Option (List ℕ)) (command : Command)
    → map files (read_names command) ≡ map (λ input. content input (held_by files command)) (filter_map input_of (stages_of command))
inputs_are files (Verify source scripts image) = refl
inputs_are files (Asm source image) = refl
inputs_are files (Run image options) = refl
inputs_are files (Check source) = refl

pub name_files : NameFiles
name_files = record {
  inputs = inputs_are;
  verify = refl;
  none_else = refl;
  written = refl;
  written_by_verify = refl;
  run_writes_nothing = refl;
  check = refl;
  check_writes_nothing = refl;
}

-- ---- Limits

bytes_are : (n : ℕ) (bytes : List ℕ) → Some (replicate n 0) ≡ Some bytes → length bytes ≡ n
bytes_are n bytes e = ap length (sym (same (replicate n 0) bytes e)) ∙ length-replicate {A = ℕ} n 0
  where
    same : (x y : List ℕ) → Some x ≡ Some y → x ≡ y
    same x y e = cc

no_file : (bytes : List ℕ) → None ≡ Some bytes → ⊥
no_file bytes e = cc

some_file : (bytes : List ℕ) → Some bytes ≡ None → ⊥
some_file bytes e = cc

within : (input : Input) (n : ℕ) → IsWithin input (Some (replicate n 0)) ↔ (n ≤ limit input)
within input n = (
  λ h. subst (λ m. m ≤ limit input) (bytes_are n h.0 h.1) h.2,
  λ h. (replicate n 0, refl, subst (λ m. m ≤ limit input) (sym (length-replicate {A = ℕ} n 0)) h),
)

large : (input : Input) (n : ℕ) (r : Refusal) → RefusesFile input (Some (replicate n 0)) r → (r ≡ refusal.TooLarge input)
    × (limit input < n)
large input n r (inl h) = absurd (some_file (replicate n 0) h.1)
large input n r (inr h) = (h.0, subst (λ m. limit input < m) (bytes_are n h.1.0 h.1.1) h.1.2)

lost : (input : Input) (r : Refusal) → RefusesFile input None r → r ≡ refusal.Missing input
lost input r (inl h) = h.0
lost input r (inr h) = absurd (no_file h.1.0 h.1.1)

pub limit_files : LimitFiles
limit_files = record {
  source = within Source;
  scripts = within Scripts;
  image = within Image;
  none = λ input h. no_file h.0 h.1;
  missing = λ input r. (lost input r, λ e. inl (e, refl));
  too_large = λ input n r. (
    large input n r,
    λ h. inr (h.0, (replicate n 0, refl, subst (λ m. limit input < m) (sym (length-replicate {A = ℕ} n 0)) h.1)),
  );
}

-- ---- Reads

missing_is_done : outcome.Missing ≡ outcome.Done → ⊥
missing_is_done e = cc

missing_is_memory : outcome.Missing ≡ outcome.Memory → ⊥
missing_is_memory e = cc

memory_is_done : outcome.Memory ≡ outcome.Done → ⊥
memory_is_done e = cc

pub all_read : (names : List (List ℕ)) (calls : List Call) → AreReads names outcome.Done calls → calls ≡ map done names
all_read [] calls h = h.1
all_read (name ∷ names) calls (inl h) = h.1 ∙ ap (λ rest. done name ∷ rest) (all_read names h.0 h.2)
all_read (name ∷ names) calls (inr h) = absurd (h.0 refl)

pub reads_of : (names : List (List ℕ)) (calls : List Call) → calls ≡ map done names → AreReads names outcome.Done calls
reads_of [] calls e = (refl, e)
reads_of (name ∷ names) calls e = inl (map done names, e, reads_of names (map done names) refl)

second_missing : (rest : List Call) → AreReads (b ∷ []) outcome.Missing rest → rest ≡ call Read b outcome.Missing ∷ []
second_missing rest (inl h) = absurd (missing_is_done h.2.0)
second_missing rest (inr (none, inl h)) = h
second_missing rest (inr (none, inr h)) = absurd (missing_is_memory h.0)

one_missing : (calls : List Call) → AreReads (a ∷ b ∷ []) outcome.Missing calls
    → (calls ≡ call Read a outcome.Missing ∷ []) ⊎ (calls ≡ done a ∷ call Read b outcome.Missing ∷ [])
one_missing calls (inl h) = inr (h.1 ∙ ap (λ rest. done a ∷ rest) (second_missing h.0 h.2))
one_missing calls (inr (none, inl h)) = inl h
one_missing calls (inr (none, inr h)) = absurd (missing_is_memory h.0)

missing_one : (calls : List Call) → (calls ≡ call Read a outcome.Missing ∷ []) ⊎ (calls ≡ done a ∷ call Read b outcome.Missing ∷ [])
    → AreReads (a ∷ b ∷ []) outcome.Missing calls
missing_one calls (inl e) = inr (missing_is_done, inl e)
missing_one calls (inr e) = inl (call Read b outcome.Missing ∷ [], e, inr (missing_is_done, inl refl))

without_memory : (calls : List Call) → AreReads (a ∷ []) outcome.Memory calls → (calls ≡ call Read a outcome.Memory ∷ []) ⊎ (calls ≡ [])
without_memory calls (inl h) = absurd (memory_is_done h.2.0)
without_memory calls (inr (none, inl h)) = inl h
without_memory calls (inr (none, inr h)) = inr h.1

memory_out : (calls : List Call) → (calls ≡ call Read a outcome.Memory ∷ []) ⊎ (calls ≡ []) → AreReads (a ∷ []) outcome.Memory calls
memory_out calls (inl e) = inr (memory_is_done, inl e)
memory_out calls (inr e) = inr (memory_is_done, inr (refl, e))

pub order_reads : OrderReads
order_reads = record {
  all = λ names calls. (all_read names calls, reads_of names calls);
  missing = λ calls. (one_missing calls, missing_one calls);
  memory = λ calls. (without_memory calls, memory_out calls);
}
