-- The calls of commands on files, by example.
use Rattle.std.specs.Prelude.{◌≡◌, ◌↔◌, ◌⊎◌, List, [], ◌∷◌, ◌++◌}
use Rattle.sp_base.specs.declared.calls.Access.TheVariants.{Read, Write}
use Rattle.sp_base.specs.declared.calls.Outcome.TheVariants as outcome
use Rattle.sp_base.specs.Calls.{Call, call}
use Rattle.sp_cli.specs.declared.status.Status.TheVariants as status
use Rattle.sp_cli.specs.Command.{Verify, Asm, Run, Check}
use Rattle.sp_cli.specs.Session.{AddsSession, IsSession}
use Rattle.sp_command_laws.specs.Commands.{a, b, c, done}

-- the image is written
abbrev pub written : Call
written = call Write c outcome.Done

-- a command that is done reads its inputs and then writes its image; one that refuses writes nothing; and none writes after a
-- read that isn't done, though it can after one that is, where the sink fails
pub record CallFiles : Type 0 where
  pub asm_done : (calls : List Call) → IsSession (Asm a c) status.Done calls ↔ (calls ≡ done a ∷ written ∷ [])
  pub verify_done : (calls : List Call) → IsSession (Verify a b c) status.Done calls ↔ (calls ≡ done a ∷ done b ∷ written ∷ [])
  pub run_done : (calls : List Call) → IsSession (Run c []) status.Done calls ↔ (calls ≡ done c ∷ [])
  pub check_done : (calls : List Call) → IsSession (Check a) status.Done calls ↔ (calls ≡ done a ∷ [])
  pub asm_refused : (calls : List Call)
      → IsSession (Asm a c) status.Refused calls
      ↔ ((calls ≡ done a ∷ []) ⊎ ((calls ≡ call Read a outcome.Missing ∷ []) ⊎ (calls ≡ call Read a outcome.TooLarge ∷ [])))
  pub after_done : IsSession (Asm a c) status.SinkFault (done a ∷ written ∷ [])
  pub after_missing : ¬ IsSession (Asm a c) status.SinkFault (call Read a outcome.Missing ∷ written ∷ [])
  pub added : (before after : List Call) → AddsSession (Run c []) status.Done before after ↔ (after ≡ before ++ done c ∷ [])
