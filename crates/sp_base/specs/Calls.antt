-- Calls on files (this project's own).
use Rattle.std.specs.Prelude.{ℕ, List, map, string_bytes}
use Rattle.sp_base.specs.declared.calls.Access.{Access}
use Rattle.sp_base.specs.declared.calls.Outcome.{Outcome}
use Rattle.sp_base.specs.declared.calls.FileCall.{FileCall}
use Rattle.sp_base.specs.declared.calls.CallLog.{CallLog}

-- what a call did with the file of which name, and how it ended
pub record Call : Type 0 where
  pub access : Access
  pub name : List ℕ
  pub outcome : Outcome

abbrev pub call : Access → List ℕ → Outcome → Call
call access name outcome = record { access = access; name = name; outcome = outcome }

-- the same call with another end
abbrev pub ended : Call → Outcome → Call
ended c outcome = record c { outcome = outcome }

abbrev pub call_of : FileCall → Call
call_of c = call c.access (string_bytes c.name) c.outcome

abbrev pub calls_of : CallLog → List Call
calls_of log = map call_of log.calls.items
