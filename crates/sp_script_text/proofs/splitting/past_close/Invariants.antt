use Rattle.std.proofs.Common.{◌≡◌, ◌≤◌, drop}
use Rattle.sp_script_text.specs.code.Arguments.{past_close}
use Rattle.sp_script_text.proofs.splitting.past_close.Given as goal

abbrev pub invariant-loop-i : goal.invariant-loop-i
invariant-loop-i l = (past_close l.level (drop l.i l.text) ≡ past_close 0 l.text) × (l.level ≤ l.i)
