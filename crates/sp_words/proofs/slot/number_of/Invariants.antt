use Rattle.std.proofs.Common.{◌≡◌, ◌≤◌, drop}
use Rattle.sp_words.specs.code.Slots.{number_after}
use Rattle.sp_words.proofs.slot.number_of.Given as goal

abbrev pub invariant-loop-digit : goal.invariant-loop-digit
invariant-loop-digit l = record { small : l.number ≤ 32767; same : number_after l.number (drop l.digit-index l.digits) ≡ number_after 0 l.digits }
