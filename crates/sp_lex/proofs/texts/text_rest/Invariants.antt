use Rattle.std.proofs.Common.{◌≡◌, ◌-◌, ◌≤◌, length, drop}
use Rattle.std.specs.Prelude.{IfSome}
use Rattle.sp_lex.specs.code.Pieces.{text_rest}
use Rattle.sp_lex.proofs.TextLemmas.{plus, or_closed}
use Rattle.sp_lex.proofs.texts.text_rest.Given as goal

abbrev pub invariant-loop-len : goal.invariant-loop-len
invariant-loop-len l =
    (or_closed (plus l.len (text_rest (drop l.len l.bytes))) l.closed ≡ text_rest l.bytes) × (l.len ≤ length l.bytes)
    × IfSome l.closed (λ n. n ≤ length l.bytes)

abbrev pub decreases-loop-len : goal.decreases-loop-len
decreases-loop-len l = length l.bytes - l.len
