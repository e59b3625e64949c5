use Rattle.std.proofs.Common.{◌≡◌, ◌+◌, ◌++◌, None, length}
use Rattle.sp_lex.specs.Pieces.{tokens_from}
use Rattle.sp_lex.specs.code.Pieces.{cuts, fault_in}
use Rattle.sp_lex.proofs.pieces.scan.Given as goal

abbrev pub invariant-loop-rest : goal.invariant-loop-rest
invariant-loop-rest l =
    (fault_in l.annotation l.fault (cuts l.annotation 0 l.rest) ≡ fault_in l.annotation None (cuts l.annotation 0 l.fn.bytes))
    × (l.tokens.items ++ tokens_from l.at (cuts l.annotation 0 l.rest) ≡ l.fn.tokens.items ++ tokens_from l.fn.at (cuts l.annotation 0 l.fn.bytes))
    × (l.at + length l.rest ≡ l.fn.at + length l.fn.bytes)

abbrev pub decreases-loop-rest : goal.decreases-loop-rest
decreases-loop-rest l = length l.rest
