use Rattle.std.proofs.Common.{◌≡◌, ℕ, ◌<◌, false, get_or}
use Rattle.sp_lex.specs.declared.token.Token.{Token}
use Rattle.sp_stmt.specs.Tokens.{is_comma}
use Rattle.sp_stmt.proofs.data.item_len.Given as goal

abbrev pub invariant-loop-i : goal.invariant-loop-i
invariant-loop-i l = (k : ℕ) (d : Token) → k < l.i → is_comma l.source (get_or l.tokens k d) ≡ false
