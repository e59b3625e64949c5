use Rattle.std.proofs.Common.{◌≡◌, length, take, map}
use Rattle.std.specs.Char.{to_ascii_uppercase}
use Rattle.sp_lex.proofs.names.name.Given as goal

abbrev pub invariant-loop-i : goal.invariant-loop-i
invariant-loop-i l = (length l.bytes ≡ 31) × (take l.i l.bytes ≡ map to_ascii_uppercase (take l.i l.text))
