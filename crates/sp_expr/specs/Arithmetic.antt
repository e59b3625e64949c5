-- The operators on sixteen-bit numbers.
use Rattle.std.specs.Prelude.{ℕ, ◌+◌, ◌-◌, ◌*◌, ◌/◌, ◌%◌, ◌^◌, ◌==◌, nat_lt, if◌then◌else◌, Option, Some, None, bit_and, bit_or, bit_xor}
use Rattle.std.specs.Option.{option_map}
use Rattle.sp_expr.specs.declared.word.Operator.{Operator}
use Rattle.sp_expr.specs.declared.word.Operator.TheVariants.{Times, Divide, Modulo, ShiftLeft, ShiftRight, Plus, Minus, And, Or, Xor}

-- the value, modulo 65,536; none where the divisor is zero
abbrev pub combined : Operator → ℕ → ℕ → Option ℕ
combined Times a b = Some (a * b % 65536)
combined Divide a b = if b == 0 then None else Some (a / b)
combined Modulo a b = if b == 0 then None else Some (a % b)
combined ShiftLeft a b = Some (if nat_lt b 16 then a * 2 ^ b % 65536 else 0)
combined ShiftRight a b = Some (if nat_lt b 16 then a / 2 ^ b else 0)
combined Plus a b = Some ((a + b) % 65536)
combined Minus a b = Some ((a + 65536 - b) % 65536)
combined And a b = Some (bit_and a b)
combined Or a b = Some (bit_or a b)
combined Xor a b = Some (bit_xor a b)

-- the value of an operation on values; none where one of them has none
abbrev pub applied : Operator → Option ℕ → Option ℕ → Option ℕ
applied operator None right = None
applied operator (Some a) None = None
applied operator (Some a) (Some b) = combined operator a b

-- NOT: every bit complemented
abbrev pub inverted : Option ℕ → Option ℕ
inverted value = option_map (λ v. bit_xor v 65535) value

-- the ranks of operators, the tightest first; NOT has rank 3
abbrev pub rank_of : Operator → ℕ
rank_of Times = 1
rank_of Divide = 1
rank_of Modulo = 1
rank_of ShiftLeft = 1
rank_of ShiftRight = 1
rank_of Plus = 2
rank_of Minus = 2
rank_of And = 4
rank_of Or = 5
rank_of Xor = 5
