-- What waits for an operand while an expression is read.
use Rattle.std.specs.Prelude.{ℕ, zero, suc, Bool, true, false, not, Option, Some, None}
use Rattle.sp_expr.specs.declared.word.Operator.{Operator}
use Rattle.sp_expr.specs.declared.level.Pending.{Pending}
use Rattle.sp_expr.specs.declared.level.Level.{Level}
use Rattle.sp_expr.specs.Arithmetic.{applied, inverted, rank_of}

abbrev pub level : Option Pending → Option Pending → Bool → Option Pending → Option Pending → Level
level either both invert sum product = record { either = either; both = both; inverted = invert; sum = sum; product = product }

abbrev pub settled : Option Pending → Option ℕ → Option ℕ
settled None value = value
settled (Some pending) value = applied pending.operator pending.left value

abbrev pub inverted_if : Bool → Option ℕ → Option ℕ
inverted_if true value = inverted value
inverted_if false value = value

-- the value of what waits up to a rank, with this operand
abbrev pub product_with : Level → Option ℕ → Option ℕ
product_with l operand = settled l.product operand

abbrev pub sum_with : Level → Option ℕ → Option ℕ
sum_with l operand = settled l.sum (product_with l operand)

abbrev pub not_with : Level → Option ℕ → Option ℕ
not_with l operand = inverted_if l.inverted (sum_with l operand)

abbrev pub both_with : Level → Option ℕ → Option ℕ
both_with l operand = settled l.both (not_with l operand)

abbrev pub value_with : Level → Option ℕ → Option ℕ
value_with l operand = settled l.either (both_with l operand)

abbrev pub pending : Operator → Option ℕ → Option Pending
pending operator left = Some (record { operator = operator; left = left })

-- the level after an operator of this rank that follows an operand
abbrev pub after_rank : ℕ → Operator → Level → Option ℕ → Level
after_rank zero operator l operand = l
after_rank (suc zero) operator l operand = level l.either l.both l.inverted l.sum (pending operator (product_with l operand))
after_rank (suc (suc zero)) operator l operand = level l.either l.both l.inverted (pending operator (sum_with l operand)) None
after_rank (suc (suc (suc zero))) operator l operand = l
after_rank (suc (suc (suc (suc zero)))) operator l operand = level l.either (pending operator (both_with l operand)) false None None
after_rank (suc (suc (suc (suc (suc rank))))) operator l operand = level (pending operator (value_with l operand)) None false None None

abbrev pub after_operator : Operator → Level → Option ℕ → Level
after_operator operator l operand = after_rank (rank_of operator) operator l operand

abbrev pub after_sign : Operator → Level → Level
after_sign sign l = level l.either l.both l.inverted (pending sign (Some 0)) l.product

abbrev pub after_not : Level → Level
after_not l = level l.either l.both (not l.inverted) l.sum l.product

abbrev pub empty : Level
empty = level None None false None None
