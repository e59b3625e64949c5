use Rattle.std.specs.Prelude.{◌≡◌, ℕ, length}
use Rattle.sp_struct.specs.code.Bits.{has}
use Rattle.sp_struct.specs.code.Calls.{calls_first, words_for}
use Rattle.sp_struct.proofs.calls.row_of.Given as goal

abbrev pub invariant-places : goal.invariant-places
invariant-places l = (length l.row ≡ words_for l.routines) × ((c : ℕ) → has l.row c ≡ calls_first l.routines l.code l.at c)
