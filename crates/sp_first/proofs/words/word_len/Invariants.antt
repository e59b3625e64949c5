use Rattle.std.proofs.Common.{◌≡◌, ℕ, ◌+◌, ◌-◌, length}
use Rattle.sp_first.proofs.WordLaws.{WordReaches}
use Rattle.sp_first.proofs.words.word_len.Given as goal

abbrev pub invariant-loop-n : goal.invariant-loop-n
invariant-loop-n l = (m : ℕ) × (l.n ≡ m + 1) × WordReaches l.line m

abbrev pub decreases-loop-n : goal.decreases-loop-n
decreases-loop-n l = length l.line - l.n
