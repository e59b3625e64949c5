-- The examples: what the test of the step answers on them.
use Rattle.std.proofs.Common.{◌≡◌, sym, ◌∙◌, ℤ, true, false, List, true≢false}
use Rattle.sp_term.specs.Tree.{Tree}
use Rattle.sp_linear.specs.Linear.{IsSmall, Follows}
use Rattle.sp_linear.specs.code.Tests.{follows, is_small}
use Rattle.sp_linear.proofs.DecideLemmas.{follows_exact, small_from, small_to}

pub yes : (n0 : ℤ) (by : List (ℤ × Tree)) (goal : Tree) → follows n0 by goal ≡ true → Follows n0 by goal
yes n0 by goal h = (follows_exact n0 by goal).0 h

pub no : (n0 : ℤ) (by : List (ℤ × Tree)) (goal : Tree) → follows n0 by goal ≡ false → ¬ (Follows n0 by goal)
no n0 by goal h f = true≢false (sym ((follows_exact n0 by goal).1 f) ∙ h)

pub is_small_yes : (n0 : ℤ) (by : List (ℤ × Tree)) (goal : Tree) → is_small n0 by goal ≡ true → IsSmall n0 by goal
is_small_yes n0 by goal h = small_from n0 by goal h

pub is_small_no : (n0 : ℤ) (by : List (ℤ × Tree)) (goal : Tree) → is_small n0 by goal ≡ false → ¬ (IsSmall n0 by goal)
is_small_no n0 by goal h f = true≢false (sym (small_to n0 by goal f) ∙ h)
