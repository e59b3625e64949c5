-- Numbers of variables `k_j`, as a set to which those of a term are added.
use Rattle.std.specs.Prelude.{◌≡◌, ℕ, ◌≤◌, ◌<◌, Bool, true, false, ◌||◌}
use Rattle.std.specs.Ordering.{nat_cmp}
use Rattle.std.specs.FinSet as set
use Rattle.sp_term.specs.declared.var.Var.TheVariants as var
use Rattle.sp_term.specs.Tree.{Tree}
use Rattle.sp_term.specs.Free.{is_free}

abbrev pub Numbers : Type 0
Numbers = set.FinSet nat_cmp

-- whether `k_j` stands in a tree
abbrev pub has : Tree → ℕ → Bool
has t j = is_free (var.Any j) t

abbrev pub either : (ℕ → Bool) → (ℕ → Bool) → ℕ → Bool
either p q j = p j || q j

-- the numbers that pass a test were added
pub record Gains (old : Numbers) (passes : ℕ → Bool) (new : Numbers) : Type 0 where
  pub each : (j : ℕ) → set.contains new j ≡ (set.contains old j || passes j)

-- j is the least number from 1 that isn't there
pub record IsFirstAbsent (used : Numbers) (j : ℕ) : Type 0 where
  pub positive : 1 ≤ j
  pub absent : set.contains used j ≡ false
  pub least : (i : ℕ) → 1 ≤ i → i < j → set.contains used i ≡ true
