-- What the verifier counts of a source of the first form.
use Rattle.std.specs.Prelude.{◌≡◌, ℕ}
use Rattle.sp_first.specs.declared.verifier.Accepted.{Accepted}

-- one routine with one condition, which is true by simplification
pub record AreCounts (routines conditions simplified scripted : ℕ) : Type 0 where
  pub one_routine : routines ≡ 1
  pub one_condition : conditions ≡ 1
  pub one_simplified : simplified ≡ 1
  pub none_scripted : scripted ≡ 0

abbrev pub HasCounts : Accepted → Type 0
HasCounts a = AreCounts a.routines a.conditions a.simplified a.scripted
