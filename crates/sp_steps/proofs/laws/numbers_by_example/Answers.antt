use Rattle.std.proofs.Common.{ℕ, ap}
use Rattle.std.specs.FinMap as maps
use Rattle.std.specs.Ordering.{nat_cmp}
use Rattle.sp_term.specs.declared.var.Var.TheVariants as var
use Rattle.sp_term.specs.Tree.{Variable}
use Rattle.std.specs.Prelude.{pos}
use Rattle.sp_steps.specs.Rows.{loaded_byte}
use Rattle.sp_steps.proofs.laws.numbers_by_example.Goals as goal

pub returns-clause-no_byte : goal.returns-clause-no_byte
returns-clause-no_byte c = λ g. ap (λ b. loaded_byte (Variable var.MemEntry) (pos 0) b g) (maps.get-empty {X = ℕ} nat_cmp 0)
