use Rattle.std.proofs.Common.{subst}
use Rattle.sp_expr.specs.declared.setting.Setting.TheVariants.{Statement}
use Rattle.sp_expr.specs.Parsing.{IsWithin}
use Rattle.sp_expr.proofs.KeptLemmas.{kept_within}
use Rattle.sp_expr.proofs.expr.Expr.as_slice.Goals as goal

pub returns-clause-expression : goal.returns-clause-expression
returns-clause-expression c = subst (IsWithin Statement) c.self.view_is (kept_within c.self.inside.words.items c.self.invariant)
