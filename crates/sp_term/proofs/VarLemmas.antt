-- The test of two variables in code is that of definitions.
use Rattle.std.proofs.Common.{◌≡◌, subst, rules, true}
use Rattle.std.proofs.lemmas.Bool.Decides.{same_from_decides}
use Rattle.sp_term.specs.declared.var.Var.{Var}
use Rattle.sp_term.specs.Free.{var_eq}
use Rattle.sp_term.specs.contracts.var.VarPartialEq.TheImpl.{eq-value}
use Rattle.sp_term.proofs.FreeLemmas.{var_self}
use Rattle.sp_term.proofs.ReplaceLemmas.{var_one}

coded_one : (v w : Var) → eq-value.it v w ≡ true → v ≡ w
coded_one v w h = search rules

coded_self : (v w : Var) → v ≡ w → eq-value.it v w ≡ true
coded_self v w h = search rules

one_self : (v w : Var) → v ≡ w → var_eq v w ≡ true
one_self v w h = subst (λ u. var_eq v u ≡ true) h (var_self v)

pub eq_is_var_eq : (v w : Var) → eq-value.it v w ≡ var_eq v w
eq_is_var_eq v w = same_from_decides {P = v ≡ w} (eq-value.it v w) (var_eq v w) (coded_one v w, coded_self v w) (var_one v w, one_self v w)
