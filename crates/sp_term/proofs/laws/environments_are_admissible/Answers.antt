use Rattle.std.proofs.Common.{refl}
use Rattle.sp_term.specs.declared.var.Var.TheVariants as var
use Rattle.sp_term.proofs.EnvironmentLemmas.{zeros_meet, register_is_byte, flag_is_bit}
use Rattle.sp_term.proofs.laws.environments_are_admissible.Goals as goal

pub returns : goal.returns
returns c = record {
  some = zeros_meet;
  register = register_is_byte;
  flag = flag_is_bit;
  stack = λ image region changes e a h from to. (h.memory var.Mem refl).stack a from to;
}
