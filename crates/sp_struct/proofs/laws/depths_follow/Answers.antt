use Rattle.sp_struct.proofs.StructuredLemmas.{onward, home}
use Rattle.sp_struct.proofs.laws.depths_follow.Goals as goal

pub returns : goal.returns
returns c = record {
  onward = λ p r k to routine s d e good at. onward p good r k routine s at to d e;
  home = λ p r k routine s d good at. home p good r k routine s at d;
}
