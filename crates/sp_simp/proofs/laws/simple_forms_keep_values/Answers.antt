use Rattle.sp_simp.proofs.ValueLemmas.{simple_value}
use Rattle.sp_simp.proofs.laws.simple_forms_keep_values.Goals as goal

pub returns : goal.returns
returns c = record {
  ranges = λ stack e t r s w h f. simple_value stack e w f s h;
  admissible = λ image stack changes e t r s a h f. simple_value stack e (record { range = a.range; memory = a.memory }) f s h;
}
