use Rattle.sp_command_laws.proofs.FormLemmas.{have_forms}
use Rattle.sp_command_laws.proofs.laws.words_have_forms.Goals as goal

pub returns : goal.returns
returns c = have_forms
