use Rattle.sp_hex.proofs.LoadLaws.{one_core}
use Rattle.sp_hex.proofs.laws.one_loading.Goals as goal

pub returns : goal.returns
returns c = one_core
