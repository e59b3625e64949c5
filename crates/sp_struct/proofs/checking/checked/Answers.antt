use Rattle.sp_struct.proofs.KeptLemmas.{all_kept}
use Rattle.sp_struct.proofs.checking.checked.Goals as goal

pub sound_of-requires-clause-structured : goal.sound_of-requires-clause-structured
sound_of-requires-clause-structured c = all_kept c.args.unit.now c.in_ok-check_stack.ensures
