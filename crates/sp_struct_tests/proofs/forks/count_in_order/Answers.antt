use Rattle.sp_struct_tests.proofs.CutLemmas.{cut_at}
use Rattle.sp_struct_tests.proofs.forks.count_in_order.Goals as goal

pub walks-requires-clause-cycles : goal.walks-requires-clause-cycles
walks-requires-clause-cycles g c = cut_at c.args.unit.now c.requires.structured c.args.routine c.requires.routine
