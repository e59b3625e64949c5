use Rattle.std.proofs.Common.{rules, tests}
use Rattle.sp_first.proofs.WordLaws.{line_begins}
use Rattle.sp_first.proofs.words.split_line.Goals as goal

pub loop-n-init : goal.loop-n-init
loop-n-init c = line_begins c.args.bytes.now (search (rules, tests))
