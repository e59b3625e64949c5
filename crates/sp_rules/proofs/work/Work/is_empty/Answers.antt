use Rattle.sp_rules.specs.code.Work.{hypotheses_of}
use Rattle.sp_rules.proofs.WorkLemmas.{empty_is}
use Rattle.sp_rules.proofs.work.Work.is_empty.Goals as goal

pub returns : goal.returns
returns c = empty_is (hypotheses_of c.args.self.now) c.args.self.now.waiting.items _ c.is_empty.result c.args.self.now.waiting.ok.0 c.is_empty.ensures
