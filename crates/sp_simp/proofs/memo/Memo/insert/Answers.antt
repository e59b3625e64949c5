use Rattle.std.proofs.Common.{ap, ◌∙◌}
use Rattle.std.specs.FinMap as maps
use Rattle.sp_simp.proofs.MemoLemmas.{cells-insert}
use Rattle.sp_simp.proofs.memo.Memo.insert.Goals as goal

pub returns-clause-ok : goal.returns-clause-ok
returns-clause-ok c = cells-insert c.self.inside.forms.entries c.insert.new.self.entries c.args.n.0 c.args.r.0 c.in-Ok.ensures.updates.0 ∙ ap (λ m. maps.insert m c.args.n.0 c.args.r.0) c.self.view_is
