use Rattle.std.proofs.Common.{sym, ap, ◌∙◌}
use Rattle.std.specs.FinMap as maps
use Rattle.sp_simp.proofs.MemoLemmas.{get-cells}
use Rattle.sp_simp.proofs.memo.Memo.get.Goals as goal

pub returns : goal.returns
returns c = c.copied.ensures ∙ c.get.ensures.value ∙ sym (get-cells c.self.inside.forms.entries c.args.n.0) ∙ ap (λ m. maps.get m c.args.n.0) c.self.view_is
