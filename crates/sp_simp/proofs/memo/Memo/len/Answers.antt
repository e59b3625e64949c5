use Rattle.std.proofs.Common.{sym, ap, ◌∙◌}
use Rattle.std.specs.FinMap as maps
use Rattle.sp_simp.proofs.MemoLemmas.{len-cells}
use Rattle.sp_simp.proofs.memo.Memo.len.Goals as goal

pub returns : goal.returns
returns c = c.len.ensures.len ∙ sym (len-cells c.self.inside.forms.entries c.len.ensures.ordered) ∙ ap maps.len c.self.view_is
