use Rattle.std.proofs.Common.{sym, ◌∙◌, false}
use Rattle.sp_simp.specs.Simplified.{all_conjuncts}
use Rattle.sp_simp.specs.code.Marks.{left, trees_at}
use Rattle.sp_simp.proofs.MarkLemmas.{kept_goals}
use Rattle.sp_simp.proofs.kept.Kept.keep_goals.Goals as goal

pub returns : goal.returns
returns c =
    c.in_ok-keep_all.ensures.left
    ∙ kept_goals (left c.args.self.now) (all_conjuncts (trees_at c.args.pool.now c.args.ns.now)) false (sym c.if-self.false ∙ c.requires.kept.contradiction)
