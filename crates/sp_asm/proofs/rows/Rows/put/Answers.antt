use Rattle.std.proofs.Common.{length, sym, ◌∙◌}
use Rattle.std.proofs.lemmas.Bool.{eqb-true}
use Rattle.sp_asm.proofs.RowLaws.{placed_nothing}
use Rattle.sp_asm.proofs.rows.Rows.put.Goals as goal

pub returns-then-is_empty-clause-image : goal.returns-then-is_empty-clause-image
returns-then-is_empty-clause-image c = placed_nothing c.args.bytes.now c.args.address c.args.self.now.image (eqb-true (length c.args.bytes.now) 0 (sym c.is_empty.ensures ∙ c.if-is_empty.true))
