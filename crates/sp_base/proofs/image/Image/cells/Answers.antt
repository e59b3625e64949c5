use Rattle.std.proofs.Common.{sym, ap, subst, ◌∙◌}
use Rattle.std.specs.FinMap as maps
use Rattle.sp_base.specs.Image.{AreCells}
use Rattle.sp_base.proofs.ImageLaws.{entries-cells}
use Rattle.sp_base.proofs.image.Image.cells.Goals as goal

pub returns-clause-rest : goal.returns-clause-rest
returns-clause-rest c = c.iter.ensures.rest ∙ sym (entries-cells c.self.inside.bytes.entries c.iter.ensures.ordered) ∙ ap maps.entries c.self.view_is

pub returns-clause-in_memory : goal.returns-clause-in_memory
returns-clause-in_memory c = subst AreCells (sym (entries-cells c.self.inside.bytes.entries c.iter.ensures.ordered) ∙ ap maps.entries c.self.view_is) c.self.invariant
