use Rattle.std.proofs.Common.{sym, ap, ◌∙◌}
use Rattle.std.specs.FinMap as maps
use Rattle.sp_base.proofs.ImageLaws.{get-cells}
use Rattle.sp_base.proofs.image.Image.get.Goals as goal

pub returns : goal.returns
returns c = c.copied.ensures ∙ c.get.ensures.value ∙ sym (get-cells c.self.inside.bytes.entries c.args.a) ∙ ap (λ m. maps.get m c.args.a) c.self.view_is
