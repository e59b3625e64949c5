use Rattle.std.proofs.Common.{sym, ap, subst, ◌∙◌, arith}
use Rattle.std.specs.FinMap as maps
use Rattle.std.specs.Map.{keys_of}
use Rattle.std.proofs.lemmas.Map.Entries.{length-keys_of}
use Rattle.std.proofs.lemmas.Map.Views.{length-le_from_below}
use Rattle.sp_base.specs.Image.{AreCells}
use Rattle.sp_base.proofs.ImageLaws.{entries-cells, len-cells}
use Rattle.sp_base.proofs.image.Image.len.Goals as goal

pub overflow_cast-result : goal.overflow_cast-result
overflow_cast-result c =
    let few = length-le_from_below 65536 (keys_of c.self.inside.bytes.entries) c.len.ensures.ordered c.self.invariant.addresses in
    omega (arith, few, length-keys_of c.self.inside.bytes.entries, c.len.ensures.len)

pub returns-clause-len : goal.returns-clause-len
returns-clause-len c = c.len.ensures.len ∙ sym (len-cells c.self.inside.bytes.entries c.len.ensures.ordered) ∙ ap maps.len c.self.view_is

pub returns-clause-within : goal.returns-clause-within
returns-clause-within c =
    let few = length-le_from_below 65536 (keys_of c.self.inside.bytes.entries) c.len.ensures.ordered c.self.invariant.addresses in
    omega (arith, few, length-keys_of c.self.inside.bytes.entries, c.len.ensures.len)

pub returns-clause-in_memory : goal.returns-clause-in_memory
returns-clause-in_memory c = subst AreCells (sym (entries-cells c.self.inside.bytes.entries c.len.ensures.ordered) ∙ ap maps.entries c.self.view_is) c.self.invariant
