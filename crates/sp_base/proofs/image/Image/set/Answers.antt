use Rattle.std.proofs.Common.{ap, ◌∙◌, ◌<◌, arith}
use Rattle.std.specs.Ordering.{nat_cmp}
use Rattle.std.specs.FinMap as maps
use Rattle.std.proofs.lemmas.Map.Views.{All-keys-insert_entry, All-values-insert_entry}
use Rattle.sp_base.proofs.ImageLaws.{cells-insert}
use Rattle.sp_base.proofs.image.Image.set.Goals as goal

pub invariant_of-self-2 : goal.invariant_of-self-2
invariant_of-self-2 c = record {
  addresses = rw c.in_ok-insert.ensures.entries (All-keys-insert_entry nat_cmp c.args.a c.args.byte (λ a. a < 65536) _ c.self.invariant.addresses (omega arith));
  bytes = rw c.in_ok-insert.ensures.entries (All-values-insert_entry nat_cmp c.args.a c.args.byte (λ b. b < 256) _ c.self.invariant.bytes (omega arith));
}

pub returns-clause-ok : goal.returns-clause-ok
returns-clause-ok c = cells-insert c.self.inside.bytes.entries c.insert.new.self.entries c.args.a c.args.byte c.in_ok-insert.ensures.updates.0 ∙ ap (λ m. maps.insert m c.args.a c.args.byte) c.self.view_is
