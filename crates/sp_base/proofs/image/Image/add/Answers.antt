use Rattle.std.proofs.Common.{sym, ap, ◌∙◌, ◌<◌, arith}
use Rattle.std.specs.Option.{is_some}
use Rattle.std.specs.Ordering.{nat_cmp}
use Rattle.std.specs.FinMap as maps
use Rattle.std.proofs.lemmas.Map.Views.{All-keys-insert_entry, All-values-insert_entry}
use Rattle.sp_base.proofs.ImageLaws.{cells-insert, get-cells}
use Rattle.sp_base.proofs.PlaceLaws.{put_back, no_key}
use Rattle.sp_base.proofs.image.Image.add.Goals as goal

pub invariant_of-self-in-Some : goal.invariant_of-self-in-Some
invariant_of-self-in-Some c = record {
  addresses = rw c.in_ok-insert.ensures.entries (All-keys-insert_entry nat_cmp c.args.a c.in-Some.old (λ a. a < 65536) _
      (rw c.in_ok-old.ensures.entries (All-keys-insert_entry nat_cmp c.args.a c.args.byte (λ a. a < 65536) _ c.self.invariant.addresses (omega arith))) (omega arith));
  bytes = rw c.in_ok-insert.ensures.entries (All-values-insert_entry nat_cmp c.args.a c.in-Some.old (λ b. b < 256) _
      (rw c.in_ok-old.ensures.entries (All-values-insert_entry nat_cmp c.args.a c.args.byte (λ b. b < 256) _ c.self.invariant.bytes (omega arith))) (omega arith));
}

pub returns-in-Some-clause-ok : goal.returns-in-Some-clause-ok
returns-in-Some-clause-ok c =
    let here = get-cells c.self.inside.bytes.entries c.args.a ∙ sym c.in_ok-old.ensures.old ∙ c.in-Some.is in
    let one = cells-insert c.self.inside.bytes.entries c.insert.new.self.entries c.args.a c.args.byte c.in_ok-old.ensures.updates.0 in
    let two = cells-insert c.insert.new.self.entries c.insert-in-Some.new.self.entries c.args.a c.in-Some.old c.in_ok-insert.ensures.updates.0 in (
      ap (λ m. maps.contains_key m c.args.a) (sym c.self.view_is) ∙ ap is_some here,
      two ∙ ap (λ m. maps.insert m c.args.a c.in-Some.old) one ∙ put_back (maps.from_entries c.self.inside.bytes.entries) c.args.a c.args.byte c.in-Some.old here ∙ c.self.view_is,
    )

pub invariant_of-self-in_default : goal.invariant_of-self-in_default
invariant_of-self-in_default c = record {
  addresses = rw c.in_ok-old.ensures.entries (All-keys-insert_entry nat_cmp c.args.a c.args.byte (λ a. a < 65536) _ c.self.invariant.addresses (omega arith));
  bytes = rw c.in_ok-old.ensures.entries (All-values-insert_entry nat_cmp c.args.a c.args.byte (λ b. b < 256) _ c.self.invariant.bytes (omega arith));
}

pub returns-clause-ok : goal.returns-clause-ok
returns-clause-ok c =
    let here = get-cells c.self.inside.bytes.entries c.args.a ∙ sym c.in_ok-old.ensures.old in (
      ap (λ m. maps.contains_key m c.args.a) (sym c.self.view_is) ∙ ap is_some here ∙ no_key c.in_ok-old.field-0 c.in_default.not-Some,
      cells-insert c.self.inside.bytes.entries c.insert.new.self.entries c.args.a c.args.byte c.in_ok-old.ensures.updates.0 ∙ ap (λ m. maps.insert m c.args.a c.args.byte) c.self.view_is,
    )
